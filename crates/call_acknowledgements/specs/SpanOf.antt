-- The least and the greatest of some ids.
use Rattle.std.specs.Prelude.{ℕ, max, List, [], ◌∷◌}
use Rattle.protocol.specs.Displays.{least_of}
use Rattle.call_acknowledgements.specs.declared.Span.{Span}

unfoldable pub greatest_of : List ℕ → ℕ
greatest_of [] = 0
greatest_of (a ∷ ids) = max a (greatest_of ids)

abbrev pub span_of : List ℕ → Span
span_of ids = record { least = least_of ids; greatest = greatest_of ids }
