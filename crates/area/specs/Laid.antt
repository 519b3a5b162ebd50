-- An area with bytes laid over it.
use Rattle.std.specs.Prelude.{ℕ, List, ◌++◌, length, drop}
use Rattle.std.proofs.lemmas.List.Edits.{sets}

-- the area with these bytes laid over it from `at` on
unfoldable pub laid : List ℕ → ℕ → List ℕ → List ℕ
laid area at bytes = sets area at bytes

-- the area with these bytes in front, and behind them what it held there
unfoldable pub in_front : List ℕ → List ℕ → List ℕ
in_front bytes area = bytes ++ drop (length bytes) area
