-- All ids are at most n exactly if the greatest of them is.
use Prim.Native.Nat.{ℕ, ◌≤◌, max}
use mathlib.Core.Path.{◌≡◌, sym, ◌∙◌, ap}
use mathlib.Core.Bool.{◌&&◌}
use mathlib.Core.List.{List, [], ◌∷◌}
use native.Mathlib.Omega.{arith}
use borrow.Author.Tests.{leb-true, le-leb}
use lib.Dec.{leb}
use Rattle.store.specs.Lists.{all_of}
use Rattle.store.proofs.Choices.{and_parts}
use Rattle.protocol.proofs.Tests.{both_ways}
use Rattle.call_acknowledgements.specs.SpanOf.{greatest_of}

-- not below the greatest of two: not below both
leb_max : (n a b : ℕ) → leb (max a b) n ≡ leb a n && leb b n
leb_max n a b =
    both_ways (leb (max a b) n) (leb a n && leb b n)
    (λ e. let h : max a b ≤ n = leb-true _ _ e in rw (le-leb a n (omega arith), le-leb b n (omega arith)))
    (λ e.
    let (h, g) = and_parts (leb a n) (leb b n) e in
    let first : a ≤ n = leb-true _ _ h in
    let second : b ≤ n = leb-true _ _ g in
    le-leb (max a b) n (omega arith))

pub all_at_most : (n : ℕ) (ids : List ℕ) → all_of (λ (id : ℕ). leb id n) ids ≡ leb (greatest_of ids) n
unfolding all_of greatest_of
all_at_most n [] = sym (le-leb 0 n (omega arith))
all_at_most n (a ∷ ids) = ap (◌&&◌ (leb a n)) (all_at_most n ids) ∙ sym (leb_max n a (greatest_of ids))
