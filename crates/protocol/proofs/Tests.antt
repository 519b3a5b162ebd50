-- Laws on two tests that imply each other, and on tests joined by `&&`. Each is by cases.
use Prim.Native.Nat.{ℕ, ◌≤◌, min}
use mathlib.Core.Path.{◌≡◌, refl, sym}
use mathlib.Core.Bool.{Bool, true, false, ◌&&◌}
use native.Mathlib.Omega.{arith}
use lib.Dec.{leb}
use borrow.Author.Tests.{leb-true, le-leb}
use Rattle.store.proofs.Choices.{and_parts}

-- two tests that imply each other are the same
pub both_ways : (a b : Bool) → (a ≡ true → b ≡ true) → (b ≡ true → a ≡ true) → a ≡ b
both_ways true b f g = sym (f refl)
both_ways false true f g = g refl
both_ways false false f g = refl

-- a test that another one implies adds nothing to it
pub and_implied : (a b : Bool) → (b ≡ true → a ≡ true) → a && b ≡ b
and_implied true b h = refl
and_implied false true h = h refl
and_implied false false h = refl

-- below the least of two: below both
pub leb_min : (x a b : ℕ) → leb x (min a b) ≡ leb x a && leb x b
leb_min x a b =
    both_ways (leb x (min a b)) (leb x a && leb x b)
    (λ e. let h : x ≤ min a b = leb-true _ _ e in rw (le-leb x a (omega arith), le-leb x b (omega arith)))
    (λ e.
    let (h, g) = and_parts (leb x a) (leb x b) e in
    let low : x ≤ a = leb-true _ _ h in
    let high : x ≤ b = leb-true _ _ g in
    le-leb x (min a b) (omega arith))
