-- Sums of values of 32 bits, by their signs: one value more keeps a sum in the range of its count, and so few values fit 64 bits.
use Prim.Native.Nat.{ℕ, suc, ◌+◌, ◌-◌, ◌*◌, ◌≤◌, ◌<◌, ◌^◌}
use mathlib.Core.Path.{◌≡◌, refl}
use mathlib.Core.Bool.{true, false, cond}
use native.Mathlib.Omega.{arith}
use borrow.Author.Tests.{ltb-true}
use lib.Dec.{ltb}
use lib.IntN.{ℤ, pos, negsuc, sub_ℕ, ◌+ℤ◌}
use lib.Signed.{mag}
use Rattle.signed.specs.Range.{InRange}

-- a - b, each within its side of the range
sub_range : (n a b : ℕ) → a ≤ (2 ^ 31 - 1) * n → b ≤ 2 ^ 31 * n → InRange (sub_ℕ a b) n
sub_range n a b h g =
    (elim (ltb a b) as (λ t. ltb a b ≡ t → InRange (cond t (negsuc (b - suc a)) (pos (a - b))) n) [
      | true ↦ λ e. let k : a < b = ltb-true a b e in omega arith
      | false ↦ λ e. omega arith
    ])
    refl

pub add_range : (n : ℕ) (z v : ℤ) → InRange z n → mag v < 2 ^ 31 → InRange (z +ℤ v) (n + 1)
add_range n (pos a) (pos b) h g = omega arith
add_range n (pos a) (negsuc b) h g = sub_range (n + 1) a (suc b) (omega arith) (omega arith)
add_range n (negsuc a) (pos b) h g = sub_range (n + 1) b (suc a) (omega arith) (omega arith)
add_range n (negsuc a) (negsuc b) h g = omega arith

-- a sum of fewer than 2^32 values fits 64 bits
pub range_fits : (n : ℕ) (z : ℤ) → n < 2 ^ 32 → InRange z n → mag z < 2 ^ 63
range_fits n (pos a) h g = omega arith
range_fits n (negsuc a) h g = omega arith
