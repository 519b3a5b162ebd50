-- Laws on the text of a whole number: by its sign, and how long it is.
use mathlib.Core.Path.{◌≡◌, refl}
use mathlib.Core.Bool.{true, false}
use mathlib.Core.List.{◌∷◌}
use Prim.Native.Nat.{ℕ, suc, ◌<◌, ◌≤◌, ◌^◌}
use native.Mathlib.Omega.{arith}
use borrow.Author.Tests.{ltb-true}
use lib.IntN.{ℤ, pos, negsuc, nat_abs}
use lib.ListN.{length}
use lib.Signed.{mag, lt_z}
use mir.Syntax.{w32, w64}
use mir.Val.{SFits}
use Rattle.decimal.specs.Decimal.{digits, decimal}
use Rattle.decimal.proofs.Digits.{digits_short}

-- by the sign
pub decimal_below_zero : (z : ℤ) → lt_z z (pos 0) ≡ true → decimal z ≡ 45 ∷ digits (nat_abs z)
unfolding decimal
decimal_below_zero (pos n) e = let h : n < 0 = ltb-true n 0 e in absurd (omega arith)
decimal_below_zero (negsuc n) e = refl

pub decimal_from_zero : (z : ℤ) → lt_z z (pos 0) ≡ false → decimal z ≡ digits (nat_abs z)
unfolding decimal
decimal_from_zero (pos n) e = refl
decimal_from_zero (negsuc n) e = let h : ◌≡◌ {A = ℕ} 0 1 = cc in absurd (omega arith)

-- what bounds a signed number's width bounds its magnitude, but for one
nat_abs_mag : (z : ℤ) → nat_abs z ≤ suc (mag z)
nat_abs_mag (pos n) = omega arith
nat_abs_mag (negsuc n) = omega arith

pub nat_abs64_below : (z : ℤ) → SFits w64 z → nat_abs z < 10 ^ 19
nat_abs64_below z f = omega (arith, nat_abs_mag z, f.sfits)

-- a magnitude of k digits at most, and a minus
pub decimal_short : (k : ℕ) (z : ℤ) → 0 < k → k ≤ 20 → nat_abs z < 10 ^ k → length (decimal z) ≤ suc k
unfolding decimal
decimal_short k (pos n) p l h = omega (arith, digits_short k n p l h)
decimal_short k (negsuc n) p l h = omega (arith, digits_short k (suc n) p l h)

-- of 32 bits and of 64, the least of each among them
pub decimal32_short : (z : ℤ) → SFits w32 z → length (decimal z) ≤ 11
decimal32_short z f = decimal_short 10 z (omega arith) (omega arith) (omega (arith, nat_abs_mag z, f.sfits))

pub decimal64_short : (z : ℤ) → SFits w64 z → length (decimal z) ≤ 20
decimal64_short z f = decimal_short 19 z (omega arith) (omega arith) (nat_abs64_below z f)

-- a number of 32 bits has at most ten digits, one of 8 bits at most three
pub unsigned32_short : (n : ℕ) → n < 2 ^ 32 → length (decimal (pos n)) ≤ 10
unfolding decimal
unsigned32_short n h = digits_short 10 n (omega arith) (omega arith) (omega arith)

pub unsigned8_short : (n : ℕ) → n < 256 → length (decimal (pos n)) ≤ 3
unfolding decimal
unsigned8_short n h = digits_short 3 n (omega arith) (omega arith) (omega arith)
