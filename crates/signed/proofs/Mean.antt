-- The mean has the sum's sign and is the whole number nearest to the quotient, of two equally near the even one. That of a sum in range is
-- no larger than the values' bound, so it fits 32 bits; of no value it is 0. By cases on the sign.
use mathlib.Core.Path.{◌≡◌, refl, ap}
use Prim.Native.Nat.{ℕ, suc, ◌-◌, ◌*◌, ◌<◌, ◌≤◌, ◌^◌}
use native.Mathlib.Omega.{arith}
use lib.IntN.{ℤ, pos, negsuc, neg_ℤ, nat_abs}
use mir.Syntax.{w32}
use mir.Val.{SFits}
use Rattle.signed.specs.Nearest.{nearest}
use Rattle.signed.specs.Mean.{IsNearest, mean}
use Rattle.signed.specs.Range.{InRange}
use Rattle.signed.proofs.Negation.{neg_fits}
use Rattle.signed.proofs.Nearest.{nearest_none, nearest_nearest, nearest_le}

-- ---- the mean

-- claims of their own, which say what the mean is: of a sum that is not below zero, of one below, and of no value
pub mean_nearest : (a n : ℕ) → 0 < n → (q : ℕ) × (mean (pos a) n ≡ pos q) × IsNearest a n q
unfolding mean
mean_nearest a n p = (nearest a n, refl, nearest_nearest a n p)

pub mean_nearest_below_zero : (a n : ℕ) → 0 < n → (q : ℕ) × (mean (negsuc a) n ≡ neg_ℤ (pos q)) × IsNearest (suc a) n q
unfolding mean
mean_nearest_below_zero a n p = (nearest (suc a) n, refl, nearest_nearest (suc a) n p)

pub mean_none : (z : ℤ) → mean z 0 ≡ pos 0
unfolding mean
mean_none (pos a) = ap pos (nearest_none a)
mean_none (negsuc a) = ap (λ (k : ℕ). neg_ℤ (pos k)) (nearest_none (suc a))

pub mean_fits : (z : ℤ) (n : ℕ) → InRange z n → SFits w32 (mean z n)
unfolding mean
mean_fits (pos a) n h = record { sfits = omega (arith, nearest_le a n (2 ^ 31 - 1) h) }
mean_fits (negsuc a) n h = neg_fits (nearest (suc a) n) (nearest_le (suc a) n (2 ^ 31) h)

pub range_nat_abs : (z : ℤ) (n : ℕ) → InRange z n → nat_abs z ≤ 2 ^ 31 * n
range_nat_abs (pos a) n h = omega arith
range_nat_abs (negsuc a) n h = omega arith

-- what bounds a mean
pub ruleset within_range = (mean_fits, range_nat_abs, nearest_le)
