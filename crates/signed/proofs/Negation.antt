-- The negation of a number in range, and a test on what the machine reads back. By cases on the sign.
use mathlib.Core.Path.{◌≡◌}
use mathlib.Core.Bool.{true}
use Prim.Native.Nat.{ℕ, zero, suc, ◌≤◌, ◌^◌}
use native.Mathlib.Omega.{arith}
use lib.Pow.{pow_pos}
use lib.IntN.{ℤ, pos, neg_ℤ}
use lib.Signed.{lt_z}
use mir.Syntax.{Width}
use mir.Val.{SFits, to_z, of_z, hbits}
use mir.Facts.{to_z-of_z}

pub below_zero : {w : Width} {z : ℤ} → SFits w z → lt_z (to_z w (of_z w z)) (pos 0) ≡ true → lt_z z (pos 0) ≡ true
below_zero f t = rw (to_z-of_z f) at t

pub neg_fits : {w : Width} (k : ℕ) → k ≤ 2 ^ hbits w → SFits w (neg_ℤ (pos k))
neg_fits {w} zero h = record { sfits = pow_pos (hbits w) }
neg_fits (suc k) h = record { sfits = omega arith }
