-- The mean of a sum over a count (document 01, section 'Buckets and the operator'; document 02, W1, for the half).
use Rattle.std.specs.Prelude.{◌≡◌, ◌⊎◌, ℕ, suc, ◌+◌, ◌*◌, ◌%◌, ◌≤◌, ℤ, pos, negsuc, neg_ℤ}
use Rattle.signed.specs.Nearest.{nearest}

-- q is the whole number nearest to a / n: at most half above it, at most half below it, and even where it is exactly half
pub record IsNearest (a n q : ℕ) : Type 0 where
  pub above : 2 * (q * n) ≤ 2 * a + n
  pub below : 2 * a ≤ 2 * (q * n) + n
  pub even : ((2 * (q * n) ≡ 2 * a + n) ⊎ (2 * a ≡ 2 * (q * n) + n)) → q % 2 ≡ 0

-- the sum's magnitude over the count, to the nearest whole (`nearest` is the only such number), with the sum's sign; 0 of no values
unfoldable pub mean : ℤ → ℕ → ℤ
mean (pos a) count = pos (nearest a count)
mean (negsuc a) count = neg_ℤ (pos (nearest (suc a) count))
