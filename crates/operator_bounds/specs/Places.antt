-- Tests place by place, of operator and checkpoint at once or of one's sums: where they hold, the bounds need not be looked at.
use Rattle.std.specs.Prelude.{◌≡◌, ℕ, zero, suc, ◌*◌, ◌^◌, Bool, true, false, ◌&&◌, ℤ, pos, negsuc}
use Rattle.std.specs.Prelude.{◌==◌, nat_le, nat_lt, slice_index, slice_index_or, unsigned_abs}
use Rattle.operator.specs.Meters.{meter_count}
use Rattle.operator.specs.declared.Operator.{Operator}

-- every place below n passes the test
unfoldable pub all_below : (ℕ → Bool) → ℕ → Bool
all_below test zero = true
all_below test (suc n) = all_below test n && test n

-- the two sums are the same number
unfoldable pub same_sum : ℤ → ℤ → Bool
same_sum (pos a) (pos b) = a == b
same_sum (pos a) (negsuc b) = false
same_sum (negsuc a) (pos b) = false
same_sum (negsuc a) (negsuc b) = a == b

-- the count and the sum at place i
abbrev pub count_in : Operator → ℕ → ℕ
count_in o i = slice_index o.counts i

abbrev pub sum_in : Operator → ℕ → ℤ
sum_in o i = slice_index_or o.sums i (pos 0)

-- the sum's magnitude is at most 2^30 for each value
unfoldable pub sum_small : ℤ → ℕ → Bool
sum_small sum count = nat_le (unsigned_abs sum) (2 ^ 30 * count)

-- so it is at place i
unfoldable pub sum_small_at : Operator → ℕ → Bool
sum_small_at o i = sum_small (sum_in o i) (count_in o i)

module _ (operator checkpoint : Operator) where
  -- the count at place i is below 2^k in both
  unfoldable pub counts_below_at : ℕ → ℕ → Bool
  counts_below_at k i = nat_lt (count_in operator i) (2 ^ k) && nat_lt (count_in checkpoint i) (2 ^ k)

  -- the count at place i is the same in both
  unfoldable pub counts_equal_at : ℕ → Bool
  counts_equal_at i = count_in operator i == count_in checkpoint i

  -- the sum at place i is 0 in both
  unfoldable pub sums_zero_at : ℕ → Bool
  sums_zero_at i = same_sum (sum_in operator i) (pos 0) && same_sum (sum_in checkpoint i) (pos 0)

  -- it is the same in both
  unfoldable pub sums_equal_at : ℕ → Bool
  sums_equal_at i = same_sum (sum_in operator i) (sum_in checkpoint i)

  -- counts and sums are the same in both
  unfoldable pub meters_equal : Bool
  meters_equal = all_below counts_equal_at meter_count && all_below sums_equal_at meter_count

  -- a number below a power of two exactly if every count of both is
  abbrev pub CountsOver : ℕ → Type 0
  CountsOver over = (k : ℕ) → nat_lt over (2 ^ k) ≡ all_below (counts_below_at k) meter_count
