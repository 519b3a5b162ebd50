-- Laws on buckets: which times lie in a bucket, and which buckets a boundary finishes. Each is a bound on a product read as one on a
-- quotient.
use mathlib.Core.Path.{◌≡◌}
use mathlib.Core.Bool.{true}
use mathlib.Core.Logic.{◌↔◌}
use Prim.Native.Nat.{ℕ, ◌*◌, ◌<◌, ◌≤◌, ◌^◌}
use native.Mathlib.Omega.{arith}
use native.Mathlib.Nat.{div-mul-le_self, lt-div-mul-add, div-eq_of_lt-le}
use borrow.Author.Tests.{leb-true, le-leb}
use Rattle.clock.specs.declared.ReadingTime.{ReadingTime}
use Rattle.clock.specs.Buckets.{bucket_of, bucket_end, finishes}

-- a time lies in bucket j exactly from the bucket's start to below its end
pub in_bucket_lem :
    (bucket j : ℕ) (t : ReadingTime) → 0 < bucket → (bucket_of bucket t ≡ j) ↔ ((j * bucket ≤ t.0) × (t.0 < bucket_end bucket j))
unfolding bucket_of bucket_end
in_bucket_lem bucket j t p = (
  λ e. rw (← e) (omega (arith, div-mul-le_self t.0 bucket, lt-div-mul-add {a = t.0} {b = bucket} p)),
  λ h. div-eq_of_lt-le bucket h.0 (omega arith),
)

-- a boundary finishes a bucket exactly if it is at or above the end
pub finishes_le : (bucket : ℕ) (m : ReadingTime) (j : ℕ) → (finishes bucket m j ≡ true) ↔ (bucket_end bucket j ≤ m.0)
unfolding finishes
finishes_le bucket m j = (leb-true (bucket_end bucket j) m.0, le-leb (bucket_end bucket j) m.0)

-- the end of a finished bucket is a time of 32 bits
pub finished_end_fits : (bucket : ℕ) (m : ReadingTime) (j : ℕ) → m.0 < 2 ^ 32 → finishes bucket m j ≡ true → bucket_end bucket j < 2 ^ 32
finished_end_fits bucket m j h e = omega (arith, (finishes_le bucket m j).0 e)
