-- Reading time cut into buckets (document 01, section 'Buckets and the operator'). Numbers have no width here, so nothing wraps.
use Rattle.std.specs.Prelude.{ℕ, ◌+◌, ◌*◌, ◌/◌, Bool, leb}
use Rattle.clock.specs.declared.ReadingTime.{ReadingTime}

-- the bucket that a time falls into
unfoldable pub bucket_of : ℕ → ReadingTime → ℕ
bucket_of bucket t = t.0 / bucket

-- where bucket j ends, which is where the next one starts
unfoldable pub bucket_end : ℕ → ℕ → ℕ
bucket_end bucket j = j * bucket + bucket

-- a boundary finishes bucket j: nothing of the bucket lies behind it
unfoldable pub finishes : ℕ → ReadingTime → ℕ → Bool
finishes bucket boundary j = leb (bucket_end bucket j) boundary.0
