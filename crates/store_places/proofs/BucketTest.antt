-- The test whether a time is one of a bucket, by the bucket's start and end in place of a quotient.
use mathlib.Core.Path.{◌≡◌, refl}
use mathlib.Core.Bool.{Bool, true, false, ◌&&◌}
use Prim.Native.Nat.{ℕ, suc, ◌-◌, ◌*◌, ◌<◌, ◌≤◌, ◌^◌, min}
use native.Mathlib.Omega.{arith}
use lib.Dec.{leb, ltb, eqb}
use borrow.Author.Tests.{leb-true, ltb-true, le-leb, lt-ltb, eqb-true, eqb-false}
use Rattle.clock.specs.declared.ReadingTime.{ReadingTime}
use Rattle.clock.specs.Buckets.{bucket_of, bucket_end}
use Rattle.clock.proofs.Buckets.{in_bucket_lem}
use Rattle.store.proofs.Choices.{and_parts, false_unless}
use Rattle.store_places.specs.Places.{is_time_of, is_from_to}

-- a test that holds exactly from a bucket's start to below its end
module _ (length j : ℕ) (t : ReadingTime) (h : 0 < length) (b : Bool) where
  bounds_test :
      (j * length ≤ t.0 → t.0 < bucket_end length j → b ≡ true) → (b ≡ true → (j * length ≤ t.0) × (t.0 < bucket_end length j)) →
      b ≡ eqb (bucket_of length t) j
  bounds_test holds tells =
      (elim (eqb (bucket_of length t) j) as (λ c. eqb (bucket_of length t) j ≡ c → b ≡ c) [
        | true ↦ λ s. let (above, below) = (in_bucket_lem length j t h).0 (eqb-true (bucket_of length t) j s) in holds above below
        | false ↦ λ s. false_unless b (λ p. eqb-false (bucket_of length t) j s ((in_bucket_lem length j t h).1 (tells p)))
      ])
      refl

pub bucket_test :
    (length j end : ℕ) (t : ReadingTime) → 0 < length → end ≡ bucket_end length j →
    leb (end - length) t.0 && ltb t.0 end ≡ eqb (bucket_of length t) j
unfolding bucket_end
bucket_test length j end t h e =
    bounds_test length j t h (leb (end - length) t.0 && ltb t.0 end)
    (λ above below. rw (le-leb (end - length) t.0 (omega arith), lt-ltb t.0 end (omega arith)))
    (λ p.
    let (low, high) = and_parts (leb (end - length) t.0) (ltb t.0 end) p in
    (omega (arith, leb-true (end - length) t.0 low), omega (arith, ltb-true t.0 end high)))

-- a time of 32 bits is one of bucket j where it lies from the bucket's start to its last time, or to the last time that there is
pub range_test :
    (length j : ℕ) (first last : ReadingTime) (t : ℕ) → 0 < length → first.0 ≡ j * length →
    suc last.0 ≡ min (bucket_end length j) (2 ^ 32) → t < 2 ^ 32 → is_from_to first last t ≡ is_time_of true length j t
unfolding bucket_end is_from_to is_time_of
range_test length j first last t h e f g =
    bounds_test length j (record { 0 = t }) h (leb first.0 t && leb t last.0)
    (λ above below. rw (le-leb first.0 t (omega arith), le-leb t last.0 (omega arith)))
    (λ p.
    let (low, high) = and_parts (leb first.0 t) (leb t last.0) p in
    (omega (arith, leb-true first.0 t low), omega (arith, leb-true t last.0 high)))

-- no time of 32 bits is one of a bucket that starts behind them
pub late_bucket : (length j t : ℕ) → 0 < length → 2 ^ 32 ≤ j * length → t < 2 ^ 32 → is_time_of true length j t ≡ false
unfolding is_time_of
late_bucket length j t h e g =
    false_unless (eqb (bucket_of length (record { 0 = t })) j)
    (λ p.
    let (above, below) = (in_bucket_lem length j (record { 0 = t }) h).0 (eqb-true (bucket_of length (record { 0 = t })) j p) in
    omega arith)
