-- The test whether some reading of bucket p or later has waited out the hold, as bounds on its time and its arrival: a time is of bucket p
-- or later where it is not before that bucket's start, and an arrival is due where it is not behind the tick less the hold.
use Rattle.std.proofs.Common.{◌≡◌, ℕ, suc, ◌+◌, ◌-◌, ◌*◌, ◌<◌, ◌≤◌, Bool, true, false, ◌&&◌, leb, List, [], ◌∷◌, length, get_or, sym, refl, div-lt_iff_lt-mul, le-div_iff_mul-le, arith, le-leb, leb-false, leb-true}
use mathlib.Core.Bool.{and-false}
use borrow.Author.Tests.{lt-leb}
use Rattle.clock.specs.declared.ArrivalTick.{ArrivalTick}
use Rattle.clock.specs.Buckets.{bucket_of}
use Rattle.clock.specs.Hold.{is_due}
use Rattle.store_columns.specs.Tests.{some_of_both, is_late_due}

-- ---- pairs

no_pair : (test : ℕ → ℕ → Bool) (xs ys : List ℕ) → ((i y : ℕ) → test (get_or xs i 0) y ≡ false) → some_of_both test xs ys ≡ false
unfolding some_of_both
no_pair test [] ys none = refl
no_pair test (x ∷ xs) [] none = refl
no_pair test (x ∷ xs) (y ∷ ys) none = rw (none 0 y) (no_pair test xs ys (λ i. none (suc i)))

every_pair : (p q : ℕ → ℕ → Bool) (xs ys : List ℕ) → ((x y : ℕ) → p x y ≡ q x y) → some_of_both p xs ys ≡ some_of_both q xs ys
unfolding some_of_both
every_pair p q [] ys same = refl
every_pair p q (x ∷ xs) [] same = refl
every_pair p q (x ∷ xs) (y ∷ ys) same = rw (same x y, every_pair p q xs ys same)

-- ---- the two bounds

same_order : (a b c d : ℕ) → (a ≤ b → c ≤ d) → (b < a → d < c) → leb a b ≡ leb c d
same_order a b c d f g =
    (elim (leb a b) as (λ t. leb a b ≡ t → t ≡ leb c d) [
      | true ↦ λ e. sym (le-leb c d (f (leb-true a b e)))
      | false ↦ λ e. sym (lt-leb c d (g (leb-false a b e)))
    ])
    refl

-- a time is of bucket p or later where it is not before that bucket's start
pub late_test : (length p t : ℕ) → 0 < length → leb p (bucket_of length (record { 0 = t })) ≡ leb (p * length) t
unfolding bucket_of
late_test length p t h =
    sym (same_order (p * length) t p (bucket_of length (record { 0 = t }))
    (le-div_iff_mul-le {k = length} {x = p} {y = t} h).1
    (div-lt_iff_lt-mul {k = length} {x = t} {y = p} h).1)

-- an arrival is due where it is not behind the tick less the hold
pub due_test : (hold : ℕ) (a now : ArrivalTick) → hold ≤ now.0 → is_due hold a now ≡ leb a.0 (now.0 - hold)
unfolding is_due
due_test hold a now h = same_order (a.0 + hold) now.0 a.0 (now.0 - hold) (λ g. omega arith) (λ g. omega arith)

module _ (bucket p hold : ℕ) (now : ArrivalTick) (times arrivals : List ℕ) where
  -- no time reaches bucket p
  pub none_late :
      0 < bucket → ((i : ℕ) → get_or times i 0 < p * bucket) → some_of_both (is_late_due bucket p hold now) times arrivals ≡ false
  unfolding is_late_due
  none_late h below =
      no_pair (is_late_due bucket p hold now) times arrivals
      (λ i a. rw (late_test bucket p (get_or times i 0) h, lt-leb (p * bucket) (get_or times i 0) (below i)))

  -- the clock has not come to the hold
  pub none_due : now.0 < hold → some_of_both (is_late_due bucket p hold now) times arrivals ≡ false
  unfolding is_late_due is_due
  none_due h =
      no_pair (is_late_due bucket p hold now) times arrivals
      (λ i a. rw (lt-leb (a + hold) now.0 (omega arith)) (and-false (leb p (bucket_of bucket (record { 0 = get_or times i 0 })))))

  -- otherwise the two bounds are the test
  pub some_late_due : 0 < bucket → hold ≤ now.0
      → some_of_both (λ t a. leb (p * bucket) t && leb a (now.0 - hold)) times arrivals ≡ some_of_both (is_late_due bucket p hold now) times arrivals
  unfolding is_late_due
  some_late_due h g =
      every_pair (λ t a. leb (p * bucket) t && leb a (now.0 - hold)) (is_late_due bucket p hold now) times arrivals
      (λ t a. rw (late_test bucket p t h, due_test hold (record { 0 = a }) now g))
