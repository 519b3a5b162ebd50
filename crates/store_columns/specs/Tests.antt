-- Tests that look at single columns.
use Rattle.std.specs.Prelude.{◌≡◌, ℕ, ◌^◌, Bool, false, ◌&&◌, ◌||◌, List, [], ◌∷◌, nat_eq, nat_le, nat_lt}
use Rattle.store.specs.Lists.{all_of}
use Rattle.store_columns.specs.Shape.{is_reading_kind}
use Rattle.clock.specs.declared.ArrivalTick.{ArrivalTick}
use Rattle.clock.specs.Buckets.{bucket_of}
use Rattle.clock.specs.Hold.{is_due}

-- the number is a power of two
pub record PowerOfTwo (n : ℕ) : Type 0 where
  pub exponent : ℕ
  pub is : n ≡ 2 ^ exponent

-- some pair passes the test
unfoldable pub some_of_both : {A B : Type 0} → (A → B → Bool) → List A → List B → Bool
some_of_both test [] bs = false
some_of_both test (a ∷ rest) [] = false
some_of_both test (a ∷ rest) (b ∷ bs) = test a b || some_of_both test rest bs

-- every kind is that of a kept reading, and every meter below the limit
abbrev pub are_right : ℕ → List ℕ → List ℕ → Bool
are_right limit kinds meters = all_of is_reading_kind kinds && all_of (λ m. nat_lt m limit) meters

-- no bit of any word is set
unfoldable pub are_zero : List ℕ → Bool
are_zero words = all_of (λ w. nat_eq w 0) words

-- a time of bucket p or later, whose arrival has waited out the hold
unfoldable pub is_late_due : ℕ → ℕ → ℕ → ArrivalTick → ℕ → ℕ → Bool
is_late_due length p hold now t a =
    nat_le p (bucket_of length (record { 0 = t })) && is_due hold (record { 0 = a }) now
