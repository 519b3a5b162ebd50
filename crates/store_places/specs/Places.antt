-- Places of readings.
use Rattle.std.specs.Prelude.{ℕ, suc, ◌+◌, ◌-◌, Bool, cond, not, ◌&&◌, List, [], ◌∷◌, leb, eqb}
use Rattle.clock.specs.declared.ReadingTime.{ReadingTime}
use Rattle.clock.specs.Buckets.{bucket_of}
use Rattle.store.specs.Parts.{share}

-- how many elements stand before the first that passes the test
unfoldable pub run_until : {A : Type 0} → (A → Bool) → List A → ℕ
run_until test [] = 0
run_until test (x ∷ xs) = cond (test x) 0 (suc (run_until test xs))

-- the place of the first element from `from` on and before `end` that passes the test; `end`, if there is none
unfoldable pub first_place : {A : Type 0} → (A → Bool) → ℕ → ℕ → List A → ℕ
first_place test from end xs = from + run_until test (share from (end - from) xs)

-- a time of bucket j, or, where `inside` is false, one of another bucket
unfoldable pub is_time_of : Bool → ℕ → ℕ → ℕ → Bool
is_time_of inside length j t = cond inside (eqb (bucket_of length (record { 0 = t })) j) (not (eqb (bucket_of length (record { 0 = t })) j))

-- a time from the first to the last
unfoldable pub is_from_to : ReadingTime → ReadingTime → ℕ → Bool
is_from_to first last t = leb first.0 t && leb t last.0
