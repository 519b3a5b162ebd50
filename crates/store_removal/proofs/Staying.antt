-- The readings that stay, by the first place whose time is of the bucket or of another: up to the first all stay, up to the second none. A
-- list is taken apart at the first element that passes a test, and the rows of a share are such a list.
use Prim.Native.Nat.{ℕ, ◌+◌, ◌-◌, ◌≤◌}
use mathlib.Core.Path.{◌≡◌, refl, sym, ◌∙◌, ap}
use mathlib.Core.Bool.{Bool, true, false, not}
use mathlib.Core.List.{List, [], ◌∷◌, ◌++◌, map}
use native.Mathlib.Omega.{arith}
use lib.ListN.{take, drop}
use Rattle.store.specs.declared.Reading.{Reading}
use Rattle.store.specs.Lists.{keep}
use Rattle.store.specs.Order.{is_in}
use Rattle.store.specs.Columns.{Columns, store_length, rows_from}
use Rattle.store.proofs.Columns.{take_rows, drop_rows}
use Rattle.store_places.specs.Places.{run_until, first_place, is_time_of}
use Rattle.store_places.proofs.FirstPlaces.{first_within}
use Rattle.store_columns.proofs.Rows.{times_share}

-- ---- a list taken apart at the first element that passes a test

module _ {A : Type 0} (test : A → Bool) where
  -- what stands before it is kept by the opposite test
  keep_until :
      (xs : List A) → keep (λ (x : A). not (test x)) xs ≡
      take (run_until test xs) xs ++ keep (λ (x : A). not (test x)) (drop (run_until test xs) xs)
  unfolding keep run_until
  keep_until [] = refl
  keep_until (x ∷ xs) =
      (elim (test x) as (λ b. test x ≡ b → keep (λ (y : A). not (test y)) (x ∷ xs) ≡
      take (run_until test (x ∷ xs)) (x ∷ xs) ++ keep (λ (y : A). not (test y)) (drop (run_until test (x ∷ xs)) (x ∷ xs))) [
        | true ↦ λ e. rw (e, e)
        | false ↦ λ e. rw e (ap (λ (l : List A). x ∷ l) (keep_until xs))
      ])
      refl

  -- and left out by the test
  keep_from : (xs : List A) → keep test xs ≡ keep test (drop (run_until test xs) xs)
  unfolding keep run_until
  keep_from [] = refl
  keep_from (x ∷ xs) =
      (elim (test x) as (λ b. test x ≡ b → keep test (x ∷ xs) ≡ keep test (drop (run_until test (x ∷ xs)) (x ∷ xs))) [
        | true ↦ λ e. rw (e, e)
        | false ↦ λ e. rw e (keep_from xs)
      ])
      refl

run_map : {A B : Type 0} (f : A → B) (test : B → Bool) (xs : List A) → run_until test (map f xs) ≡ run_until (λ (x : A). test (f x)) xs
unfolding run_until
run_map f test [] = refl
run_map f test (x ∷ xs) = rw (run_map f test xs)

-- ---- the rows of a share taken apart at the first place whose time passes a test

module _ (x : Columns) (test : ℕ → Bool) (at end place : ℕ) (h : end ≤ store_length x) (g : at ≤ end)
    (e : place ≡ first_place test at end x.times) where
  -- it is as far from the first row as the first row that passes
  run_rows : run_until (λ (q : Reading). test q.time.0) (rows_from x at (end - at)) ≡ place - at
  unfolding first_place
  run_rows =
      sym (run_map (λ (q : Reading). q.time.0) test (rows_from x at (end - at))) ∙
      ap (run_until test) (times_share x at (end - at) (omega arith)) ∙
      omega arith

  place_within : (at ≤ place) × (place ≤ end)
  place_within = rw e (first_within test at end x.times g)

  rows_before : take (place - at) (rows_from x at (end - at)) ≡ rows_from x at (place - at)
  rows_before = take_rows x at (end - at) (place - at) (omega (arith, place_within))

  rows_from_lem : drop (place - at) (rows_from x at (end - at)) ≡ rows_from x place (end - place)
  rows_from_lem =
      let there : at + (place - at) ≡ place = omega (arith, place_within) in
      let left : end - at - (place - at) ≡ end - place = omega (arith, place_within) in
      drop_rows x at (end - at) (place - at) (omega (arith, place_within)) ∙ rw (there, left)

-- ---- the readings that stay

-- those that are not of bucket j
abbrev pub stays : ℕ → ℕ → Reading → Bool
stays bucket j q = not (is_in bucket j q)

-- those of them from a place on and before another
abbrev pub staying : ℕ → ℕ → Columns → ℕ → ℕ → List Reading
staying bucket j x at end = keep (stays bucket j) (rows_from x at (end - at))

module _ (bucket j : ℕ) (x : Columns) (at end place : ℕ) (h : end ≤ store_length x) (g : at ≤ end) where
  -- up to the bucket's first, all stay
  pub staying_run :
      place ≡ first_place (is_time_of true bucket j) at end x.times →
      staying bucket j x at end ≡ rows_from x at (place - at) ++ staying bucket j x place end
  unfolding is_time_of is_in
  staying_run e =
      let test = is_time_of true bucket j in
      keep_until (is_in bucket j) (rows_from x at (end - at)) ∙
      rw (run_rows x test at end place h g e, rows_before x test at end place h g e, rows_from_lem x test at end place h g e)

  -- up to the first of another bucket, none stays
  pub staying_none : place ≡ first_place (is_time_of false bucket j) at end x.times → staying bucket j x at end ≡ staying bucket j x place end
  unfolding is_time_of is_in
  staying_none e =
      let test = is_time_of false bucket j in
      keep_from (stays bucket j) (rows_from x at (end - at)) ∙
      rw (run_rows x test at end place h g e, rows_from_lem x test at end place h g e)
