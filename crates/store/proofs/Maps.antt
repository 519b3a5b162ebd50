-- `gather` and `sort` look only at time, line and id: a map of the readings that keeps time and id, as one that erases arrivals does, goes
-- through both. The tests that they make have the same values before and after the map.
use Prim.Native.Nat.{ℕ, suc}
use mathlib.Core.Path.{◌≡◌, refl, ◌∙◌, ap}
use mathlib.Core.List.{List, [], ◌∷◌, map, map-map, map-append}
use Rattle.store.specs.declared.Reading.{Reading}
use Rattle.store.specs.Order.{Placed, before, insert, sort, is_in, gather, in_bucket}
use Rattle.store.proofs.Choices.{cond_map}
use Rattle.store.proofs.Pairs.{every_any}
use Rattle.store.proofs.Keeping.{keep_through}

-- a reading changed, its line kept
abbrev pub on_reading : (Reading → Reading) → Placed → Placed
on_reading f a = record { line = a.line; reading = f a.reading }

module _ (f : Reading → Reading) (same_time : (r : Reading) → (f r).time ≡ r.time) (same_id : (r : Reading) → (f r).id ≡ r.id) where
  before_map : (a b : Placed) → before (on_reading f a) (on_reading f b) ≡ before a b
  unfolding before
  before_map a b = rw (same_time a.reading, same_time b.reading, same_id a.reading, same_id b.reading)

  insert_map : (r : Placed) (xs : List Placed) → insert (on_reading f r) (map (on_reading f) xs) ≡ map (on_reading f) (insert r xs)
  unfolding insert
  insert_map r [] = refl
  insert_map r (x ∷ xs) =
      rw (before_map r x, insert_map r xs) (cond_map (map (on_reading f)) (before r x) (r ∷ x ∷ xs) (x ∷ insert r xs))

  pub sort_map : (xs : List Placed) → sort (map (on_reading f) xs) ≡ map (on_reading f) (sort xs)
  unfolding sort
  sort_map [] = refl
  sort_map (x ∷ xs) = ap (insert (on_reading f x)) (sort_map xs) ∙ insert_map x (sort xs)

  is_in_map : (length j : ℕ) (r : Reading) → is_in length j (f r) ≡ is_in length j r
  unfolding is_in
  is_in_map length j r = rw (same_time r)

  pub gather_map :
      (length j n : ℕ) (lines : List (List Reading)) →
      gather length j n (map (map f) lines) ≡ map (on_reading f) (gather length j n lines)
  unfolding gather
  gather_map length j n [] = refl
  gather_map length j n (kept ∷ lines) =
      rw (
        keep_through f (is_in length j) (is_in length j) kept (every_any _ kept (is_in_map length j)),
        gather_map length j (suc n) lines,
      ) (simp (map-map, map-append))

  pub in_bucket_map :
      (length j : ℕ) (lines : List (List Reading)) → in_bucket length j (map (map f) lines) ≡ map (on_reading f) (in_bucket length j lines)
  unfolding in_bucket
  in_bucket_map length j lines = ap sort (gather_map length j 1 lines) ∙ sort_map (gather length j 1 lines)
