-- A share cut above an id. Where ids rise, those up to the id stand in front, so that the kept readings are the share's first rows, and
-- only places behind them are written.
use Prim.Native.Nat.{ℕ, ◌+◌, ◌-◌, ◌≤◌}
use mathlib.Core.Path.{◌≡◌, refl, sym, ◌∙◌, ap}
use mathlib.Core.Bool.{Bool, true, false, cond}
use mathlib.Core.List.{List, [], ◌∷◌, map}
use native.Mathlib.Omega.{arith}
use borrow.Author.Tests.{ltb-true, leb-false, lt-leb}
use lib.Dec.{leb, ltb}
use lib.ListN.{length, take, replicate, length-map}
use Rattle.std.proofs.Common.{count_by}
use Rattle.std.proofs.lemmas.List.Sums.{length-filter, count_by-le-length}
use Rattle.std.specs.List.{filter}
use Rattle.store.specs.declared.Reading.{Reading}
use Rattle.store.specs.Lists.{keep}
use Rattle.store.specs.Columns.{Columns, store_length, rows_from, zeroed}
use Rattle.store.specs.Parts.{with_rows_at, with_kept, share}
use Rattle.store.proofs.Choices.{and_parts}
use Rattle.store.proofs.Keeping.{keep_map, length_keep}
use Rattle.store.proofs.Shares.{length_share_le}
use Rattle.store.proofs.Columns.{length_rows_from, take_rows}
use Rattle.store_columns.specs.Shape.{rises}
use Rattle.store_columns.proofs.Rows.{ids_share, own_rows}

pub rises_behind : (x : ℕ) (xs : List ℕ) → rises (x ∷ xs) ≡ true → rises xs ≡ true
unfolding rises
rises_behind x [] rise = refl
rises_behind x (y ∷ ys) rise = (and_parts (ltb x y) (rises (y ∷ ys)) rise).1

-- as many elements are counted as are kept
kept_by : {A : Type 0} (test : A → Bool) (xs : List A) → filter test xs ≡ keep test xs
unfolding keep
kept_by test [] = refl
kept_by test (x ∷ xs) = rw (kept_by test xs) refl

counted : {A : Type 0} (test : A → Bool) (xs : List A) → count_by test xs ≡ length (keep test xs)
counted test xs = sym (length-filter test xs) ∙ ap length (kept_by test xs)

module _ {A : Type 0} (number : A → ℕ) (last : ℕ) where
  -- behind one that is above the last nothing is kept
  keep_above :
      (x : A) (xs : List A) → leb (number x) last ≡ false → rises (map number (x ∷ xs)) ≡ true → keep (λ y. leb (number y) last) xs ≡ []
  unfolding keep rises
  keep_above x [] above h = refl
  keep_above x (y ∷ xs) above h =
      let (a, b) = and_parts (ltb (number x) (number y)) (rises (map number (y ∷ xs))) h in
      let g : leb (number y) last ≡ false = lt-leb (number y) last (omega (arith, ltb-true (number x) (number y) a, leb-false (number x) last above)) in
      rw g (keep_above y xs g b)

  -- those up to the last are the first ones
  pub keep_front :
      (xs : List A) → rises (map number xs) ≡ true →
      keep (λ y. leb (number y) last) xs ≡ take (length (keep (λ y. leb (number y) last) xs)) xs
  unfolding keep
  keep_front [] h = refl
  keep_front (x ∷ xs) h =
      let rest : List A = keep (λ y. leb (number y) last) xs in
      (elim (leb (number x) last) as (λ t. leb (number x) last ≡ t → cond t (x ∷ rest) rest ≡ take (length (cond t (x ∷ rest) rest)) (x ∷ xs)) [
        | true ↦ λ e. ap (λ (l : List A). x ∷ l) (keep_front xs (rises_behind (number x) (map number xs) h))
        | false ↦ λ e. rw (keep_above x xs e h)
      ]) refl

module _ (x : Columns) (base n id : ℕ) (h : base + n ≤ store_length x) where
  -- as many readings are kept as ids
  pub ids_kept :
      {count m : ℕ} → count ≡ count_by (λ i. leb i id) (share base m x.ids) → m ≡ n →
      count ≡ length (keep (λ (q : Reading). leb q.id id) (rows_from x base n))
  ids_kept e all =
      let kept : List Reading = keep (λ (q : Reading). leb q.id id) (rows_from x base n) in
      let same : length (keep (λ i. leb i id) (share base n x.ids)) ≡ length kept = rw (← ids_share x base n h, keep_map (λ (q : Reading). q.id) (λ i. leb i id) (rows_from x base n)) (length-map kept (λ (q : Reading). q.id)) in
      e ∙ ap (λ k. count_by (λ i. leb i id) (share base k x.ids)) all ∙ counted (λ i. leb i id) (share base n x.ids) ∙ same

  -- and no more than the share has
  pub few_kept : (m : ℕ) {count : ℕ} → count ≡ count_by (λ i. leb i id) (share base m x.ids) → count ≤ m
  few_kept m e = omega (arith, e, count_by-le-length (λ i. leb i id) (share base m x.ids), length_share_le base m x.ids)

  -- zeroes behind the ids that are kept leave the share with the readings that are kept
  pub cut_rows :
      rises (share base n x.ids) ≡ true → (k m : ℕ) → k ≡ length (keep (λ (q : Reading). leb q.id id) (rows_from x base n)) →
      m ≡ n - k →
      with_rows_at x (base + k) (replicate m zeroed) ≡ with_kept x base n (keep (λ (q : Reading). leb q.id id) (rows_from x base n))
  unfolding with_kept
  cut_rows up k m e f =
      let kept : List Reading = keep (λ (q : Reading). leb q.id id) (rows_from x base n) in
      let few : k ≤ n = omega (arith, length_keep (λ (q : Reading). leb q.id id) (rows_from x base n), length_rows_from x base n) in
      let first : kept ≡ rows_from x base k = keep_front (λ (q : Reading). q.id) id (rows_from x base n) (ap rises (ids_share x base n h) ∙ up) ∙ rw (← e) (take_rows x base n k few) in
      rw (← e, ← f, first) (sym (own_rows x base k (replicate m zeroed)))
