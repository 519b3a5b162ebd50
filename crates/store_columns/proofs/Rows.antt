-- The rows of a share and its columns: a field of the rows is a share of the field's column, the rows at the places where a column passes a
-- test are the rows whose field passes it, and rows written over themselves change nothing. One law over the field, by induction on the
-- number of rows; each column is an instance.
use Rattle.std.proofs.Common.{◌≡◌, ℕ, zero, suc, ◌+◌, ◌-◌, ◌≤◌, Bool, cond, List, [], ◌∷◌, ◌++◌, map, length, get_or, replicate, ℤ, pos, sym, refl, ap, append-nil, arith, length-append, drop-cons}
use mathlib.Core.List.{map-append}
use lib.ListN.{length-map}
use lib.Seq.{sets, set-get_or}
use Rattle.store.specs.declared.Reading.{Reading}
use Rattle.store.specs.Lists.{keep}
use Rattle.store.specs.Columns.{Columns, columns_of, store_length, row_at, rows_from, zeroed}
use Rattle.store.specs.Parts.{with_rows_at, with_kept, share}
use Rattle.store.proofs.Choices.{cond_map}
use Rattle.store.proofs.Columns.{room, length_rows_from}
use Rattle.store.proofs.Runs.{sets_sets}

-- the places, counted from `at`, of what passes the test
unfoldable pub places_where : {A : Type 0} → (A → Bool) → ℕ → List A → List ℕ
places_where test at [] = []
places_where test at (x ∷ xs) = cond (test x) (at ∷ places_where test (suc at) xs) (places_where test (suc at) xs)

-- ---- a field of a store's rows, and its column

-- this field of the store's rows stands in this column, with `blank` behind its end
abbrev pub FieldIn : {A : Type 0} → Columns → (Reading → A) → A → List A → Type 0
FieldIn x f blank column = (i : ℕ) → f (row_at x i) ≡ get_or column i blank

module _ {A : Type 0} (x : Columns) (f : Reading → A) (blank : A) (column : List A) (e : FieldIn x f blank column) where
  pub field_share : (base n : ℕ) → base + n ≤ length column → map f (rows_from x base n) ≡ share base n column
  unfolding rows_from share
  field_share base zero h = refl
  field_share base (suc n) h =
      rw (e base, drop-cons column base blank (omega arith), field_share (suc base) n (omega arith))

  pub field_own : (base n : ℕ) → sets column base (map f (rows_from x base n)) ≡ column
  unfolding rows_from
  field_own base zero = refl
  field_own base (suc n) = rw (e base, set-get_or column base blank) (field_own (suc base) n)

  -- the rows at the places where a column passes a test are the rows whose field passes it
  pub rows_where :
      (test : A → Bool) (base n : ℕ) → base + n ≤ length column →
      map (λ (i : ℕ). row_at x i) (places_where test base (share base n column)) ≡ keep (λ (q : Reading). test (f q)) (rows_from x base n)
  unfolding places_where share keep rows_from
  rows_where test base zero h = refl
  rows_where test base (suc n) h =
      let found : List ℕ = places_where test (suc base) (share (suc base) n column) in
      rw (drop-cons column base blank (omega arith), e base, ← rows_where test (suc base) n (omega arith))
      (sym (cond_map (map (λ (i : ℕ). row_at x i)) (test (get_or column base blank)) (base ∷ found) found))

-- the six
module _ (x : Columns) (base n : ℕ) (h : base + n ≤ store_length x) where
  pub ids_share : map (λ (r : Reading). r.id) (rows_from x base n) ≡ share base n x.ids
  unfolding row_at
  ids_share = field_share x (λ (r : Reading). r.id) 0 x.ids (λ i. refl) base n (room (base + n) x h).ids

  pub times_share : map (λ (r : Reading). r.time.0) (rows_from x base n) ≡ share base n x.times
  unfolding row_at
  times_share = field_share x (λ (r : Reading). r.time.0) 0 x.times (λ i. refl) base n (room (base + n) x h).times

  pub values_share : map (λ (r : Reading). r.value) (rows_from x base n) ≡ share base n x.values
  unfolding row_at
  values_share = field_share x (λ (r : Reading). r.value) (pos 0) x.values (λ i. refl) base n (room (base + n) x h).values

  pub arrivals_share : map (λ (r : Reading). r.arrival.0) (rows_from x base n) ≡ share base n x.arrivals
  unfolding row_at
  arrivals_share = field_share x (λ (r : Reading). r.arrival.0) 0 x.arrivals (λ i. refl) base n (room (base + n) x h).arrivals

  pub kinds_share : map (λ (r : Reading). r.kind) (rows_from x base n) ≡ share base n x.kinds
  unfolding row_at
  kinds_share = field_share x (λ (r : Reading). r.kind) 0 x.kinds (λ i. refl) base n (room (base + n) x h).kinds

  pub meters_share : map (λ (r : Reading). r.meter) (rows_from x base n) ≡ share base n x.meters
  unfolding row_at
  meters_share = field_share x (λ (r : Reading). r.meter) 0 x.meters (λ i. refl) base n (room (base + n) x h).meters

-- ---- rows written

-- what two runs of stores do alike to every field's column they do alike to the store
same_columns : (x : Columns) (a b : ℕ) (rs ss : List Reading) → ((A : Type 0) (f : Reading → A) (blank : A) (column : List A) → FieldIn x f blank column → sets column a (map f rs) ≡ sets column b (map f ss)) → with_rows_at x a rs ≡ with_rows_at x b ss
unfolding row_at with_rows_at
same_columns x a b rs ss same =
    λ t.
    record {
      ids = same ℕ (λ (r : Reading). r.id) 0 x.ids (λ i. refl) t;
      times = same ℕ (λ (r : Reading). r.time.0) 0 x.times (λ i. refl) t;
      values = same ℤ (λ (r : Reading). r.value) (pos 0) x.values (λ i. refl) t;
      arrivals = same ℕ (λ (r : Reading). r.arrival.0) 0 x.arrivals (λ i. refl) t;
      kinds = same ℕ (λ (r : Reading). r.kind) 0 x.kinds (λ i. refl) t;
      meters = same ℕ (λ (r : Reading). r.meter) 0 x.meters (λ i. refl) t;
    }

-- a store's own rows, written where they stand, change nothing: only what is written behind them counts
pub own_rows : (x : Columns) (base n : ℕ) (rs : List Reading) → with_rows_at x base (rows_from x base n ++ rs) ≡ with_rows_at x (base + n) rs
own_rows x base n rs =
    same_columns x base (base + n) (rows_from x base n ++ rs) rs
    (λ (A : Type 0) f blank column e.
    let at : base + n ≡ base + length (map f (rows_from x base n)) = rw (length-map (rows_from x base n) f, length_rows_from x base n) in
    rw (map-append f (rows_from x base n) rs, ← sets_sets (map f (rows_from x base n)) (map f rs) column base (base + n) at, field_own x f blank column e base n))

-- a share that keeps all its readings is as it was
pub kept_all : (x : Columns) (base n : ℕ) → with_kept x base n (rows_from x base n) ≡ x
unfolding with_kept with_rows_at
kept_all x base n =
    let none : n - length (rows_from x base n) ≡ 0 = omega (arith, length_rows_from x base n) in
    rw none (own_rows x base n [])

-- a share that keeps one reading more has it in its first free place
pub kept_more :
    (x : Columns) (base n : ℕ) (r : Reading) → with_kept x base n (rows_from x base n ++ r ∷ []) ≡ with_rows_at x (base + n) (r ∷ [])
unfolding with_kept
kept_more x base n r =
    let none : n - length (rows_from x base n ++ r ∷ []) ≡ 0 = omega (arith, length-append (rows_from x base n) (r ∷ []), length_rows_from x base n) in
    rw (none, append-nil (rows_from x base n ++ r ∷ [])) (own_rows x base n (r ∷ []))

-- ---- places zeroed

map_replicate : {A B : Type 0} (f : A → B) (n : ℕ) (a : A) → map f (replicate n a) ≡ replicate n (f a)
map_replicate f zero a = refl
map_replicate f (suc n) a = ap (λ (l : List _). f a ∷ l) (map_replicate f n a)

pub zeroed_columns :
    (x : Columns) (from n : ℕ) → with_rows_at x from (replicate n zeroed) ≡ columns_of (sets x.ids from (replicate n 0))
    (sets x.times from (replicate n 0)) (sets x.values from (replicate n (pos 0))) (sets x.arrivals from (replicate n 0))
    (sets x.kinds from (replicate n 0)) (sets x.meters from (replicate n 0))
unfolding with_rows_at zeroed
zeroed_columns x from n =
    rw (
      map_replicate (λ (r : Reading). r.id) n zeroed,
      map_replicate (λ (r : Reading). r.time.0) n zeroed,
      map_replicate (λ (r : Reading). r.value) n zeroed,
      map_replicate (λ (r : Reading). r.arrival.0) n zeroed,
      map_replicate (λ (r : Reading). r.kind) n zeroed,
      map_replicate (λ (r : Reading). r.meter) n zeroed,
    )

-- columns that are zeroed hold zeroed readings
pub zeroed_rows :
    (x : Columns) (from n : ℕ) {ids times arrivals kinds meters : List ℕ} {values : List ℤ} → ids ≡ sets x.ids from (replicate n 0) →
    times ≡ sets x.times from (replicate n 0) → values ≡ sets x.values from (replicate n (pos 0)) →
    arrivals ≡ sets x.arrivals from (replicate n 0) → kinds ≡ sets x.kinds from (replicate n 0) →
    meters ≡ sets x.meters from (replicate n 0) →
    columns_of ids times values arrivals kinds meters ≡ with_rows_at x from (replicate n zeroed)
zeroed_rows x from n i t v a k m = rw (i, t, v, a, k, m) (sym (zeroed_columns x from n))
