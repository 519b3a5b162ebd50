-- The columns and their rows: rows laid into the store are read back from it, and the store's length stays. Each column is one instance of
-- a law over the field.
use Prim.Native.Nat.{ℕ, zero, suc, ◌+◌, ◌-◌, ◌≤◌, ◌<◌}
use mathlib.Core.Path.{◌≡◌, refl, sym, ◌∙◌, ap, ap₂}
use mathlib.Core.List.{List, [], ◌∷◌, ◌++◌, map}
use native.Mathlib.Omega.{arith}
use native.Mathlib.Nat.{zero-add, add-zero}
use lib.IntN.{pos}
use lib.ListN.{length, get_or, take, drop, length-append, length-drop, length-map}
use lib.Seq.{sets, sets-eq, ext_get_or, get_or-append-add, get_or-drop, drop-cons, drop_at}
use Rattle.store.specs.declared.Reading.{Reading}
use Rattle.store.specs.Columns.{with_rows, rows, rows_from, row_at, store_length, Columns, zeroed}
use Rattle.store.specs.Parts.{with_rows_at, share}

-- ---- how long

-- every column has as many places
pub record Room (n : ℕ) (x : Columns) : Type 0 where
  pub ids : n ≤ length x.ids
  pub times : n ≤ length x.times
  pub values : n ≤ length x.values
  pub arrivals : n ≤ length x.arrivals
  pub kinds : n ≤ length x.kinds
  pub meters : n ≤ length x.meters

-- the store's length is the shortest column's
pub room : (n : ℕ) (x : Columns) → n ≤ store_length x → Room n x
unfolding store_length
room n x h =
    record {
      ids = omega arith;
      times = omega arith;
      values = omega arith;
      arrivals = omega arith;
      kinds = omega arith;
      meters = omega arith;
    }

pub length_rows_from : (x : Columns) (i n : ℕ) → length (rows_from x i n) ≡ n
unfolding rows_from
length_rows_from x i zero = refl
length_rows_from x i (suc n) = ap suc (length_rows_from x (suc i) n)

pub length_rows : (x : Columns) (n : ℕ) → length (rows x n) ≡ n
unfolding rows
length_rows x n = length_rows_from x 0 n

-- a column with a field of these readings laid in front
length_column :
    {A : Type 0} (f : Reading → A) (rs : List Reading) (l : List A) → length rs ≤ length l →
    length (map f rs ++ drop (length rs) l) ≡ length l
length_column f rs l h = simp (length-append, length-map, length-drop) (omega arith)

pub store_length_with_rows : (x : Columns) (rs : List Reading) → length rs ≤ store_length x → store_length (with_rows x rs) ≡ store_length x
unfolding store_length with_rows
store_length_with_rows x rs h =
    let r : Room (length rs) x = room (length rs) x h in
    rw (
      length_column (λ (r : Reading). r.id) rs x.ids r.ids,
      length_column (λ (r : Reading). r.time.0) rs x.times r.times,
      length_column (λ (r : Reading). r.value) rs x.values r.values,
      length_column (λ (r : Reading). r.arrival.0) rs x.arrivals r.arrivals,
      length_column (λ (r : Reading). r.kind) rs x.kinds r.kinds,
      length_column (λ (r : Reading). r.meter) rs x.meters r.meters,
    )

-- ---- fewer rows

pub take_rows : (x : Columns) (base n k : ℕ) → k ≤ n → take k (rows_from x base n) ≡ rows_from x base k
unfolding rows_from
take_rows x base n zero h = refl
take_rows x base zero (suc k) h = absurd (omega arith)
take_rows x base (suc n) (suc k) h = rw (take_rows x (suc base) n k (omega arith))

pub drop_rows : (x : Columns) (base n k : ℕ) → k ≤ n → drop k (rows_from x base n) ≡ rows_from x (base + k) (n - k)
unfolding rows_from
drop_rows x base n zero h =
    let e : n - 0 ≡ n = omega arith in
    rw (add-zero base, e)
drop_rows x base zero (suc k) h = absurd (omega arith)
drop_rows x base (suc n) (suc k) h =
    let e : suc base + k ≡ base + suc k = omega arith in
    let f : n - k ≡ suc n - suc k = omega arith in
    drop_rows x (suc base) n k (omega arith) ∙ ap₂ (rows_from x) e f

-- a share of the rows is the rows of the share
pub share_of_rows : (x : Columns) (base n m : ℕ) → base + n ≤ m → share base n (rows x m) ≡ rows_from x base n
unfolding share rows
share_of_rows x base n m h =
    ap (take n) (drop_rows x 0 m base (omega arith) ∙ ap (λ (from : ℕ). rows_from x from (m - base)) (zero-add base)) ∙
    take_rows x base (m - base) n (omega arith)

-- ---- a row

row_from_at : (x : Columns) (j n i : ℕ) → i < n → get_or (rows_from x j n) i zeroed ≡ row_at x (j + i)
unfolding rows_from
row_from_at x j zero i h = absurd (omega arith)
row_from_at x j (suc n) zero h = ap (row_at x) (sym (add-zero j))
row_from_at x j (suc n) (suc i) h =
    let e : suc j + i ≡ j + suc i = omega arith in
    row_from_at x (suc j) n i (omega arith) ∙ ap (row_at x) e

pub row_at_lem : (x : Columns) (n i : ℕ) → i < n → get_or (rows x n) i zeroed ≡ row_at x i
unfolding rows
row_at_lem x n i h = row_from_at x 0 n i h ∙ ap (row_at x) (zero-add i)

field_at :
    {A : Type 0} (f : Reading → A) (rs : List Reading) (l : List A) (i : ℕ) (d : A) → i < length rs →
    get_or (map f rs ++ l) i d ≡ f (get_or rs i zeroed)
field_at f [] l i d h = absurd (omega arith)
field_at f (r ∷ rs) l zero d h = refl
field_at f (r ∷ rs) l (suc i) d h = field_at f rs l i d (omega arith)

-- a place that was laid into
pub row_laid : (x : Columns) (rs : List Reading) (i : ℕ) → i < length rs → row_at (with_rows x rs) i ≡ get_or rs i zeroed
unfolding row_at with_rows
row_laid x rs i h =
    λ t.
    record {
      id = field_at (λ (r : Reading). r.id) rs (drop (length rs) x.ids) i 0 h t;
      time = record { 0 = field_at (λ (r : Reading). r.time.0) rs (drop (length rs) x.times) i 0 h t };
      value = field_at (λ (r : Reading). r.value) rs (drop (length rs) x.values) i (pos 0) h t;
      arrival = record { 0 = field_at (λ (r : Reading). r.arrival.0) rs (drop (length rs) x.arrivals) i 0 h t };
      kind = field_at (λ (r : Reading). r.kind) rs (drop (length rs) x.kinds) i 0 h t;
      meter = field_at (λ (r : Reading). r.meter) rs (drop (length rs) x.meters) i 0 h t;
    }

field_behind :
    {A : Type 0} (f : Reading → A) (rs : List Reading) (l : List A) (i : ℕ) (d : A) →
    get_or (map f rs ++ drop (length rs) l) (length rs + i) d ≡ get_or l (length rs + i) d
field_behind f rs l i d =
    let e : length rs + i ≡ length (map f rs) + i = rw (length-map rs f) in
    ap (λ (k : ℕ). get_or (map f rs ++ drop (length rs) l) k d) e ∙ get_or-append-add (map f rs) (drop (length rs) l) i d ∙
    get_or-drop (length rs) l i d

-- a place behind those that were laid into
pub row_behind : (x : Columns) (rs : List Reading) (i : ℕ) → row_at (with_rows x rs) (length rs + i) ≡ row_at x (length rs + i)
unfolding row_at with_rows
row_behind x rs i =
    λ t.
    record {
      id = field_behind (λ (r : Reading). r.id) rs x.ids i 0 t;
      time = record { 0 = field_behind (λ (r : Reading). r.time.0) rs x.times i 0 t };
      value = field_behind (λ (r : Reading). r.value) rs x.values i (pos 0) t;
      arrival = record { 0 = field_behind (λ (r : Reading). r.arrival.0) rs x.arrivals i 0 t };
      kind = field_behind (λ (r : Reading). r.kind) rs x.kinds i 0 t;
      meter = field_behind (λ (r : Reading). r.meter) rs x.meters i 0 t;
    }

-- two stores that agree from a place on, in every column
pub record Behind (n : ℕ) (x y : Columns) : Type 0 where
  pub ids : drop n x.ids ≡ drop n y.ids
  pub times : drop n x.times ≡ drop n y.times
  pub values : drop n x.values ≡ drop n y.values
  pub arrivals : drop n x.arrivals ≡ drop n y.arrivals
  pub kinds : drop n x.kinds ≡ drop n y.kinds
  pub meters : drop n x.meters ≡ drop n y.meters

column_behind :
    {A : Type 0} (f : Reading → A) (rs : List Reading) (l : List A) →
    drop (length rs) (map f rs ++ drop (length rs) l) ≡ drop (length rs) l
column_behind f rs l = drop_at (map f rs) (drop (length rs) l) (length rs) (length-map rs f)

pub with_rows_behind : (x : Columns) (rs : List Reading) → Behind (length rs) (with_rows x rs) x
unfolding with_rows
with_rows_behind x rs =
    record {
      ids = column_behind (λ (r : Reading). r.id) rs x.ids;
      times = column_behind (λ (r : Reading). r.time.0) rs x.times;
      values = column_behind (λ (r : Reading). r.value) rs x.values;
      arrivals = column_behind (λ (r : Reading). r.arrival.0) rs x.arrivals;
      kinds = column_behind (λ (r : Reading). r.kind) rs x.kinds;
      meters = column_behind (λ (r : Reading). r.meter) rs x.meters;
    }

-- ---- all rows

-- rows that were laid are read back
pub rows_with_rows : (x : Columns) (rs : List Reading) → rows (with_rows x rs) (length rs) ≡ rs
rows_with_rows x rs =
    ext_get_or zeroed (rows (with_rows x rs) (length rs)) rs (length_rows (with_rows x rs) (length rs))
    (λ i h.
    let g : i < length rs = omega (arith, length_rows (with_rows x rs) (length rs)) in
    row_at_lem (with_rows x rs) (length rs) i g ∙ row_laid x rs i g)

field_rows :
    {A : Type 0} (f : Reading → A) (d : A) (l : List A) (x : Columns) → ((i : ℕ) → f (row_at x i) ≡ get_or l i d) → (j n : ℕ) →
    j + n ≤ length l → map f (rows_from x j n) ++ drop (j + n) l ≡ drop j l
unfolding rows_from
field_rows f d l x e j zero h = ap (λ (k : ℕ). drop k l) (add-zero j)
field_rows f d l x e j (suc n) h =
    let a : suc j + n ≡ j + suc n = omega arith in
    rw (e j, ← a, field_rows f d l x e (suc j) n (omega arith)) (sym (drop-cons l j d (omega arith)))

pub column_back :
    {A : Type 0} (f : Reading → A) (d : A) (l : List A) (x : Columns) (n : ℕ) → ((i : ℕ) → f (row_at x i) ≡ get_or l i d) → n ≤ length l →
    map f (rows x n) ++ drop (length (rows x n)) l ≡ l
unfolding rows
column_back f d l x n e h =
    ap (λ (k : ℕ). map f (rows_from x 0 n) ++ drop k l) (length_rows_from x 0 n ∙ sym (zero-add n)) ∙
    field_rows f d l x e 0 n (omega arith)

-- a store's own rows change nothing
pub with_rows_rows : (x : Columns) (n : ℕ) → n ≤ store_length x → with_rows x (rows x n) ≡ x
unfolding with_rows row_at
with_rows_rows x n h =
    let r : Room n x = room n x h in
    λ t.
    record {
      ids = column_back (λ (r : Reading). r.id) 0 x.ids x n (λ i. refl) r.ids t;
      times = column_back (λ (r : Reading). r.time.0) 0 x.times x n (λ i. refl) r.times t;
      values = column_back (λ (r : Reading). r.value) (pos 0) x.values x n (λ i. refl) r.values t;
      arrivals = column_back (λ (r : Reading). r.arrival.0) 0 x.arrivals x n (λ i. refl) r.arrivals t;
      kinds = column_back (λ (r : Reading). r.kind) 0 x.kinds x n (λ i. refl) r.kinds t;
      meters = column_back (λ (r : Reading). r.meter) 0 x.meters x n (λ i. refl) r.meters t;
    }

-- ---- rows from the first place on

column_front :
    {A : Type 0} (f : Reading → A) (rs : List Reading) (l : List A) → length rs ≤ length l →
    sets l 0 (map f rs) ≡ map f rs ++ drop (length rs) l
column_front f rs l h =
    let n : 0 + length (map f rs) ≡ length rs = zero-add (length (map f rs)) ∙ length-map rs f in
    sets-eq (map f rs) l 0 (omega arith) ∙ rw n

-- rows written from the first place on are laid in front
pub with_rows_at_front : (x : Columns) (rs : List Reading) → length rs ≤ store_length x → with_rows_at x 0 rs ≡ with_rows x rs
unfolding with_rows_at with_rows
with_rows_at_front x rs h =
    let r : Room (length rs) x = room (length rs) x h in
    λ t.
    record {
      ids = column_front (λ (r : Reading). r.id) rs x.ids r.ids t;
      times = column_front (λ (r : Reading). r.time.0) rs x.times r.times t;
      values = column_front (λ (r : Reading). r.value) rs x.values r.values t;
      arrivals = column_front (λ (r : Reading). r.arrival.0) rs x.arrivals r.arrivals t;
      kinds = column_front (λ (r : Reading). r.kind) rs x.kinds r.kinds t;
      meters = column_front (λ (r : Reading). r.meter) rs x.meters r.meters t;
    }
