-- Runs of rows written into the store: one run behind another is one run, rows behind a run are as they were, and the columns keep their
-- lengths. Each column is one instance of a law over the field.
use Rattle.std.proofs.Common.{◌≡◌, ℕ, zero, suc, ◌+◌, ◌≤◌, List, ◌++◌, map, length, get_or, pos, refl, ◌∙◌, arith}
use mathlib.Core.List.{map-append}
use lib.ListN.{length-map}
use lib.Seq.{sets, length-sets}
use Rattle.store.specs.declared.Reading.{Reading}
use Rattle.store.specs.Columns.{Columns, store_length, row_at, rows_from}
use Rattle.store.specs.Parts.{with_rows_at}
use Rattle.store.proofs.Runs.{sets_sets, get_d_behind_sets}

-- ---- one run behind another

field_join :
    {A : Type 0} (f : Reading → A) (column : List A) (at next : ℕ) (rs ss : List Reading) → next ≡ at + length rs →
    sets (sets column at (map f rs)) next (map f ss) ≡ sets column at (map f (rs ++ ss))
field_join f column at next rs ss e =
    rw (map-append f rs ss) (sets_sets (map f rs) (map f ss) column at next (omega (arith, length-map rs f)))

pub rows_join :
    (x : Columns) (at next : ℕ) (rs ss : List Reading) → next ≡ at + length rs →
    with_rows_at (with_rows_at x at rs) next ss ≡ with_rows_at x at (rs ++ ss)
unfolding with_rows_at
rows_join x at next rs ss e =
    λ t.
    record {
      ids = field_join (λ (r : Reading). r.id) x.ids at next rs ss e t;
      times = field_join (λ (r : Reading). r.time.0) x.times at next rs ss e t;
      values = field_join (λ (r : Reading). r.value) x.values at next rs ss e t;
      arrivals = field_join (λ (r : Reading). r.arrival.0) x.arrivals at next rs ss e t;
      kinds = field_join (λ (r : Reading). r.kind) x.kinds at next rs ss e t;
      meters = field_join (λ (r : Reading). r.meter) x.meters at next rs ss e t;
    }

-- ---- rows behind a run

field_behind :
    {A : Type 0} (f : Reading → A) (column : List A) (at : ℕ) (rs : List Reading) (i : ℕ) (d : A) → at + length rs ≤ i →
    get_or (sets column at (map f rs)) i d ≡ get_or column i d
field_behind f column at rs i d h = get_d_behind_sets (map f rs) column at i d (omega (arith, length-map rs f))

row_behind : (x : Columns) (at : ℕ) (rs : List Reading) (i : ℕ) → at + length rs ≤ i → row_at (with_rows_at x at rs) i ≡ row_at x i
unfolding row_at with_rows_at
row_behind x at rs i h =
    λ t.
    record {
      id = field_behind (λ (r : Reading). r.id) x.ids at rs i 0 h t;
      time = record { 0 = field_behind (λ (r : Reading). r.time.0) x.times at rs i 0 h t };
      value = field_behind (λ (r : Reading). r.value) x.values at rs i (pos 0) h t;
      arrival = record { 0 = field_behind (λ (r : Reading). r.arrival.0) x.arrivals at rs i 0 h t };
      kind = field_behind (λ (r : Reading). r.kind) x.kinds at rs i 0 h t;
      meter = field_behind (λ (r : Reading). r.meter) x.meters at rs i 0 h t;
    }

pub rows_behind :
    (x : Columns) (at : ℕ) (rs : List Reading) (from n : ℕ) → at + length rs ≤ from →
    rows_from (with_rows_at x at rs) from n ≡ rows_from x from n
unfolding rows_from
rows_behind x at rs from zero h = refl
rows_behind x at rs from (suc n) h = rw (row_behind x at rs from h, rows_behind x at rs (suc from) n (omega arith))

-- ---- lengths

-- two stores whose columns are as long
pub record SameLengths (x y : Columns) : Type 0 where
  pub ids : length x.ids ≡ length y.ids
  pub times : length x.times ≡ length y.times
  pub values : length x.values ≡ length y.values
  pub arrivals : length x.arrivals ≡ length y.arrivals
  pub kinds : length x.kinds ≡ length y.kinds
  pub meters : length x.meters ≡ length y.meters

pub lengths_written : (x : Columns) (at : ℕ) (rs : List Reading) → SameLengths (with_rows_at x at rs) x
unfolding with_rows_at
lengths_written x at rs =
    record {
      ids = length-sets x.ids at (map (λ (r : Reading). r.id) rs);
      times = length-sets x.times at (map (λ (r : Reading). r.time.0) rs);
      values = length-sets x.values at (map (λ (r : Reading). r.value) rs);
      arrivals = length-sets x.arrivals at (map (λ (r : Reading). r.arrival.0) rs);
      kinds = length-sets x.kinds at (map (λ (r : Reading). r.kind) rs);
      meters = length-sets x.meters at (map (λ (r : Reading). r.meter) rs);
    }

pub same_lengths : (x : Columns) → SameLengths x x
same_lengths x = record { ids = refl; times = refl; values = refl; arrivals = refl; kinds = refl; meters = refl }

pub lengths_then : {x y z : Columns} → SameLengths x y → SameLengths y z → SameLengths x z
lengths_then e g =
    record {
      ids = e.ids ∙ g.ids;
      times = e.times ∙ g.times;
      values = e.values ∙ g.values;
      arrivals = e.arrivals ∙ g.arrivals;
      kinds = e.kinds ∙ g.kinds;
      meters = e.meters ∙ g.meters;
    }

pub store_length_same : (x y : Columns) → SameLengths x y → store_length x ≡ store_length y
unfolding store_length
store_length_same x y e = rw (e.ids, e.times, e.values, e.arrivals, e.kinds, e.meters)
