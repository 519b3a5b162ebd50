-- The lent store: one column for each field of a reading (document 01, section 'Store and output area'). Its length is the shortest
-- column's.
use Rattle.std.specs.Prelude.{ℕ, zero, suc, min, List, [], ◌∷◌, ◌++◌, map, ℤ, pos, length, get_or, drop}
use Rattle.store.specs.declared.Reading.{Reading}

pub record Columns : Type 0 where
  pub ids : List ℕ
  pub times : List ℕ
  pub values : List ℤ
  pub arrivals : List ℕ
  pub kinds : List ℕ
  pub meters : List ℕ

-- the columns in the order in which a store has them
abbrev pub columns_of : List ℕ → List ℕ → List ℤ → List ℕ → List ℕ → List ℕ → Columns
columns_of ids times values arrivals kinds meters =
    record { ids = ids; times = times; values = values; arrivals = arrivals; kinds = kinds; meters = meters }

unfoldable pub store_length : Columns → ℕ
store_length x =
    min (length x.ids)
    (min (length x.times)
    (min (length x.values) (min (length x.arrivals) (min (length x.kinds) (length x.meters)))))

-- the reading at a place
unfoldable pub row_at : Columns → ℕ → Reading
row_at x i =
    record {
      id = get_or x.ids i 0;
      time = record { 0 = get_or x.times i 0 };
      value = get_or x.values i (pos 0);
      arrival = record { 0 = get_or x.arrivals i 0 };
      kind = get_or x.kinds i 0;
      meter = get_or x.meters i 0;
    }

-- so many readings from a place on
unfoldable pub rows_from : Columns → ℕ → ℕ → List Reading
rows_from x i zero = []
rows_from x i (suc n) = row_at x i ∷ rows_from x (suc i) n

-- the first n readings of the store
unfoldable pub rows : Columns → ℕ → List Reading
rows x n = rows_from x 0 n

-- the store with these readings in its first places, and everything after them as it was
unfoldable pub with_rows : Columns → List Reading → Columns
with_rows x rs =
    record {
      ids = map (λ (r : Reading). r.id) rs ++ drop (length rs) x.ids;
      times = map (λ (r : Reading). r.time.0) rs ++ drop (length rs) x.times;
      values = map (λ (r : Reading). r.value) rs ++ drop (length rs) x.values;
      arrivals = map (λ (r : Reading). r.arrival.0) rs ++ drop (length rs) x.arrivals;
      kinds = map (λ (r : Reading). r.kind) rs ++ drop (length rs) x.kinds;
      meters = map (λ (r : Reading). r.meter) rs ++ drop (length rs) x.meters;
    }

-- a place given up
unfoldable pub zeroed : Reading
zeroed =
    record { id = 0; time = record { 0 = 0 }; value = pos 0; arrival = record { 0 = 0 }; kind = 0; meter = 0 }
