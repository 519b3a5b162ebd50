-- Parts of the store as its functions are lent them and leave them. The contracts of the crates above pin them down.
use Rattle.std.specs.Prelude.{ℕ, ◌+◌, ◌-◌, List, [], ◌∷◌, ◌++◌, map, length, take, drop, replicate}
use Rattle.std.proofs.lemmas.List.Edits.{sets}
use Rattle.store.specs.declared.Reading.{Reading}
use Rattle.store.specs.Sizes.{readings_per_line}
use Rattle.store.specs.Columns.{Columns, zeroed, rows_from}

-- the store with these readings from a place on, and everything else as it was
unfoldable pub with_rows_at : Columns → ℕ → List Reading → Columns
with_rows_at x at rs =
    record {
      ids = sets x.ids at (map (λ (r : Reading). r.id) rs);
      times = sets x.times at (map (λ (r : Reading). r.time.0) rs);
      values = sets x.values at (map (λ (r : Reading). r.value) rs);
      arrivals = sets x.arrivals at (map (λ (r : Reading). r.arrival.0) rs);
      kinds = sets x.kinds at (map (λ (r : Reading). r.kind) rs);
      meters = sets x.meters at (map (λ (r : Reading). r.meter) rs);
    }

-- a share that kept n readings from a place on and now keeps these: exactly the places given up are zeroed
unfoldable pub with_kept : Columns → ℕ → ℕ → List Reading → Columns
with_kept x base n kept = with_rows_at x base (kept ++ replicate (n - length kept) zeroed)

-- so many of a column's numbers from a place on
unfoldable pub share : {A : Type 0} → ℕ → ℕ → List A → List A
share base n xs = take n (drop base xs)

-- the readings kept by each line, where the lines keep so many, the first share from `base` on
unfoldable pub kept_from : Columns → ℕ → List ℕ → List (List Reading)
kept_from x base [] = []
kept_from x base (n ∷ ns) = rows_from x base n ∷ kept_from x (base + readings_per_line) ns
