-- A run of readings moved down: a run moved in each column is the run's rows written further down, and rows written where they stand change
-- nothing.
use Prim.Native.Nat.{ℕ, ◌+◌, ◌≤◌}
use mathlib.Core.Path.{◌≡◌, sym, ap, ◌∙◌}
use mathlib.Core.List.{List, [], append-nil}
use lib.IntN.{ℤ}
use lib.Seq.{sets}
use Rattle.store.specs.Columns.{Columns, columns_of, store_length, rows_from}
use Rattle.store.specs.Parts.{share, with_rows_at}
use Rattle.store_columns.proofs.Rows.{own_rows}
use Rattle.store_columns.proofs.Rows.{ids_share, times_share, values_share, arrivals_share, kinds_share, meters_share}

-- six columns with a run moved down in each
pub moved_rows :
    (x : Columns) (from to n : ℕ) → from + n ≤ store_length x → {ids times arrivals kinds meters : List ℕ} {values : List ℤ} →
    ids ≡ sets x.ids to (share from n x.ids) → times ≡ sets x.times to (share from n x.times) →
    values ≡ sets x.values to (share from n x.values) → arrivals ≡ sets x.arrivals to (share from n x.arrivals) →
    kinds ≡ sets x.kinds to (share from n x.kinds) → meters ≡ sets x.meters to (share from n x.meters) →
    columns_of ids times values arrivals kinds meters ≡ with_rows_at x to (rows_from x from n)
unfolding with_rows_at
moved_rows x from to n h i t v a k m =
    rw (
      i,
      t,
      v,
      a,
      k,
      m,
      ids_share x from n h,
      times_share x from n h,
      values_share x from n h,
      arrivals_share x from n h,
      kinds_share x from n h,
      meters_share x from n h,
    )

-- a run that stays where it stands
pub unmoved_rows : (x : Columns) (from to n : ℕ) → to ≡ from → x ≡ with_rows_at x to (rows_from x from n)
unfolding with_rows_at
unmoved_rows x from to n e = rw e (sym (ap (with_rows_at x from) (sym (append-nil (rows_from x from n))) ∙ own_rows x from n []))
