-- Columns that rows are written into have as many places as they had.
use Rattle.std.proofs.Common.{◌≡◌, ℕ, List, ◌∙◌}
use Rattle.store.specs.declared.Reading.{Reading}
use Rattle.store.specs.Columns.{Columns, store_length}
use Rattle.store.specs.Parts.{with_rows_at, with_kept}
use Rattle.store_columns.proofs.Written.{lengths_written, store_length_same}

pub written : (x y : Columns) (at : ℕ) (rs : List Reading) → y ≡ with_rows_at x at rs → store_length x ≡ 8 → store_length y ≡ 8
written x y at rs e eight = rw e (store_length_same (with_rows_at x at rs) x (lengths_written x at rs) ∙ eight)

pub kept : (x y : Columns) (base n : ℕ) (rs : List Reading) → y ≡ with_kept x base n rs → store_length x ≡ 8 → store_length y ≡ 8
unfolding with_kept
kept x y base n rs e eight = written x y base _ e eight
