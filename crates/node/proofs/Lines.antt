-- A viewed line in the columns: its kept readings are the first rows of its share. The share of the rows is the rows of the share; the
-- line is then the one that `line_at_lem` finds.
use Prim.Native.Nat.{ℕ, ◌+◌, ◌*◌, ◌≤◌, ◌<◌}
use mathlib.Core.Path.{◌≡◌, ◌∙◌, ap}
use mathlib.Core.List.{List}
use native.Mathlib.Omega.{arith}
use lib.ListN.{length, get_or, take, drop}
use lib.Seq.{take-take, get_or-take, length-take-le}
use Rattle.store.specs.Lists.{Every}
use Rattle.store.specs.Sizes.{readings_per_line}
use Rattle.store.specs.Columns.{Columns, rows_from, rows}
use Rattle.store.specs.Parts.{share}
use Rattle.store.proofs.Pairs.{every_index}
use Rattle.store.proofs.Columns.{share_of_rows}
use Rattle.protocol.specs.Node.{Line, no_line}
use Rattle.node.specs.View.{view_line, view_lines, head_of}
use Rattle.node.specs.declared.LineHead.{LineHead}
use Rattle.node.proofs.Shares.{SmallHead, line_at_lem}

-- the kept readings of the line at i are the first rows of its share
pub line_rows :
    (x : Columns) (n i : ℕ) (h : LineHead) → h.kept ≤ readings_per_line → (i + 1) * readings_per_line ≤ n →
    (view_line h (take readings_per_line (drop (i * readings_per_line) (rows x n)))).kept ≡ rows_from x (i * readings_per_line) h.kept
unfolding view_line share
line_rows x n i h small room =
    take-take h.kept readings_per_line (drop (i * readings_per_line) (rows x n)) small ∙
    share_of_rows x (i * readings_per_line) h.kept n (omega arith)

-- each of the first heads fits a share
pub small_at :
    (n : ℕ) (hs : List LineHead) (i : ℕ) → Every SmallHead (take n hs) → i < n → n ≤ length hs → SmallHead (get_or hs i (head_of no_line))
small_at n hs i small below many =
    let e : length (take n hs) ≡ n = length-take-le n hs many in
    rw (get_or-take n hs i (head_of no_line) below) at (every_index SmallHead (take n hs) i (head_of no_line) (omega arith) small)

-- what the line at i keeps, found in the store
pub kept_rows :
    (x : Columns) (n : ℕ) (hs : List LineHead) (i : ℕ) → Every SmallHead (take n hs) → i < n → n ≤ length hs →
    (get_or (view_lines n hs (rows x (n * readings_per_line))) i no_line).kept ≡ rows_from x (i * readings_per_line) (get_or hs i (head_of no_line)).kept
kept_rows x n hs i small below many =
    ap (λ (l : Line). l.kept) (line_at_lem n hs (rows x (n * readings_per_line)) i below many) ∙
    line_rows x (n * readings_per_line) i (get_or hs i (head_of no_line)) (small_at n hs i small below many) (omega arith)
