-- Laying a node down writes nothing where every line keeps what it kept: by what the lines keep.
use mathlib.Core.Path.{◌≡◌, refl, sym, ◌∙◌, ap}
use mathlib.Core.List.{List, [], ◌∷◌, ◌++◌}
use lib.ListN.{take, drop}
use Rattle.store.specs.declared.Reading.{Reading}
use Rattle.store.specs.Sizes.{readings_per_line}
use Rattle.store.specs.Columns.{Columns, rows, with_rows}
use Rattle.protocol.specs.Node.{Line, Node, kept_of}
use Rattle.node.specs.View.{places, view, share_with, shares_with, put_columns}
use Rattle.node.specs.declared.LineHead.{LineHead}
use Rattle.node.specs.Held.{Held}
use Rattle.node.proofs.View.{Fits, put_columns_view}

-- the shares by what the lines keep
shares_by : List LineHead → List Reading → List (List Reading) → List Reading
shares_by hs rs [] = rs
shares_by [] rs (kept ∷ keeps) = rs
shares_by (h ∷ hs) rs (kept ∷ keeps) =
    share_with (take readings_per_line rs) h.kept kept ++ shares_by hs (drop readings_per_line rs) keeps

by_kept : (hs : List LineHead) (rs : List Reading) (ls : List Line) → shares_with hs rs ls ≡ shares_by hs rs (kept_of ls)
unfolding shares_with shares_by kept_of
by_kept hs rs [] = refl
by_kept [] rs (l ∷ ls) = refl
by_kept (h ∷ hs) rs (l ∷ ls) =
    ap (◌++◌ (share_with (take readings_per_line rs) h.kept l.kept)) (by_kept hs (drop readings_per_line rs) ls)

-- where every line keeps what it kept, the store stays as it was
pub put_columns_same :
    (st : Held) (x : Columns) → Fits st x → (n : Node) → kept_of n.lines ≡ kept_of (view st x).lines → put_columns st x n ≡ x
unfolding put_columns
put_columns_same st x f n e =
    ap (with_rows x)
    (by_kept st.heads (rows x (places st)) n.lines ∙ ap (shares_by st.heads (rows x (places st))) e ∙
    sym (by_kept st.heads (rows x (places st)) (view st x).lines)) ∙
    put_columns_view st x f
