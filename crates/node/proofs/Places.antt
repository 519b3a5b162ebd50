-- The store place by place after a node is laid down: what a line keeps stands first in its share, places given up are zeroed, and every
-- other place is as it was. Share by share, each by its own law. The laws on heads and places are claims of their own, on what document 01
-- says of the store (section 'Store and output area'): no proof needs them.
use Prim.Native.Nat.{ℕ, zero, suc, ◌+◌, ◌*◌, ◌≤◌, ◌<◌}
use mathlib.Core.Path.{◌≡◌, ◌∙◌, ap, subst}
use mathlib.Core.List.{List, [], ◌∷◌, ◌++◌}
use native.Mathlib.Omega.{arith}
use native.Mathlib.Nat.{zero-add}
use lib.ListN.{length, get_or, take, drop, get_or-append}
use lib.Seq.{get_or-append-add, get_or-take, get_or-drop, drop-drop}
use Rattle.store.specs.declared.Reading.{Reading}
use Rattle.store.specs.Lists.{Every}
use Rattle.protocol.specs.Node.{Line, Node, no_line}
use Rattle.store.specs.Sizes.{readings_per_line}
use Rattle.store.specs.Columns.{with_rows, rows, row_at, Columns, zeroed}
use Rattle.node.specs.View.{places, head_of, share_with, heads_with, shares_with, put_state, put_columns}
use Rattle.node.specs.declared.LineHead.{LineHead}
use Rattle.node.specs.Held.{Held}
use Rattle.store.proofs.Columns.{with_rows_behind, Behind, row_laid, row_at_lem}
use Rattle.node.proofs.Share.{share_kept, share_given_up, share_untouched}
use Rattle.node.proofs.Shares.{SmallLine, Shares, shares_behind, length_first, heads_with_behind}
use Rattle.node.proofs.View.{Fits, Sized, shares, length_laid}

-- ---- all shares

-- what line i's share is after the lines were laid down
abbrev pub share_of : List LineHead → List Reading → List Line → ℕ → List Reading
share_of hs rs ls i =
    share_with (take readings_per_line (drop (i * readings_per_line) rs)) (get_or hs i (head_of no_line)).kept (get_or ls i no_line).kept

share_at :
    (ls : List Line) (hs : List LineHead) (rs : List Reading) → Shares (length ls) hs rs → Every SmallLine ls →
    (i j : ℕ) (d : Reading) → i < length ls → j < readings_per_line →
    get_or (shares_with hs rs ls) (i * readings_per_line + j) d ≡ get_or (share_of hs rs ls i) j d
unfolding shares_with
share_at [] hs rs f s i j d h g = absurd (omega arith)
share_at (l ∷ ls) [] rs f s i j d h g = absurd (omega (arith, f.heads))
share_at (l ∷ ls) (k ∷ hs) rs f s zero j d h g =
    let e : length (share_with (take readings_per_line rs) k.kept l.kept) ≡ readings_per_line =
    length_first (length ls) k hs rs l.kept f s.0 in
    rw (zero-add j)
    (get_or-append (share_with (take readings_per_line rs) k.kept l.kept) (shares_with hs (drop readings_per_line rs) ls) d j (omega arith))
share_at (l ∷ ls) (k ∷ hs) rs f s (suc i) j d h g =
    let first = share_with (take readings_per_line rs) k.kept l.kept in
    let e : length first ≡ readings_per_line = length_first (length ls) k hs rs l.kept f s.0 in
    let at : suc i * readings_per_line + j ≡ length first + (i * readings_per_line + j) = omega arith in
    let from : readings_per_line + i * readings_per_line ≡ suc i * readings_per_line = omega arith in
    ap (λ (m : ℕ). get_or (first ++ shares_with hs (drop readings_per_line rs) ls) m d) at ∙
    get_or-append-add first (shares_with hs (drop readings_per_line rs) ls) (i * readings_per_line + j) d ∙
    share_at ls hs (drop readings_per_line rs) (shares_behind (length ls) k hs rs f) s.1 i j d (omega arith) g ∙
    ap
    (λ (r : List Reading).
    get_or (share_with (take readings_per_line r) (get_or hs i (head_of no_line)).kept (get_or ls i no_line).kept) j d)
    (drop-drop (i * readings_per_line) readings_per_line rs ∙ ap (λ (m : ℕ). drop m rs) from)

-- ---- the store

-- heads past the state's lines stay as they were
pub heads_behind :
    (st : Held) (n : Node) → length n.lines ≡ st.settings.lines →
    drop st.settings.lines (put_state st n).heads ≡ drop st.settings.lines st.heads
unfolding put_state
heads_behind st n e =
    subst (λ (m : ℕ). drop m (heads_with st.heads n.lines) ≡ drop m st.heads) e
    (heads_with_behind st.heads n.lines)

module _ (st : Held) (x : Columns) (f : Fits st x) (n : Node) (v : Sized st.settings n) where
  -- places past the lines' shares stay as they were, in every column
  pub columns_behind : Behind (places st) (put_columns st x n) x
  unfolding put_columns
  columns_behind =
      subst (λ (m : ℕ). Behind m (with_rows x (shares_with st.heads (rows x (places st)) n.lines)) x) (length_laid st x f n v)
      (with_rows_behind x (shares_with st.heads (rows x (places st)) n.lines))

  module _ (i j : ℕ) (h : i < st.settings.lines) (g : j < readings_per_line) where
    -- place j of line i's share
    place_at : row_at (put_columns st x n) (i * readings_per_line + j) ≡ get_or (share_of st.heads (rows x (places st)) n.lines i) j zeroed
    unfolding put_columns places
    place_at =
        row_laid x (shares_with st.heads (rows x (places st)) n.lines) (i * readings_per_line + j)
        (omega (arith, length_laid st x f n v)) ∙
        share_at n.lines st.heads (rows x (places st)) (shares st x f (length n.lines) v.lines) v.small i j zeroed
        (omega (arith, v.lines)) g

    -- a kept reading
    pub place_kept :
        j < length (get_or n.lines i no_line).kept →
        row_at (put_columns st x n) (i * readings_per_line + j) ≡ get_or (get_or n.lines i no_line).kept j zeroed
    place_kept k = place_at ∙ share_kept _ _ (get_or n.lines i no_line).kept j zeroed k

    -- a place given up
    pub place_given_up :
        length (get_or n.lines i no_line).kept ≤ j → j < (get_or st.heads i (head_of no_line)).kept →
        row_at (put_columns st x n) (i * readings_per_line + j) ≡ zeroed
    place_given_up k q = place_at ∙ share_given_up _ _ (get_or n.lines i no_line).kept j zeroed k q

    -- any other place
    pub place_untouched :
        length (get_or n.lines i no_line).kept ≤ j → (get_or st.heads i (head_of no_line)).kept ≤ j →
        row_at (put_columns st x n) (i * readings_per_line + j) ≡ row_at x (i * readings_per_line + j)
    unfolding places
    place_untouched k q =
        place_at ∙ share_untouched _ _ (get_or n.lines i no_line).kept j zeroed k q ∙
        get_or-take readings_per_line (drop (i * readings_per_line) (rows x (places st))) j zeroed g ∙
        get_or-drop (i * readings_per_line) (rows x (places st)) j zeroed ∙
        row_at_lem x (places st) (i * readings_per_line + j) (omega arith)
