-- The lines' shares of the store: lines laid down are read back, and lines that were read, laid down, change nothing. By induction on the
-- lines, a share of the store at each; a share keeps its places, whatever it kept before.
use Prim.Native.Nat.{ℕ, zero, suc, ◌+◌, ◌*◌, ◌≤◌, ◌<◌}
use mathlib.Core.Path.{◌≡◌, refl, ◌∙◌, ap, ap₂}
use mathlib.Core.List.{List, [], ◌∷◌}
use native.Mathlib.Omega.{arith}
use lib.ListN.{length, get_or, take, drop, length-append, length-drop, length-take, take-append-drop}
use lib.Seq.{take_at, drop_at, length-take-le, drop-drop}
use Rattle.store.specs.declared.Reading.{Reading}
use Rattle.store.specs.Lists.{Every}
use Rattle.protocol.specs.Node.{Line, no_line}
use Rattle.store.specs.Sizes.{readings_per_line}
use Rattle.node.specs.View.{view_line, view_lines, head_of, heads_with, share_with, shares_with}
use Rattle.node.specs.declared.LineHead.{LineHead}
use Rattle.node.proofs.Share.{length_share, line_put, share_same, head_same}

-- a line that fits its share of the store
abbrev pub SmallLine : Line → Type 0
SmallLine l = length l.kept ≤ readings_per_line

abbrev pub SmallHead : LineHead → Type 0
SmallHead h = h.kept ≤ readings_per_line

-- the first n heads and the readings fit shares of the store
pub record Shares (n : ℕ) (hs : List LineHead) (rs : List Reading) : Type 0 where
  pub heads : n ≤ length hs
  pub kept : Every SmallHead (take n hs)
  pub room : n * readings_per_line ≤ length rs

pub shares_behind :
    (n : ℕ) (h : LineHead) (hs : List LineHead) (rs : List Reading) → Shares (suc n) (h ∷ hs) rs → Shares n hs (drop readings_per_line rs)
shares_behind n h hs rs f =
    record {
      heads = omega (arith, f.heads);
      kept = f.kept.1;
      room = simp length-drop (omega (arith, f.room));
    }

pub first_share :
    (n : ℕ) (h : LineHead) (hs : List LineHead) (rs : List Reading) → Shares (suc n) (h ∷ hs) rs →
    length (take readings_per_line rs) ≡ readings_per_line
first_share n h hs rs f = length-take-le readings_per_line rs (omega (arith, f.room))

-- ---- all shares

module _
    (n : ℕ) (h : LineHead) (hs : List LineHead) (rs kept : List Reading) (f : Shares (suc n) (h ∷ hs) rs)
    (small : length kept ≤ readings_per_line) where
  pub length_first : length (share_with (take readings_per_line rs) h.kept kept) ≡ readings_per_line
  length_first =
      let e : length (take readings_per_line rs) ≡ readings_per_line = first_share n h hs rs f in
      length_share (take readings_per_line rs) h.kept kept (omega (arith, f.kept.0)) (omega arith) ∙ e

-- heads past the lines stay as they were
pub heads_with_behind : (hs : List LineHead) (ls : List Line) → drop (length ls) (heads_with hs ls) ≡ drop (length ls) hs
unfolding heads_with
heads_with_behind hs [] = refl
heads_with_behind [] (l ∷ ls) = refl
heads_with_behind (h ∷ hs) (l ∷ ls) = heads_with_behind hs ls

-- the heads stay as many
pub length_heads_with : (hs : List LineHead) (ls : List Line) → length (heads_with hs ls) ≡ length hs
unfolding heads_with
length_heads_with hs [] = refl
length_heads_with [] (l ∷ ls) = refl
length_heads_with (h ∷ hs) (l ∷ ls) = ap suc (length_heads_with hs ls)

-- and the places
pub length_shares_with :
    (ls : List Line) (hs : List LineHead) (rs : List Reading) → Shares (length ls) hs rs → Every SmallLine ls →
    length (shares_with hs rs ls) ≡ length rs
unfolding shares_with
length_shares_with [] hs rs f s = refl
length_shares_with (l ∷ ls) [] rs f s = refl
length_shares_with (l ∷ ls) (h ∷ hs) rs f s =
    let e : length (shares_with hs (drop readings_per_line rs) ls) ≡ length (drop readings_per_line rs) =
    length_shares_with ls hs (drop readings_per_line rs) (shares_behind (length ls) h hs rs f) s.1 in
    simp (length-append, length_first (length ls) h hs rs l.kept f s.0, e, length-drop) (omega (arith, f.room))

-- shares stand in line order, each as long as the others
pub line_at_lem :
    (n : ℕ) (hs : List LineHead) (rs : List Reading) (i : ℕ) → i < n → n ≤ length hs →
    get_or (view_lines n hs rs) i no_line ≡ view_line (get_or hs i (head_of no_line)) (take readings_per_line (drop (i * readings_per_line) rs))
unfolding view_lines
line_at_lem zero hs rs i h g = absurd (omega arith)
line_at_lem (suc n) [] rs i h g = absurd (omega arith)
line_at_lem (suc n) (k ∷ hs) rs zero h g = refl
line_at_lem (suc n) (k ∷ hs) rs (suc i) h g =
    let e : readings_per_line + i * readings_per_line ≡ suc i * readings_per_line = omega arith in
    line_at_lem n hs _ i (omega arith) (omega arith) ∙
    ap (λ (r : List Reading). view_line (get_or hs i (head_of no_line)) (take readings_per_line r))
    (drop-drop (i * readings_per_line) _ rs ∙ ap (λ (m : ℕ). drop m rs) e)

-- lines laid down are what heads and readings then stand for
pub lines_put :
    (ls : List Line) (hs : List LineHead) (rs : List Reading) → Shares (length ls) hs rs → Every SmallLine ls →
    view_lines (length ls) (heads_with hs ls) (shares_with hs rs ls) ≡ ls
unfolding view_lines heads_with shares_with
lines_put [] hs rs f s = refl
lines_put (l ∷ ls) [] rs f s = absurd (omega (arith, f.heads))
lines_put (l ∷ ls) (h ∷ hs) rs f s =
    let e : length (share_with (take readings_per_line rs) h.kept l.kept) ≡ readings_per_line =
    length_first (length ls) h hs rs l.kept f s.0 in
    let first = share_with (take readings_per_line rs) h.kept l.kept in
    let later = shares_with hs (drop readings_per_line rs) ls in
    ap₂ ◌∷◌ (ap (view_line (head_of l)) (take_at first later _ e) ∙ line_put l (take readings_per_line rs) h.kept)
    (ap (view_lines (length ls) (heads_with hs ls)) (drop_at first later _ e) ∙
    lines_put ls hs (drop readings_per_line rs) (shares_behind (length ls) h hs rs f) s.1)

-- and the heads fit again
pub heads_put :
    (ls : List Line) (hs : List LineHead) → length ls ≤ length hs → Every SmallLine ls →
    Every SmallHead (take (length ls) (heads_with hs ls))
unfolding heads_with head_of
heads_put [] hs g s = tt
heads_put (l ∷ ls) [] g s = tt
heads_put (l ∷ ls) (h ∷ hs) g s = (s.0, heads_put ls hs (omega arith) s.1)

-- ---- what state and store stand for

pub length_view_lines : (n : ℕ) (hs : List LineHead) (rs : List Reading) → n ≤ length hs → length (view_lines n hs rs) ≡ n
unfolding view_lines
length_view_lines zero hs rs h = refl
length_view_lines (suc n) [] rs h = absurd (omega arith)
length_view_lines (suc n) (x ∷ hs) rs h = ap suc (length_view_lines n hs _ (omega arith))

-- no line keeps more than its share has places
pub small_view_lines : (n : ℕ) (hs : List LineHead) (rs : List Reading) → Every SmallLine (view_lines n hs rs)
unfolding view_lines view_line
small_view_lines zero hs rs = tt
small_view_lines (suc n) [] rs = tt
small_view_lines (suc n) (h ∷ hs) rs =
    (simp length-take (omega arith), small_view_lines n hs _)

pub heads_same : (n : ℕ) (hs : List LineHead) (rs : List Reading) → Shares n hs rs → heads_with hs (view_lines n hs rs) ≡ hs
unfolding heads_with view_lines
heads_same zero hs rs f = refl
heads_same (suc n) [] rs f = refl
heads_same (suc n) (h ∷ hs) rs f =
    let e : length (take readings_per_line rs) ≡ readings_per_line = first_share n h hs rs f in
    ap₂ ◌∷◌ (head_same h (take readings_per_line rs) (omega (arith, f.kept.0)))
    (heads_same n hs (drop readings_per_line rs) (shares_behind n h hs rs f))

pub shares_same : (n : ℕ) (hs : List LineHead) (rs : List Reading) → Shares n hs rs → shares_with hs rs (view_lines n hs rs) ≡ rs
unfolding shares_with view_lines view_line
shares_same zero hs rs f = refl
shares_same (suc n) [] rs f = refl
shares_same (suc n) (h ∷ hs) rs f =
    let e : length (take readings_per_line rs) ≡ readings_per_line = first_share n h hs rs f in
    rw (
      share_same (take readings_per_line rs) h.kept (omega (arith, f.kept.0)),
      shares_same n hs (drop readings_per_line rs) (shares_behind n h hs rs f),
    )
    (take-append-drop readings_per_line rs)
