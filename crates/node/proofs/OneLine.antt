-- One line changed, carried to the whole state and store: only that line's head is set, and only its share is written. The heads and the
-- shares by induction on the lines, the store column by column.
use Prim.Native.Nat.{ℕ, zero, suc, ◌+◌, ◌*◌, ◌-◌, ◌≤◌, ◌<◌, max}
use mathlib.Core.Path.{◌≡◌, refl, sym, ◌∙◌, ap}
use mathlib.Core.List.{List, [], ◌∷◌, ◌++◌, map, append_assoc}
use native.Mathlib.Omega.{arith}
use lib.IntN.{pos}
use lib.ListN.{length, get_or, take, drop, set, replicate, length-append, length-replicate, length-map, length-set, take-append-drop}
use lib.Seq.{sets, sets-eq, length-sets, set-append_left, take-set-le, drop-set-add, drop-append-le, drop-drop, length-take-le}
use Rattle.store.specs.declared.Reading.{Reading}
use Rattle.store.specs.Lists.{modify}
use Rattle.store.specs.Sizes.{readings_per_line}
use Rattle.store.specs.Columns.{Columns, store_length, row_at, rows_from, rows, with_rows, zeroed}
use Rattle.store.specs.Parts.{with_rows_at, with_kept, share}
use Rattle.store.proofs.Columns.{Room, room, column_back, length_rows, share_of_rows}
use Rattle.protocol.specs.Node.{Line, Node, no_line}
use Rattle.node.specs.View.{view_line, view_lines, places, view, head_of, heads_with, share_with, shares_with, put_columns}
use Rattle.node.specs.declared.LineHead.{LineHead}
use Rattle.node.specs.Held.{Held}
use Rattle.node.proofs.Share.{share_same, head_same}
use Rattle.node.proofs.Shares.{Shares, SmallLine, SmallHead, shares_behind, first_share, line_at_lem, heads_same, shares_same}
use Rattle.node.proofs.View.{Fits, shares}
use Rattle.node.proofs.Lines.{small_at}

-- ---- runs of stores

module _ {A : Type 0} where
  -- stores behind a front
  sets_behind : (n j : ℕ) (vs xs : List A) → take n xs ++ sets (drop n xs) j vs ≡ sets xs (n + j) vs
  sets_behind n j [] xs = take-append-drop n xs
  sets_behind n j (v ∷ vs) xs =
      let e : n + suc j ≡ suc (n + j) = omega arith in
      rw (← take-set-le n xs (n + j) v (omega arith), ← drop-set-add n xs j v, ← e) (sets_behind n (suc j) vs (set xs (n + j) v))

  -- stores in the first of two lists
  sets_append_left : (xs ys : List A) (at : ℕ) (vs : List A) → at + length vs ≤ length xs → sets (xs ++ ys) at vs ≡ sets xs at vs ++ ys
  sets_append_left xs ys at [] h = refl
  sets_append_left xs ys at (v ∷ vs) h =
      rw (set-append_left xs ys at v (omega arith)) (sets_append_left (set xs at v) ys (suc at) vs (omega (arith, length-set xs at v)))

map_set : {A B : Type 0} (f : A → B) (xs : List A) (i : ℕ) (v : A) → map f (set xs i v) ≡ set (map f xs) i (f v)
map_set f [] i v = refl
map_set f (x ∷ xs) zero v = refl
map_set f (x ∷ xs) (suc i) v = ap (◌∷◌ (f x)) (map_set f xs i v)

map_sets : {A B : Type 0} (f : A → B) (xs : List A) (at : ℕ) (vs : List A) → map f (sets xs at vs) ≡ sets (map f xs) at (map f vs)
map_sets f xs at [] = refl
map_sets f xs at (v ∷ vs) = map_sets f (set xs at v) (suc at) vs ∙ ap (λ (l : List _). sets l (suc at) (map f vs)) (map_set f xs at v)

-- ---- the store's first rows, some of them written anew

column_sets :
    {A : Type 0} (f : Reading → A) (d : A) (l : List A) (x : Columns) (n at : ℕ) (rs : List Reading) →
    ((i : ℕ) → f (row_at x i) ≡ get_or l i d) → n ≤ length l → at + length rs ≤ n →
    map f (sets (rows x n) at rs) ++ drop (length (sets (rows x n) at rs)) l ≡ sets l at (map f rs)
column_sets f d l x n at rs e h g =
    let s : at + length (map f rs) ≤ length (map f (rows x n)) = omega (arith, length-map (rows x n) f, length_rows x n, length-map rs f) in
    rw (map_sets f (rows x n) at rs, length-sets (rows x n) at rs)
    (sym (sets_append_left (map f (rows x n)) (drop (length (rows x n)) l) at (map f rs) s) ∙
    ap (λ (q : List _). sets q at (map f rs)) (column_back f d l x n e h))

pub with_rows_sets :
    (x : Columns) (n at : ℕ) (rs : List Reading) → n ≤ store_length x → at + length rs ≤ n →
    with_rows x (sets (rows x n) at rs) ≡ with_rows_at x at rs
unfolding with_rows with_rows_at row_at
with_rows_sets x n at rs h g =
    let m : Room n x = room n x h in
    λ t.
    record {
      ids = column_sets (λ (r : Reading). r.id) 0 x.ids x n at rs (λ i. refl) m.ids g t;
      times = column_sets (λ (r : Reading). r.time.0) 0 x.times x n at rs (λ i. refl) m.times g t;
      values = column_sets (λ (r : Reading). r.value) (pos 0) x.values x n at rs (λ i. refl) m.values g t;
      arrivals = column_sets (λ (r : Reading). r.arrival.0) 0 x.arrivals x n at rs (λ i. refl) m.arrivals g t;
      kinds = column_sets (λ (r : Reading). r.kind) 0 x.kinds x n at rs (λ i. refl) m.kinds g t;
      meters = column_sets (λ (r : Reading). r.meter) 0 x.meters x n at rs (λ i. refl) m.meters g t;
    }

-- ---- one line of all

-- line i as heads and readings have it
abbrev line_in : List LineHead → List Reading → ℕ → Line
line_in hs rs i = view_line (get_or hs i (head_of no_line)) (take readings_per_line (drop (i * readings_per_line) rs))

-- what a share that kept n readings and now keeps these is written with
abbrev written : ℕ → List Reading → List Reading
written n kept = kept ++ replicate (n - length kept) zeroed

length_written : (n : ℕ) (kept : List Reading) → length (written n kept) ≡ max n (length kept)
length_written n kept = simp (length-append, length-replicate) (omega arith)

share_written :
    (n : ℕ) (kept rs : List Reading) → n ≤ readings_per_line → length kept ≤ readings_per_line → readings_per_line ≤ length rs →
    share_with (take readings_per_line rs) n kept ++ drop readings_per_line rs ≡ sets rs 0 (written n kept)
unfolding share_with
share_written n kept rs h g room =
    let w : List Reading = written n kept in
    let long : length w ≡ max n (length kept) = length_written n kept in
    let m : 0 + length w ≡ max n (length kept) = omega arith in
    let fits : 0 + length w ≤ length rs = omega arith in
    let front : max n (length kept) ≤ length (take readings_per_line rs) = omega (arith, length-take-le readings_per_line rs room) in
    let behind : drop (max n (length kept)) rs ≡ drop (max n (length kept)) (take readings_per_line rs) ++ drop readings_per_line rs =
    ap (drop (max n (length kept))) (sym (take-append-drop readings_per_line rs)) ∙
    drop-append-le (max n (length kept)) (take readings_per_line rs) (drop readings_per_line rs) front in
    sym (sets-eq w rs 0 fits ∙ rw (m, behind) (simp append_assoc))

later_line :
    (t : LineHead) (hs : List LineHead) (rs : List Reading) (i : ℕ) → line_in (t ∷ hs) rs (suc i) ≡ line_in hs (drop readings_per_line rs) i
later_line t hs rs i =
    let at : suc i * readings_per_line ≡ readings_per_line + i * readings_per_line = omega arith in
    ap (λ (q : List Reading). view_line (get_or hs i (head_of no_line)) (take readings_per_line q))
    (ap (λ (m : ℕ). drop m rs) at ∙ sym (drop-drop (i * readings_per_line) readings_per_line rs))

kept_same : (t : LineHead) (share : List Reading) → (view_line t share).kept ≡ take t.kept share
unfolding view_line
kept_same t share = refl

module _ (g : Line → Line) where
  heads_modify :
      (n : ℕ) (hs : List LineHead) (rs : List Reading) (i : ℕ) → Shares n hs rs → i < n →
      heads_with hs (modify g i (view_lines n hs rs)) ≡ set hs i (head_of (g (line_in hs rs i)))
  unfolding heads_with view_lines modify
  heads_modify zero hs rs i f h = absurd (omega arith)
  heads_modify (suc n) [] rs i f h = absurd (omega (arith, f.heads))
  heads_modify (suc n) (t ∷ hs) rs zero f h = ap (◌∷◌ (head_of (g (view_line t (take readings_per_line rs))))) (heads_same n hs (drop readings_per_line rs) (shares_behind n t hs rs f))
  heads_modify (suc n) (t ∷ hs) rs (suc i) f h =
      let e : length (take readings_per_line rs) ≡ readings_per_line = first_share n t hs rs f in
      rw (
        head_same t (take readings_per_line rs) (omega (arith, f.kept.0)),
        heads_modify n hs (drop readings_per_line rs) i (shares_behind n t hs rs f) (omega arith),
        later_line t hs rs i,
      )

  shares_modify :
      (n : ℕ) (hs : List LineHead) (rs : List Reading) (i : ℕ) → Shares n hs rs → i < n → SmallLine (g (line_in hs rs i)) →
      shares_with hs rs (modify g i (view_lines n hs rs)) ≡
      sets rs (i * readings_per_line) (written (get_or hs i (head_of no_line)).kept (g (line_in hs rs i)).kept)
  unfolding shares_with view_lines modify
  shares_modify zero hs rs i f h s = absurd (omega arith)
  shares_modify (suc n) [] rs i f h s = absurd (omega (arith, f.heads))
  shares_modify (suc n) (t ∷ hs) rs zero f h s =
      rw (shares_same n hs (drop readings_per_line rs) (shares_behind n t hs rs f))
      (share_written t.kept (g (view_line t (take readings_per_line rs))).kept rs f.kept.0 s (omega (arith, f.room)))
  shares_modify (suc n) (t ∷ hs) rs (suc i) f h s =
      let e : length (take readings_per_line rs) ≡ readings_per_line = first_share n t hs rs f in
      let at : suc i * readings_per_line ≡ readings_per_line + i * readings_per_line = omega arith in
      rw (
        kept_same t (take readings_per_line rs),
        share_same (take readings_per_line rs) t.kept (omega (arith, f.kept.0)),
        shares_modify n hs (drop readings_per_line rs) i (shares_behind n t hs rs f) (omega arith) (rw (later_line t hs rs i) at s),
        later_line t hs rs i,
        at,
      )
      (sets_behind readings_per_line (i * readings_per_line) (written (get_or hs i (head_of no_line)).kept (g (line_in hs (drop readings_per_line rs) i)).kept) rs)

-- ---- one line of a state and a store

module _ (st : Held) (x : Columns) (f : Fits st x) (i : ℕ) (h : i < st.settings.lines) where
  share_rows : take readings_per_line (drop (i * readings_per_line) (rows x (places st))) ≡ rows_from x (i * readings_per_line) readings_per_line
  unfolding share places
  share_rows = share_of_rows x (i * readings_per_line) readings_per_line (st.settings.lines * readings_per_line) (omega arith)

  -- line i is its head with the rows of its share
  pub line_of :
      get_or (view st x).lines i no_line ≡ view_line (get_or st.heads i (head_of no_line)) (rows_from x (i * readings_per_line) readings_per_line)
  unfolding view
  line_of =
      line_at_lem st.settings.lines st.heads (rows x (places st)) i h f.heads ∙
      ap (view_line (get_or st.heads i (head_of no_line))) share_rows

  -- line i keeps no more than its share has places
  pub head_small : SmallHead (get_or st.heads i (head_of no_line))
  head_small = small_at st.settings.lines st.heads i f.kept h f.heads

  module _ (g : Line → Line) where
    -- where line i changes, its head is set
    pub heads_line :
        heads_with st.heads (modify g i (view st x).lines) ≡
        set st.heads i (head_of (g (view_line (get_or st.heads i (head_of no_line)) (rows_from x (i * readings_per_line) readings_per_line))))
    unfolding view
    heads_line =
        rw (← share_rows)
        (heads_modify g st.settings.lines st.heads (rows x (places st)) i (shares st x f st.settings.lines refl) h)

    -- and its share is written
    pub put_columns_line :
        (n : Node) → n.lines ≡ modify g i (view st x).lines →
        SmallLine (g (view_line (get_or st.heads i (head_of no_line)) (rows_from x (i * readings_per_line) readings_per_line))) →
        put_columns st x n ≡
        with_kept x (i * readings_per_line) (get_or st.heads i (head_of no_line)).kept
        (g (view_line (get_or st.heads i (head_of no_line)) (rows_from x (i * readings_per_line) readings_per_line))).kept
    unfolding put_columns view places with_kept
    put_columns_line n e small =
        let line : Line = view_line (get_or st.heads i (head_of no_line)) (rows_from x (i * readings_per_line) readings_per_line) in
        let rs : List Reading = written (get_or st.heads i (head_of no_line)).kept (g line).kept in
        let long : length rs ≡ max (get_or st.heads i (head_of no_line)).kept (length (g line).kept) =
        length_written (get_or st.heads i (head_of no_line)).kept (g line).kept in
        let there : SmallHead (get_or st.heads i (head_of no_line)) = head_small in
        let same : shares_with st.heads (rows x (places st)) n.lines ≡ sets (rows x (places st)) (i * readings_per_line) rs =
        rw (e, ← share_rows)
        (shares_modify g st.settings.lines st.heads (rows x (places st)) i (shares st x f st.settings.lines refl) h
        (rw (← share_rows) at small)) in
        ap (with_rows x) same ∙ with_rows_sets x (places st) (i * readings_per_line) rs f.room (omega arith)
