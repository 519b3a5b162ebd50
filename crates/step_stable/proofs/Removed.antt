-- A bucket's readings removed line by line: each turn writes one line's share and head, and what is left to do from then on comes to the
-- same; when no line is left, it is done. A share is written in front of its own rows, which change nothing.
use Prim.Native.Nat.{ℕ, suc, ◌+◌, ◌*◌, ◌-◌, ◌≤◌, ◌<◌, max}
use mathlib.Core.Path.{◌≡◌, refl, sym, ◌∙◌, ap}
use mathlib.Core.Bool.{not}
use mathlib.Core.List.{List, [], ◌∷◌, ◌++◌, map, append_assoc}
use native.Mathlib.Numerals.{add-one}
use native.Mathlib.Omega.{arith}
use lib.ListN.{length, get_or, take, drop, set, replicate, length-append, length-replicate, length-set, length-map, take-append-drop}
use lib.Seq.{take-suc-set, drop-set-lt, drop-cons}
use Rattle.settings.specs.declared.Settings.{Settings}
use Rattle.store.specs.declared.Reading.{Reading}
use Rattle.store.specs.Sizes.{readings_per_line}
use Rattle.store.specs.Lists.{keep, Every}
use Rattle.store.specs.Order.{is_in}
use Rattle.store.specs.Columns.{Columns, store_length, rows_from, zeroed, with_rows}
use Rattle.store.specs.Parts.{with_rows_at, with_kept}
use Rattle.store.proofs.Pairs.{every_to, every_map}
use Rattle.store.proofs.Columns.{length_rows_from, take_rows, drop_rows, with_rows_at_front}
use Rattle.store.proofs.Keeping.{length_keep}
use Rattle.store_columns.proofs.Rows.{own_rows}
use Rattle.store_columns.proofs.Written.{SameLengths, rows_join, rows_behind, lengths_written, same_lengths, lengths_then}
use Rattle.protocol.specs.Node.{Line}
use Rattle.protocol.specs.Rules.{without}
use Rattle.node.specs.declared.LineHead.{LineHead}
use Rattle.node.specs.View.{view_line, view_lines, head_of, heads_with, share_with, shares_with}
use Rattle.node.proofs.Shares.{SmallHead, SmallLine, Shares, length_shares_with, length_view_lines, small_view_lines}
use Rattle.node.proofs.Outcomes.{without_small}

-- the readings of the other buckets, of so many from a place on
abbrev pub others : Settings → ℕ → Columns → ℕ → ℕ → List Reading
others s j x base n = keep (λ (q : Reading). not (is_in s.bucket j q)) (rows_from x base n)

-- the next lines, whose shares stand from a place on, without the bucket's readings
abbrev pub lines_left : Settings → ℕ → Columns → ℕ → ℕ → List LineHead → List Line
lines_left s j x base n hs = map (without s j) (view_lines n hs (rows_from x base (n * readings_per_line)))

abbrev pub heads_left : Settings → ℕ → Columns → ℕ → ℕ → List LineHead → List LineHead
heads_left s j x base n hs = heads_with hs (lines_left s j x base n hs)

abbrev pub store_left : Settings → ℕ → Columns → ℕ → ℕ → List LineHead → Columns
store_left s j x base n hs =
    with_rows_at x base (shares_with hs (rows_from x base (n * readings_per_line)) (lines_left s j x base n hs))

-- a head whose line keeps so many readings
abbrev pub head_keeping : LineHead → ℕ → LineHead
head_keeping h n = record { boundary = h.boundary; last_id = h.last_id; last_stable_id = h.last_stable_id; kept = n }

-- ---- one line

module _ (s : Settings) (j : ℕ) (x : Columns) (base n : ℕ) (h : LineHead) (hs : List LineHead) (small : h.kept ≤ readings_per_line) where
  -- the store after this line's turn
  abbrev next : Columns
  next = with_kept x base h.kept (others s j x base h.kept)

  written : List Reading
  written = others s j x base h.kept ++ replicate (h.kept - length (others s j x base h.kept)) zeroed

  pub length_others : length (others s j x base h.kept) ≤ h.kept
  length_others = omega (arith, length_keep (λ (q : Reading). not (is_in s.bucket j q)) (rows_from x base h.kept), length_rows_from x base h.kept)

  length_written : length written ≡ h.kept
  unfolding written
  length_written = simp (length-append, length-replicate) (omega (arith, length_others))

  next_written : next ≡ with_rows_at x base written
  unfolding with_kept written
  next_written = refl

  rows_next : (from m : ℕ) → base + h.kept ≤ from → rows_from next from m ≡ rows_from x from m
  rows_next from m g = rw next_written (rows_behind x base written from m (omega (arith, length_written)))

  pub lengths_next : SameLengths next x
  lengths_next = rw next_written (lengths_written x base written)

  first_rows : take readings_per_line (rows_from x base (suc n * readings_per_line)) ≡ rows_from x base readings_per_line
  first_rows = take_rows x base (suc n * readings_per_line) readings_per_line (omega arith)

  later_rows : drop readings_per_line (rows_from x base (suc n * readings_per_line)) ≡ rows_from next (base + readings_per_line) (n * readings_per_line)
  later_rows =
      let e : suc n * readings_per_line - readings_per_line ≡ n * readings_per_line = omega arith in
      drop_rows x base (suc n * readings_per_line) readings_per_line (omega arith) ∙ ap (rows_from x (base + readings_per_line)) e ∙
      sym (rows_next (base + readings_per_line) (n * readings_per_line) (omega arith))

  -- the line without the bucket's readings
  abbrev first : Line
  first =
      record {
        boundary = h.boundary;
        last_id = h.last_id;
        last_stable_id = h.last_stable_id;
        kept = others s j x base h.kept;
      }

  lines_turn : lines_left s j x base (suc n) (h ∷ hs) ≡ first ∷ lines_left s j next (base + readings_per_line) n hs
  unfolding view_lines view_line without
  lines_turn =
      rw (first_rows, take_rows x base readings_per_line h.kept small, later_rows)

  pub heads_turn : heads_left s j x base (suc n) (h ∷ hs) ≡ head_keeping h (length (others s j x base h.kept)) ∷ heads_left s j next (base + readings_per_line) n hs
  unfolding heads_with head_of
  heads_turn = ap (heads_with (h ∷ hs)) lines_turn

  -- the share is written in front of its own rows
  share_turn : (rest : List Reading) → with_rows_at x base (share_with (rows_from x base readings_per_line) h.kept (others s j x base h.kept) ++ rest) ≡ with_rows_at next (base + readings_per_line) rest
  unfolding share_with written
  share_turn rest =
      let k : ℕ = h.kept in
      let kept : List Reading = others s j x base k in
      let zeros : List Reading = replicate (k - length kept) zeroed in
      let own : List Reading = rows_from x (base + k) (readings_per_line - k) in
      let most : max k (length kept) ≡ k = omega (arith, length_others) in
      let end : base + k + (readings_per_line - k) ≡ base + readings_per_line = omega arith in
      let cut : drop k (rows_from x base readings_per_line) ≡ own = drop_rows x base readings_per_line k small in
      let at : base + k ≡ base + length written = omega (arith, length_written) in
      rw (most, cut)
      (ap (with_rows_at x base) (append_assoc kept (zeros ++ own) rest ∙ ap (◌++◌ kept) (append_assoc zeros own rest) ∙ sym (append_assoc kept zeros (own ++ rest))) ∙
      sym (rows_join x base (base + k) written (own ++ rest) at) ∙
      ap (λ (y : Columns). with_rows_at y (base + k) (own ++ rest)) (sym next_written) ∙
      ap (λ (rs : List Reading). with_rows_at next (base + k) (rs ++ rest)) (sym (rows_next (base + k) (readings_per_line - k) (omega arith))) ∙
      own_rows next (base + k) (readings_per_line - k) rest ∙
      ap (λ (m : ℕ). with_rows_at next m rest) end)

  pub store_turn : store_left s j x base (suc n) (h ∷ hs) ≡ store_left s j next (base + readings_per_line) n hs
  unfolding shares_with
  store_turn = rw (lines_turn, first_rows, later_rows) (share_turn (shares_with hs (rows_from next (base + readings_per_line) (n * readings_per_line)) (lines_left s j next (base + readings_per_line) n hs)))

-- ---- all lines

-- i lines are done: head by head and share by share, what is left comes to what all came to
pub record Removing (s : Settings) (j : ℕ) (hs₀ : List LineHead) (x₀ : Columns) (hs : List LineHead) (x : Columns) (i : ℕ) : Type 0 where
  pub passed : i ≤ s.lines
  pub enough : s.lines ≤ length hs
  pub small : Every SmallHead (take (s.lines - i) (drop i hs))
  pub lengths : SameLengths x x₀
  pub heads : take i hs ++ heads_left s j x (i * readings_per_line) (s.lines - i) (drop i hs) ≡ heads_left s j x₀ 0 s.lines hs₀
  pub store : store_left s j x (i * readings_per_line) (s.lines - i) (drop i hs) ≡ store_left s j x₀ 0 s.lines hs₀

pub removing_start : (s : Settings) (j : ℕ) (hs : List LineHead) (x : Columns) → s.lines ≤ length hs → Every SmallHead (take s.lines hs) → Removing s j hs x hs x 0
removing_start s j hs x enough small =
    let all : s.lines - 0 ≡ s.lines = omega arith in
    record {
      passed = omega arith;
      enough = enough;
      small = rw all small;
      lengths = same_lengths x;
      heads = rw all;
      store = rw all;
    }

module _ (s : Settings) (j : ℕ) (hs₀ : List LineHead) (x₀ : Columns) (hs : List LineHead) (x : Columns) (i : ℕ) (v : Removing s j hs₀ x₀ hs x i) where
  module _ (blank own : LineHead) (is : own ≡ get_or hs i blank) (h : i < s.lines) where
    -- the head of the line at i in front of those behind it
    left : drop i hs ≡ own ∷ drop (i + 1) hs
    left = rw (is, add-one i) (drop-cons hs i blank (omega (arith, v.enough)))

    fewer : s.lines - i ≡ suc (s.lines - (i + 1))
    fewer = omega arith

    left_small : Every SmallHead (take (suc (s.lines - (i + 1))) (own ∷ drop (i + 1) hs))
    left_small = rw (fewer, left) at v.small

    pub own_small : own.kept ≤ readings_per_line
    own_small = left_small.0

    -- one line more
    pub removing_turn :
        (kept : ℕ) (hs' : List LineHead) (y : Columns) → hs' ≡ set hs i (head_keeping own kept) →
        kept ≡ length (others s j x (i * readings_per_line) own.kept) →
        y ≡ with_kept x (i * readings_per_line) own.kept (others s j x (i * readings_per_line) own.kept) →
        Removing s j hs₀ x₀ hs' y (i + 1)
    removing_turn kept hs' y laid e g =
        let m : ℕ = s.lines - (i + 1) in
        let base : ℕ = i * readings_per_line in
        let more : (i + 1) * readings_per_line ≡ base + readings_per_line = omega arith in
        let head : LineHead = head_keeping own kept in
        let front : take (i + 1) hs' ≡ take i hs ++ head ∷ [] =
        rw (laid, add-one i) (take-suc-set hs i head (omega (arith, v.enough))) in
        let behind : drop (i + 1) hs' ≡ drop (i + 1) hs = rw laid (drop-set-lt (i + 1) hs i head (omega arith)) in
        let stay : List Reading = others s j x base own.kept in
        let rest : List LineHead = heads_left s j (with_kept x base own.kept stay) (base + readings_per_line) m (drop (i + 1) hs) in
        record {
          passed = omega arith;
          enough = rw laid (omega (arith, v.enough, length-set hs i head));
          small = rw behind left_small.1;
          lengths = rw g (lengths_then (lengths_next s j x base m own (drop (i + 1) hs) own_small) v.lengths);
          heads =
              rw (front, behind, more, g, e, append_assoc (take i hs) (head_keeping own (length stay) ∷ []) rest)
              (ap (◌++◌ (take i hs)) (sym (heads_turn s j x base m own (drop (i + 1) hs) own_small)) ∙
              (rw (fewer, left) at v.heads));
          store =
              rw (behind, more, g)
              (sym (store_turn s j x base m own (drop (i + 1) hs) own_small) ∙ (rw (fewer, left) at v.store));
        }

  -- no line is left
  module _ (h : s.lines ≤ i) where
    none : s.lines - i ≡ 0
    none = omega arith

    pub removing_heads : hs ≡ heads_left s j x₀ 0 s.lines hs₀
    unfolding heads_with view_lines
    removing_heads = sym (take-append-drop i hs) ∙ (rw none at v.heads)

    pub removing_store : x ≡ store_left s j x₀ 0 s.lines hs₀
    unfolding shares_with view_lines with_rows_at rows_from
    removing_store = rw none at v.store

-- what is left at the start, from the first place on, is a new front of the store
pub store_front : (s : Settings) (j : ℕ) (hs : List LineHead) (x : Columns) → s.lines ≤ length hs → Every SmallHead (take s.lines hs) → s.lines * readings_per_line ≤ store_length x → store_left s j x 0 s.lines hs ≡ with_rows x (shares_with hs (rows_from x 0 (s.lines * readings_per_line)) (lines_left s j x 0 s.lines hs))
store_front s j hs x enough small room =
    let rs : List Reading = rows_from x 0 (s.lines * readings_per_line) in
    let lines : List Line = lines_left s j x 0 s.lines hs in
    let many : length lines ≡ s.lines = length-map (view_lines s.lines hs rs) (without s j) ∙ length_view_lines s.lines hs rs enough in
    let shares : Shares (length lines) hs rs = record { heads = omega arith; kept = rw many small; room = omega (arith, length_rows_from x 0 (s.lines * readings_per_line)) } in
    let fit : Every SmallLine lines = every_map (without s j) SmallLine (view_lines s.lines hs rs) (every_to (view_lines s.lines hs rs) (without_small s j) (small_view_lines s.lines hs rs)) in
    with_rows_at_front x (shares_with hs rs lines) (omega (arith, length_shares_with lines hs rs shares fit, length_rows_from x 0 (s.lines * readings_per_line)))
