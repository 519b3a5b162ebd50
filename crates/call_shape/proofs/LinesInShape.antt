-- The lines in shape, line by line: the tests of heads and readings from line i on come to what all of them do, as long as each line before
-- passes. A line's readings are the first rows of its share, and their tests are those of the columns.
use Prim.Native.Nat.{ℕ, zero, suc, ◌+◌, ◌*◌, ◌≤◌, ◌<◌}
use mathlib.Core.Path.{◌≡◌, refl, sym, ◌∙◌, ap, ap₂}
use mathlib.Core.Bool.{Bool, true, false, ◌&&◌, and-false}
use mathlib.Core.List.{List, [], ◌∷◌}
use native.Mathlib.Numerals.{add-one}
use native.Mathlib.Omega.{arith}
use borrow.Author.Tests.{leb-true}
use lib.Dec.{leb, ltb}
use lib.ListN.{length, get_or, take, drop, drop_of_length-le}
use Rattle.std.proofs.lemmas.List.{get_or_default, length-take}
use lib.Seq.{drop-cons, get_or-take, length-take-le}
use Rattle.settings.specs.Limits.{max_lines}
use Rattle.store.specs.declared.Reading.{Reading}
use Rattle.store.specs.declared.StoreView.{StoreView}
use Rattle.store.specs.Sizes.{readings_per_line}
use Rattle.store.specs.Lists.{all_of}
use Rattle.store.specs.Columns.{Columns, store_length, rows_from, rows}
use Rattle.store.proofs.Choices.{and_parts}
use Rattle.store_columns.specs.Shape.{is_reading_kind}
use Rattle.store_columns.proofs.Kept.{ids_rise_lem, kinds_are_readings, meters_below}
use Rattle.operator.specs.Meters.{meter_count}
use Rattle.protocol.specs.Node.{no_line}
use Rattle.node.specs.declared.LineHead.{LineHead}
use Rattle.node.specs.View.{view_line, view_lines, head_of}
use Rattle.node.specs.Shape.{reading_ok, ids_rise, head_ok, kept_ok}
use Rattle.node.proofs.Lines.{line_rows}
use Rattle.node.proofs.EachLine.{line_at, lines_left}
use Rattle.call_shape.specs.Lent.{Lends, share_ok}

-- ---- a share

and_exchange : (a b c d : Bool) → (a && b) && (c && d) ≡ (a && c) && (b && d)
and_exchange true true c d = refl
and_exchange true false c d = sym (and-false c)
and_exchange false b c d = refl

all_of_and : {A : Type 0} (p q : A → Bool) (xs : List A) → all_of (λ x. p x && q x) xs ≡ all_of p xs && all_of q xs
unfolding all_of
all_of_and p q [] = refl
all_of_and p q (x ∷ xs) =
    ap (λ (b : Bool). (p x && q x) && b) (all_of_and p q xs) ∙ and_exchange (p x) (q x) (all_of p xs) (all_of q xs)

-- the tests of a share's columns are those of its rows
rows_ok :
    (x : Columns) (base n : ℕ) → base + n ≤ store_length x →
    share_ok base n x.ids x.kinds x.meters ≡ all_of reading_ok (rows_from x base n) && ids_rise (rows_from x base n)
unfolding share_ok reading_ok ids_rise
rows_ok x base n h =
    ap₂ ◌&&◌
    (ap₂ ◌&&◌ (kinds_are_readings x base n h) (meters_below x base n h meter_count) ∙
    sym (all_of_and (λ (r : Reading). is_reading_kind r.kind) (λ (r : Reading). ltb r.meter meter_count) (rows_from x base n)))
    (ids_rise_lem x base n h)

pub small_head : (h : LineHead) → head_ok h ≡ true → h.kept ≤ readings_per_line
unfolding head_ok
small_head h e = leb-true _ _ (and_parts (leb h.kept readings_per_line) (leb h.last_stable_id h.last_id) e).0

-- ---- the lines left

-- heads and readings of n lines are in shape, from line i on
abbrev pub lines_ok : ℕ → List LineHead → Columns → ℕ → Bool
lines_ok n hs x i =
    all_of head_ok (drop i (take n hs)) && all_of kept_ok (drop i (view_lines n hs (rows x (n * readings_per_line))))

-- i lines have passed
abbrev pub LinesSoFar : ℕ → List LineHead → StoreView → ℕ → Type 0
LinesSoFar n hs readings i = (x : Columns) → Lends x n readings → lines_ok n hs x i ≡ lines_ok n hs x 0

heads_left :
    (n : ℕ) (hs : List LineHead) (i : ℕ) → n ≤ length hs → i < n →
    drop i (take n hs) ≡ get_or hs i (head_of no_line) ∷ drop (i + 1) (take n hs)
heads_left n hs i many below =
    let e : length (take n hs) ≡ n = length-take-le n hs many in
    rw (add-one, drop-cons (take n hs) i (head_of no_line) (omega arith), get_or-take n hs i (head_of no_line) below)

no_heads_left : (n : ℕ) (hs : List LineHead) (i : ℕ) → n ≤ i → drop i (take n hs) ≡ []
no_heads_left n hs i h = drop_of_length-le (take n hs) {i = i} (omega (arith, length-take n hs))

few_lines : (n : ℕ) (hs : List LineHead) (rs : List Reading) → length (view_lines n hs rs) ≤ n
unfolding view_lines
few_lines zero hs rs = omega arith
few_lines (suc n) [] rs = omega arith
few_lines (suc n) (h ∷ hs) rs = omega (arith, few_lines n hs (drop readings_per_line rs))

no_lines_left : (n : ℕ) (hs : List LineHead) (rs : List Reading) (i : ℕ) → n ≤ i → drop i (view_lines n hs rs) ≡ []
no_lines_left n hs rs i h = drop_of_length-le (view_lines n hs rs) {i = i} (omega (arith, few_lines n hs rs))

module _
    (n : ℕ) (hs : List LineHead) (readings : StoreView) (i : ℕ) (v : LinesSoFar n hs readings i) (x : Columns) (lent : Lends x n readings) where
  pub lines_end : n ≤ i → true ≡ lines_ok n hs x 0
  unfolding all_of
  lines_end h = rw (no_heads_left n hs i h, no_lines_left n hs (rows x (n * readings_per_line)) i h) at (v x lent)

  module _ (all : length hs ≡ max_lines) (most : n ≤ max_lines) (below : i < n) (d : LineHead) where
    many : n ≤ length hs
    many = omega arith

    abbrev head : LineHead
    head = get_or hs i d

    found : get_or hs i (head_of no_line) ≡ head
    found = get_or_default hs i (head_of no_line) d (omega arith)

    head_left : all_of head_ok (drop i (take n hs)) ≡ head_ok head && all_of head_ok (drop (i + 1) (take n hs))
    unfolding all_of
    head_left = rw (heads_left n hs i many below, found)

    pub lines_wrong_head : head_ok head ≡ false → false ≡ lines_ok n hs x 0
    lines_wrong_head e = rw (head_left, e) at (v x lent)

    module _ (right : head_ok head ≡ true) (ok : Bool) (told : ok ≡ share_ok (i * readings_per_line) head.kept readings.ids.now readings.kinds.now readings.meters.now) where
      line_ok : kept_ok (line_at hs (rows x (n * readings_per_line)) i) ≡ ok
      unfolding kept_ok
      line_ok =
          let small : head.kept ≤ readings_per_line = small_head head right in
          let lent_share :
          share_ok (i * readings_per_line) head.kept x.ids x.kinds x.meters ≡
          share_ok (i * readings_per_line) head.kept readings.ids.now readings.kinds.now readings.meters.now = cc in
          let share : List Reading = take readings_per_line (drop (i * readings_per_line) (rows x (n * readings_per_line))) in
          ap (λ (h : LineHead). kept_ok (view_line h share)) found ∙
          ap (λ (rs : List Reading). all_of reading_ok rs && ids_rise rs) (line_rows x (n * readings_per_line) i head small (omega arith)) ∙
          sym (rows_ok x (i * readings_per_line) head.kept (omega (arith, lent.room))) ∙ lent_share ∙ sym told

      line_left :
          all_of kept_ok (drop i (view_lines n hs (rows x (n * readings_per_line)))) ≡
          ok && all_of kept_ok (drop (i + 1) (view_lines n hs (rows x (n * readings_per_line))))
      unfolding all_of
      line_left = rw (lines_left n hs (rows x (n * readings_per_line)) i many below, line_ok)

      pub lines_wrong_share : ok ≡ false → false ≡ lines_ok n hs x 0
      lines_wrong_share e =
          sym (and-false (all_of head_ok (drop i (take n hs)))) ∙ (rw (line_left, e) at (v x lent))

      pub lines_turn : ok ≡ true → lines_ok n hs x (i + 1) ≡ lines_ok n hs x 0
      lines_turn e = rw (head_left, right, line_left, e) at (v x lent)
