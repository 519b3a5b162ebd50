-- What the tests look at of a viewed line stands in its head and in the kinds of its share: the line's kept readings are the first rows of
-- its share, and a test over their kinds is one over the column.
use Prim.Native.Nat.{ℕ, ◌+◌, ◌*◌, ◌≤◌, ◌<◌}
use mathlib.Core.Path.{◌≡◌, sym, ◌∙◌, ap, subst}
use mathlib.Core.List.{List}
use native.Mathlib.Omega.{arith}
use lib.Dec.{eqb}
use lib.ListN.{length, get_or, take}
use Rattle.std.proofs.lemmas.List.{get_or_default}
use Rattle.journal.specs.Kinds.{letter_t}
use Rattle.settings.specs.Limits.{max_lines}
use Rattle.store.specs.declared.Reading.{Reading}
use Rattle.store.specs.Lists.{Every, some_of}
use Rattle.store.specs.Sizes.{readings_per_line}
use Rattle.store.specs.Columns.{Columns, store_length, rows_from, rows}
use Rattle.store.proofs.Columns.{length_rows_from}
use Rattle.store_columns.proofs.Kept.{some_of_kind}
use Rattle.protocol.specs.Node.{Line, no_line, keeps_tentative}
use Rattle.node.specs.declared.LineHead.{LineHead}
use Rattle.node.specs.Held.{Held}
use Rattle.node.specs.View.{view_line, view_lines, head_of, places, view}
use Rattle.node.proofs.Shares.{SmallHead, line_at_lem}
use Rattle.node.proofs.Lines.{small_at, kept_rows}
use Rattle.call_refusals.specs.Tests.{StandsIn}

module _
    (x : Columns) (n : ℕ) (hs : List LineHead) (i : ℕ) (small : Every SmallHead (take n hs)) (below : i < n) (many : n ≤ length hs)
    (room : n * readings_per_line ≤ store_length x) where
  line_stands :
      StandsIn (get_or hs i (head_of no_line)) x.kinds (i * readings_per_line) (get_or (view_lines n hs (rows x (n * readings_per_line))) i no_line)
  unfolding view_line keeps_tentative
  line_stands =
      let head : LineHead = get_or hs i (head_of no_line) in
      let base : ℕ = i * readings_per_line in
      let at : _ = line_at_lem n hs (rows x (n * readings_per_line)) i below many in
      let kept : (get_or (view_lines n hs (rows x (n * readings_per_line))) i no_line).kept ≡ rows_from x base head.kept =
      kept_rows x n hs i small below many in
      let fits : base + head.kept ≤ store_length x = omega (arith, small_at n hs i small below many) in
      record {
        boundary = ap (λ (l : Line). l.boundary) at;
        last_id = ap (λ (l : Line). l.last_id) at;
        last_stable_id = ap (λ (l : Line). l.last_stable_id) at;
        kept = ap length kept ∙ length_rows_from x base head.kept;
        tentative = ap (some_of (λ (r : Reading). eqb r.kind letter_t)) kept ∙ sym (some_of_kind x base head.kept fits letter_t);
      }

-- of a state with these lines and heads, and a store with these kinds
module _
    (st : Held) (i : ℕ) (d : LineHead) (small : Every SmallHead (take st.settings.lines st.heads)) (below : i < st.settings.lines)
    (all : length st.heads ≡ max_lines) (most : st.settings.lines ≤ max_lines) where
  many : st.settings.lines ≤ length st.heads
  many = omega arith

  found : get_or st.heads i (head_of no_line) ≡ get_or st.heads i d
  found = get_or_default st.heads i (head_of no_line) d (omega arith)

  -- what the head says is kept has room in a share
  pub kept_fits : (get_or st.heads i d).kept ≤ readings_per_line
  kept_fits = subst SmallHead found (small_at st.settings.lines st.heads i small below many)

  pub viewed_line_stands :
      (x : Columns) {kinds : List ℕ} → places st ≤ store_length x → x.kinds ≡ kinds →
      StandsIn (get_or st.heads i d) kinds (i * readings_per_line) (get_or (view st x).lines i no_line)
  unfolding view places
  viewed_line_stands x room g =
      let base : ℕ = i * readings_per_line in
      let line : Line = get_or (view st x).lines i no_line in
      subst (λ (kinds : List ℕ). StandsIn (get_or st.heads i d) kinds base line) g
      (subst (λ (head : LineHead). StandsIn head x.kinds base line) found
      (line_stands x st.settings.lines st.heads i small below many room))
