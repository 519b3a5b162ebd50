-- View and put: a node laid into state and store is what they then stand for, and what they stand for, laid down, changes nothing. The
-- lines by the laws on shares, the store by the laws on columns.
use Prim.Native.Nat.{ℕ, ◌*◌, ◌≤◌}
use mathlib.Core.Path.{◌≡◌, refl, ◌∙◌, ap, ap₂, subst}
use mathlib.Core.List.{List, ◌++◌}
use native.Mathlib.Omega.{arith}
use lib.ListN.{length, take, drop, length-append, take-append-drop}
use lib.Seq.{take_at, length-take-le}
use Rattle.area.specs.Laid.{in_front}
use Rattle.settings.specs.declared.Settings.{Settings}
use Rattle.store.specs.Lists.{Every}
use Rattle.protocol.specs.Node.{Line, Node}
use Rattle.store.specs.Sizes.{readings_per_line}
use Rattle.store.specs.Columns.{with_rows, rows, store_length, Columns}
use Rattle.node.specs.View.{view_lines, places, view, heads_with, shares_with, put_state, put_columns}
use Rattle.node.specs.declared.LineHead.{LineHead}
use Rattle.node.specs.Held.{Held}
use Rattle.store.proofs.Columns.{with_rows_rows, rows_with_rows, store_length_with_rows, length_rows}
use Rattle.node.proofs.Shares.{
  SmallLine,
  SmallHead,
  Shares,
  length_heads_with,
  length_shares_with,
  lines_put,
  heads_put,
  length_view_lines,
  small_view_lines,
  heads_same,
  shares_same,
}

-- a state and a store with room for its lines
pub record Fits (st : Held) (x : Columns) : Type 0 where
  pub heads : st.settings.lines ≤ length st.heads
  pub kept : Every SmallHead (take st.settings.lines st.heads)
  pub room : places st ≤ store_length x
  pub displays : st.settings.displays ≤ length st.acknowledged

-- a node of as many lines, each within its share, and as many displays
pub record Sized (s : Settings) (n : Node) : Type 0 where
  pub lines : length n.lines ≡ s.lines
  pub small : Every SmallLine n.lines
  pub displays : length n.acknowledged ≡ s.displays

-- ---- what stays

pub settings_put : (st : Held) (n : Node) → (put_state st n).settings ≡ st.settings
unfolding put_state
settings_put st n = refl

pub length_heads_put : (st : Held) (n : Node) → length (put_state st n).heads ≡ length st.heads
unfolding put_state
length_heads_put st n = length_heads_with st.heads n.lines

-- what state and store stand for has the state's lines, each within its share
pub view_sized :
    (st : Held) (x : Columns) → st.settings.lines ≤ length st.heads → st.settings.displays ≤ length st.acknowledged →
    Sized st.settings (view st x)
unfolding view
view_sized st x h d =
    record {
      lines = length_view_lines st.settings.lines st.heads (rows x (places st)) h;
      small = small_view_lines st.settings.lines st.heads (rows x (places st));
      displays = length-take-le st.settings.displays st.acknowledged d;
    }

module _ (st : Held) (x : Columns) (f : Fits st x) where
  pub shares : (m : ℕ) → m ≡ st.settings.lines → Shares m st.heads (rows x (places st))
  unfolding places
  shares m e =
      record {
        heads = omega (arith, f.heads);
        kept = rw e f.kept;
        room = omega (arith, length_rows x (st.settings.lines * readings_per_line));
      }

  -- ---- what they stand for, laid down

  pub put_state_view : put_state st (view st x) ≡ st
  unfolding put_state view in_front
  put_state_view =
      ap₂ (λ (hs : List LineHead) (ids : List ℕ).
      record {
        operator = st.operator;
        checkpoint = st.checkpoint;
        heads = hs;
        settings = st.settings;
        clock = st.clock;
        c = st.c;
        p = st.p;
        phase = st.phase;
        acknowledged = ids;
      })
      (heads_same st.settings.lines st.heads (rows x (places st)) (shares st.settings.lines refl))
      (ap (λ (m : ℕ). take st.settings.displays st.acknowledged ++ drop m st.acknowledged)
      (length-take-le st.settings.displays st.acknowledged f.displays) ∙
      take-append-drop st.settings.displays st.acknowledged)

  pub put_columns_view : put_columns st x (view st x) ≡ x
  unfolding put_columns view
  put_columns_view =
      ap (with_rows x) (shares_same st.settings.lines st.heads (rows x (places st)) (shares st.settings.lines refl)) ∙
      with_rows_rows x (places st) f.room

  -- ---- a node laid down

  module _ (n : Node) (v : Sized st.settings n) where
    pub length_laid : length (shares_with st.heads (rows x (places st)) n.lines) ≡ places st
    length_laid =
        length_shares_with n.lines st.heads (rows x (places st)) (shares (length n.lines) v.lines) v.small ∙
        length_rows x (places st)

    pub store_length_put : store_length (put_columns st x n) ≡ store_length x
    unfolding put_columns
    store_length_put =
        store_length_with_rows x (shares_with st.heads (rows x (places st)) n.lines) (omega (arith, length_laid, f.room))

    rows_put : rows (put_columns st x n) (places st) ≡ shares_with st.heads (rows x (places st)) n.lines
    unfolding put_columns
    rows_put =
        subst
        (λ (m : ℕ).
        rows (with_rows x (shares_with st.heads (rows x (places st)) n.lines)) m ≡
        shares_with st.heads (rows x (places st)) n.lines)
        length_laid (rows_with_rows x (shares_with st.heads (rows x (places st)) n.lines))

    pub view_put : view (put_state st n) (put_columns st x n) ≡ n
    unfolding view put_state places in_front
    view_put =
        ap₂ (λ (ls : List Line) (ids : List ℕ).
        record {
          clock = n.clock;
          c = n.c;
          p = n.p;
          phase = n.phase;
          operator = n.operator;
          checkpoint = n.checkpoint;
          lines = ls;
          acknowledged = ids;
        })
        (ap (view_lines st.settings.lines (heads_with st.heads n.lines)) rows_put ∙
        subst
        (λ (m : ℕ).
        view_lines m (heads_with st.heads n.lines) (shares_with st.heads (rows x (places st)) n.lines) ≡ n.lines)
        v.lines (lines_put n.lines st.heads (rows x (places st)) (shares (length n.lines) v.lines) v.small))
        (take_at n.acknowledged (drop (length n.acknowledged) st.acknowledged) st.settings.displays v.displays)

    -- and they fit again
    pub fits_put : Fits (put_state st n) (put_columns st x n)
    unfolding put_state places in_front
    fits_put =
        record {
          heads = omega (arith, length_heads_with st.heads n.lines, f.heads);
          kept =
              subst (λ (m : ℕ). Every SmallHead (take m (heads_with st.heads n.lines))) v.lines
              (heads_put n.lines st.heads (omega (arith, v.lines, f.heads)) v.small);
          room = omega (arith, store_length_put, f.room);
          displays =
              omega (arith, length-append n.acknowledged (drop (length n.acknowledged) st.acknowledged), v.displays);
        }
