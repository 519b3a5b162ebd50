-- A rule that looks at no line: heads, store and the displays' last ids stay as they were, so what it leaves of the state alone, it leaves
-- of state and store. By the laws on view and put.
use Prim.Native.Nat.{ℕ, ◌≤◌}
use mathlib.Core.Path.{◌≡◌, refl, sym, ◌∙◌, ap}
use mathlib.Core.Bool.{true}
use mathlib.Core.List.{List, [], ◌∷◌, append-nil}
use lib.ListN.{length}
use Rattle.area.specs.Laid.{in_front}
use Rattle.settings.specs.Limits.{max_lines, max_displays}
use Rattle.record.specs.declared.Record.{Record}
use Rattle.record.specs.Layout.{bytes_of, all_bytes}
use Rattle.store.specs.Columns.{Columns, store_length}
use Rattle.protocol.specs.declared.Phase.TheVariants as Phase
use Rattle.protocol.specs.declared.Rule.TheVariants as Rule
use Rattle.protocol.specs.Rules.{act}
use Rattle.node.specs.Held.{Held}
use Rattle.node.specs.View.{places, view, heads_with, put_state}
use Rattle.node.specs.Shape.{state_in_shape}
use Rattle.node.proofs.View.{Fits, put_state_view}
use Rattle.node.proofs.Writes.{put_columns_same}
use Rattle.node.proofs.AfterCalls.{shape_fits}
use Rattle.step_outcome.specs.Done.{RuleDone, node_alone, DoneAlone}

-- one record in front of the area
pub one_record :
    (area : List ℕ) {area' : List ℕ} {r s : Record} → r ≡ s → area' ≡ in_front (bytes_of r) area → area' ≡ in_front (all_bytes (s ∷ [])) area
unfolding all_bytes
one_record area {s = s} is e = rw (append-nil (bytes_of s), ← is) e

-- and none
pub none_in_front : (ids : List ℕ) → in_front [] ids ≡ ids
unfolding in_front
none_in_front ids = refl

-- a state with room for every line and every display, and a store, in shape
pub record Kept (st : Held) (x : Columns) : Type 0 where
  pub heads : length st.heads ≡ max_lines
  pub displays : length st.acknowledged ≡ max_displays
  pub room : places st ≤ store_length x
  pub shape : state_in_shape st x ≡ true

module _ (st : Held) (x : Columns) (kept : Kept st x) where
  pub fits : Fits st x
  fits = shape_fits st x kept.heads kept.displays kept.room kept.shape

  -- lines that stay leave the heads as they were
  pub heads_stay : heads_with st.heads (view st x).lines ≡ st.heads
  unfolding put_state
  heads_stay = ap (λ (q : Held). q.heads) (put_state_view st x fits)

  -- and a rule leaves what the displays have acknowledged
  pub acknowledged_stay : in_front (view st x).acknowledged st.acknowledged ≡ st.acknowledged
  unfolding put_state
  acknowledged_stay = ap (λ (q : Held). q.acknowledged) (put_state_view st x fits)

  -- so what such a rule leaves of the state alone, it leaves of state and store
  module _ {area area' : List ℕ} {st' : Held} {records : ℕ} where
    pub withdraw_done : DoneAlone Rule.Withdraw st area st' area' records → RuleDone Rule.Withdraw st x area st' x area' records
    unfolding act put_state view node_alone heads_with
    withdraw_done d =
        record {
          state = d.state ∙ rw (none_in_front st.acknowledged, heads_stay, acknowledged_stay);
          columns = sym (put_columns_same st x fits (act st.settings (view st x) Rule.Withdraw).node refl);
          bytes = d.bytes;
          count = d.count;
        }

    pub end_correction_done :
        DoneAlone Rule.EndCorrection st area st' area' records → RuleDone Rule.EndCorrection st x area st' x area' records
    unfolding act put_state view node_alone heads_with
    end_correction_done d =
        record {
          state = d.state ∙ rw (none_in_front st.acknowledged, heads_stay, acknowledged_stay);
          columns = sym (put_columns_same st x fits (act st.settings (view st x) Rule.EndCorrection).node refl);
          bytes = d.bytes;
          count = d.count;
        }

-- ---- what is held behind rule 1

-- the operator is the checkpoint, with its numbering
abbrev withdrawn : Held → Held
withdrawn st =
    record {
      operator = st.checkpoint;
      checkpoint = st.checkpoint;
      heads = st.heads;
      settings = st.settings;
      clock = st.clock;
      c = st.c;
      p = st.c;
      phase = Phase.Correcting;
      acknowledged = st.acknowledged;
    }

pub withdraw_held : (st : Held) → withdrawn st ≡ put_state st (act st.settings (node_alone st) Rule.Withdraw).node
unfolding act put_state node_alone heads_with
withdraw_held st = rw (none_in_front st.acknowledged) refl
