-- After a call: the node that state and store stand for is the outcome's, and they fit again, so that a next call may follow. By the laws
-- of view and put, and since an outcome has as many lines, none past its share.
use Prim.Native.Nat.{ℕ, ◌≤◌}
use mathlib.Core.Path.{◌≡◌, ◌∙◌, ap, ap₂}
use mathlib.Core.Bool.{true}
use mathlib.Core.List.{List}
use native.Mathlib.Omega.{arith}
use lib.ListN.{length, take}
use Rattle.area.specs.Laid.{in_front}
use Rattle.settings.specs.Limits.{max_lines, max_displays}
use Rattle.journal.specs.declared.Call.{Call}
use Rattle.protocol.specs.Node.{Node}
use Rattle.protocol.specs.Calls.{outcome_of}
use Rattle.store.specs.Columns.{Columns, store_length}
use Rattle.retransmission.specs.Places.{places_of, with_places, holding}
use Rattle.protocol.proofs.SentBack.{outcome_acknowledged}
use Rattle.store.proofs.Pairs.{every_to}
use Rattle.node.specs.View.{Lent, places, view, put_state, put_columns}
use Rattle.node.specs.Shape.{state_in_shape}
use Rattle.node.specs.Calls.{Called, put_lent, called_on}
use Rattle.record.specs.Layout.{all_bytes}
use Rattle.node.specs.declared.LineHead.{LineHead}
use Rattle.node.specs.Held.{Held}
use Rattle.node.proofs.Limits.{limits_hold}
use Rattle.node.proofs.View.{Fits, Sized, view_sized, view_put, fits_put, settings_put, length_heads_put}
use Rattle.node.proofs.Shape.{HeadShape, StateShape, state_facts}
use Rattle.node.proofs.Outcomes.{outcome_lines, outcome_kept}
use Rattle.node.proofs.Calls.{AcceptedOn, either_way}

-- a state in shape, with a head for each line that there can be, fits its store
pub shape_fits :
    (st : Held) (x : Columns) → length st.heads ≡ max_lines → length st.acknowledged ≡ max_displays →
    places st ≤ store_length x → state_in_shape st x ≡ true → Fits st x
shape_fits st x h d room e =
    let f : StateShape st x = state_facts st x e in
    record {
      heads = omega (arith, (limits_hold st.settings f.limits).lines);
      kept = every_to (take st.settings.lines st.heads) (λ (h : LineHead) (v : HeadShape h). v.kept) f.heads;
      room = room;
      displays = omega (arith, d, (limits_hold st.settings f.limits).displays);
    }

-- an outcome fits as what it was got from
pub outcome_sized :
    (st : Held) (x : Lent) (k : Call) → Fits st x.readings →
    Sized st.settings (outcome_of st.settings (view st x.readings) k).node
outcome_sized st x k f =
    let v : Sized st.settings (view st x.readings) = view_sized st x.readings f.heads f.displays in
    record {
      lines = outcome_lines st.settings (view st x.readings) k ∙ v.lines;
      small = outcome_kept st.settings (view st x.readings) k v.small;
      displays = ap length (outcome_acknowledged st.settings (view st x.readings) k) ∙ v.displays;
    }

module _ (st : Held) (x : Lent) (text area : List ℕ) (v : AcceptedOn st x text area) where
  abbrev after : Node
  after = (outcome_of st.settings (view st x.readings) v.call).node

  pub accepted_state : (called_on st x text area).state ≡ put_state st (outcome_of st.settings (view st x.readings) v.call).node
  accepted_state = ap (λ (r : Called). r.state) v.leaves

  pub accepted_lent : (called_on st x text area).lent ≡ put_lent st x (outcome_of st.settings (view st x.readings) v.call)
  accepted_lent = ap (λ (r : Called). r.lent) v.leaves

  pub accepted_columns :
      (called_on st x text area).lent.readings ≡
      put_columns st x.readings (outcome_of st.settings (view st x.readings) v.call).node
  unfolding put_lent
  accepted_columns = ap (λ (y : Lent). y.readings) accepted_lent

  pub accepted_sent :
      (called_on st x text area).lent.sent ≡
      with_places x.sent (holding (places_of x.sent) (outcome_of st.settings (view st x.readings) v.call).records)
  unfolding put_lent
  accepted_sent = ap (λ (y : Lent). y.sent) accepted_lent

  pub accepted_records : (called_on st x text area).records ≡ length (outcome_of st.settings (view st x.readings) v.call).records
  accepted_records = ap (λ (r : Called). r.records) v.leaves

  pub accepted_area :
      (called_on st x text area).area ≡ in_front (all_bytes (outcome_of st.settings (view st x.readings) v.call).records) area
  accepted_area = ap (λ (r : Called). r.area) v.leaves

  module _ (f : Fits st x.readings) where
    -- what state and store stand for afterwards is the outcome's node
    pub accepted_view :
        view (called_on st x text area).state (called_on st x text area).lent.readings ≡
        (outcome_of st.settings (view st x.readings) v.call).node
    accepted_view =
        ap₂ view accepted_state accepted_columns ∙ view_put st x.readings f after (outcome_sized st x v.call f)

    pub accepted_fits : Fits (called_on st x text area).state (called_on st x text area).lent.readings
    accepted_fits = rw (accepted_state, accepted_columns) (fits_put st x.readings f after (outcome_sized st x v.call f))

  pub accepted_settings : (called_on st x text area).state.settings ≡ st.settings
  accepted_settings = ap (λ (t : Held). t.settings) accepted_state ∙ settings_put st after

  pub accepted_heads : length (called_on st x text area).state.heads ≡ length st.heads
  accepted_heads = ap (λ (t : Held). length t.heads) accepted_state ∙ length_heads_put st after

-- ---- any call

module _ (st : Held) (x : Lent) (text area : List ℕ) where
  pub called_fits : Fits st x.readings → Fits (called_on st x text area).state (called_on st x text area).lent.readings
  called_fits f =
      either_way st x text area (λ (r : Called). Fits r.state r.lent.readings) (λ u. rw (u.state, u.lent) f)
      (λ v. accepted_fits st x text area v f)

  pub called_settings : (called_on st x text area).state.settings ≡ st.settings
  called_settings =
      either_way st x text area (λ (r : Called). r.state.settings ≡ st.settings) (λ u. rw u.state) (accepted_settings st x text area)

  pub called_heads : length (called_on st x text area).state.heads ≡ length st.heads
  called_heads =
      either_way st x text area (λ (r : Called). length r.state.heads ≡ length st.heads) (λ u. rw u.state) (accepted_heads st x text area)
