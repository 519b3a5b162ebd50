-- Document 02, W4: the theorem. An accepted step finds the box in shape, and takes exactly one off the steps that its node needs; a refused
-- call and a display's call take nothing. From an opening on the monitor has left to work what the node has.
use Prim.Native.Nat.{ℕ, ◌-◌, ◌≤◌}
use mathlib.Core.Path.{◌≡◌, sym, ◌∙◌, ap, ap₂, subst}
use mathlib.Core.Bool.{true, false, false≢true}
use mathlib.Core.Logic.{◌↔◌}
use mathlib.Core.List.{List, [], ◌∷◌, ◌++◌}
use native.Mathlib.Omega.{arith}
use lib.Dec.{ltb}
use lib.ListN.{length, take, replicate, length-replicate}
use Rattle.settings.specs.Limits.{max_lines, max_displays}
use Rattle.journal.specs.declared.Call.{Call}
use Rattle.store.specs.Columns.{Columns, rows}
use Rattle.store.proofs.Pairs.{every_to}
use Rattle.protocol.specs.Kinds.{Kind, kind_of}
use Rattle.protocol.specs.Node.{Node}
use Rattle.protocol.specs.Calls.{outcome_of}
use Rattle.protocol.specs.declared.Phase.{Phase}
use Rattle.protocol.specs.Rules.{is_correcting}
use Rattle.protocol.specs.Monitor.{left_to_work}
use Rattle.protocol.specs.StepCount.{buckets_left}
use Rattle.protocol.specs.Runs.{start}
use Rattle.protocol.proofs.Opening.{invariant}
use Rattle.protocol.proofs.Settling.{Level, none_needed, steps_ahead, step_takes_one, left_same}
use Rattle.node.specs.declared.LineHead.{LineHead}
use Rattle.node.specs.Held.{Held}
use Rattle.node.specs.View.{Lent, places, view, with_acknowledged, put_state, put_columns}
use Rattle.node.specs.Calls.{called_on}
use Rattle.node.proofs.Limits.{limits_hold}
use Rattle.node.proofs.Shares.{length_view_lines, small_view_lines}
use Rattle.node.proofs.View.{Fits, Sized, view_put}
use Rattle.node.proofs.Shape.{HeadShape, PhaseShape, InShape, in_shape_facts}
use Rattle.node.proofs.Outcomes.{outcome_lines, outcome_kept}
use Rattle.node.proofs.Opening as opening
use Rattle.node.proofs.Calls.{AcceptedOn, accepted_call}
use Rattle.node.proofs.AfterCalls.{accepted_state, accepted_columns, accepted_settings, called_heads}
use Rattle.consistency.specs.Runs.{Box, Input, called, left, left_after}
use Rattle.consistency.specs.Accounts.{Account}
use Rattle.consistency.specs.Demand.{Handed, opening as openingOf, is_opened, box_of, settings_in, remaining, Steps}
use Rattle.consistency.specs.Exactly.{left_in, steps_from, Exactly}
use Rattle.consistency.proofs.Runs.{account_in, left_append, events_of, runs}
use Rattle.consistency.proofs.Refused.{same_box}
use Rattle.consistency.proofs.Displays.{acknowledgement_aside, fetched_same}
use Rattle.consistency.proofs.Opened.{box_stands, some_bucket, some_lines_lem, mirrors}

-- ---- one step

-- the steps that a box needs
abbrev needed : Box → ℕ
needed b = steps_ahead b.state.settings (view b.state b.lent.readings)

level_phase : (c p : ℕ) (phase : Phase) → PhaseShape c p phase → is_correcting phase ≡ true → p ≡ c
unfolding is_correcting
level_phase c p Phase.Stable h e = h
level_phase c p Phase.Failure h e = absurd (false≢true e)
level_phase c p Phase.Correcting h e = h

-- of a node the displays' last ids do not count
abbrev with_ids : List ℕ → Node → Node
with_ids ids n =
    record {
      clock = n.clock;
      c = n.c;
      p = n.p;
      phase = n.phase;
      operator = n.operator;
      checkpoint = n.checkpoint;
      lines = n.lines;
      acknowledged = ids;
    }

module _ (st : Held) (x : Lent) (heads : length st.heads ≡ max_lines) (text area : List ℕ) (v : AcceptedOn st x text area) where
  abbrev shape : InShape st x
  shape = in_shape_facts st x v.host.shape

  -- a box that a call was accepted on is in shape
  shape_level : Level st.settings (view st x.readings)
  unfolding view
  shape_level =
      let limits = limits_hold st.settings shape.limits in
      let enough : st.settings.lines ≤ length st.heads = omega (arith, heads, limits.lines) in
      let count = length_view_lines st.settings.lines st.heads (rows x.readings (places st)) enough in
      record {
        bucket = omega (arith, limits.least_bucket);
        lines = omega (arith, limits.some_lines, count);
        level = level_phase st.c st.p st.phase shape.buckets.phase;
      }

  -- what an accepted call leaves stands for the outcome's node, whatever the displays' ids are: as with four ids of 0
  abbrev level : Held
  level = with_acknowledged (replicate max_displays 0) st

  abbrev after : Node
  after = (outcome_of st.settings (view st x.readings) v.call).node

  counts_alike : steps_ahead st.settings (view (put_state st after) (put_columns st x.readings after)) ≡ steps_ahead st.settings after
  unfolding steps_ahead buckets_left view put_state put_columns places
  counts_alike =
      let limits = limits_hold st.settings shape.limits in
      let ids : List ℕ = replicate st.settings.displays 0 in
      let fits : Fits level x.readings =
      record {
        heads = omega (arith, heads, limits.lines);
        kept = every_to (take st.settings.lines st.heads) (λ (h : LineHead) (g : HeadShape h). g.kept) shape.heads;
        room = v.host.room;
        displays = limits.displays;
      } in
      let small = small_view_lines st.settings.lines st.heads (rows x.readings (places st)) in
      let count = length_view_lines st.settings.lines st.heads (rows x.readings (places st)) fits.heads in
      let sized : Sized st.settings (with_ids ids after) =
      record {
        lines = outcome_lines st.settings (view st x.readings) v.call ∙ count;
        small = outcome_kept st.settings (view st x.readings) v.call small;
        displays = length-replicate {A = ℕ} st.settings.displays 0;
      } in
      ap (steps_ahead st.settings) (view_put level x.readings fits (with_ids ids after) sized)

  accepted_takes_one :
      kind_of v.call.kind ≡ Kind.P →
      needed (record { state = (called_on st x text area).state; lent = (called_on st x text area).lent }) ≡
      needed (record { state = st; lent = x }) - 1
  accepted_takes_one kind =
      ap₂ steps_ahead (accepted_settings st x text area v)
      (ap₂ view (accepted_state st x text area v) (accepted_columns st x text area v)) ∙
      counts_alike ∙ step_takes_one st.settings (view st x.readings) shape_level v.call kind v.answered

-- a display's call takes nothing
acknowledgement_takes_none : (b : Box) (display id : ℕ) (area : List ℕ) → needed (left b (Input.acknowledge display id area)) ≡ needed b
unfolding left called steps_ahead buckets_left view places
acknowledgement_takes_none b display id area =
    let same = acknowledgement_aside b.state b.lent display id area in
    ap₂ (λ (st : Held) (x : Columns). steps_ahead st.settings (view st x)) same.state same.readings

-- ---- steps

accepted_on : (b : Box) (text area : List ℕ) → (called b (Input.journal text area)).answer ≡ 0 → AcceptedOn b.state b.lent text area
unfolding called
accepted_on b text area e = accepted_call b.state b.lent text area e

heads_left : (b : Box) (i : Input) → length b.state.heads ≡ max_lines → length (left b i).state.heads ≡ max_lines
unfolding left called
heads_left b (Input.journal text area) h = called_heads b.state b.lent text area ∙ h
heads_left b (Input.acknowledge display id area) h =
    ap (λ (st : Held). length st.heads) (acknowledgement_aside b.state b.lent display id area).state ∙ h
heads_left b (Input.fetch display from area) h = ap (λ (z : Box). length z.state.heads) (fetched_same b display from area) ∙ h

steps_take :
    {b : Box} {n : ℕ} {js : List Input} → length b.state.heads ≡ max_lines → Steps b n js → needed (left_after b js) ≡ needed b - n
unfolding left_after left called
steps_take h Steps.rest = omega arith
steps_take {b} h (Steps.step {n = n} {is = is} text area k read kind is_accepted more) =
    let i = Input.journal text area in
    let v = accepted_on b text area is_accepted in
    let same : v.call ≡ k = cc (read, v.read) in
    let one : needed (left b i) ≡ needed b - 1 =
    accepted_takes_one b.state b.lent h text area v (ap (λ (c : Call). kind_of c.kind) same ∙ kind) in
    let rest : needed (left_after (left b i) is) ≡ needed (left b i) - n = steps_take (heads_left b i h) more in
    omega (arith, one, rest)
steps_take {b} {n} h (Steps.refused {is = is} i wasRefused more) =
    steps_take (heads_left b i h) more ∙ ap (λ (z : Box). needed z - n) (same_box b i wasRefused)
steps_take {b} {n} h (Steps.acknowledge {is = is} display id area more) =
    steps_take (heads_left b (Input.acknowledge display id area) h) more ∙
    ap (λ (m : ℕ). m - n) (acknowledgement_takes_none b display id area)
steps_take {b} {n} h (Steps.fetch {is = is} display from area more) =
    steps_take (heads_left b (Input.fetch display from area) h) more ∙ ap (λ (z : Box). needed z - n) (fetched_same b display from area)

from_any_box_lem :
    (b : Box) → length b.state.heads ≡ max_lines → (js : List Input) (n : ℕ) →
    Steps b n js →
    ((left_in (left_after b js) ≡ 0) × (is_correcting (left_after b js).state.phase ≡ false)) ↔ (steps_from b.state (left_in b) ≤ n)
unfolding left_in steps_from steps_ahead view
from_any_box_lem b h js n steps =
    let z = left_after b js in
    let taken : needed z ≡ needed b - n = steps_take h steps in
    let none = none_needed (left_in z) (ltb z.state.c z.state.p) (is_correcting z.state.phase) in
    (λ settled. omega (arith, taken, none.1 settled), λ enough. none.0 (omega (arith, taken, enough)))

-- ---- from the opening on

heads_after : (b : Box) (is : List Input) → length b.state.heads ≡ max_lines → length (left_after b is).state.heads ≡ max_lines
unfolding left_after
heads_after b [] h = h
heads_after b (i ∷ is) h = heads_after (left b i) is (heads_left b i h)

opened_heads : (h : Handed) → is_opened h → length (box_of h).state.heads ≡ max_lines
unfolding is_opened box_of openingOf
opened_heads h e = opening.opened_heads h.state h.lent h.text (opening.opened_on_lem h.state h.lent h.text e)

left_alike_lem : (h : Handed) → is_opened h → (is : List Input) → left_in (left_after (box_of h) is) ≡ remaining h is
unfolding left_in remaining account_in start
left_alike_lem h e is =
    let s = settings_in h in
    let stands = (runs s is (start s) (box_of h) (box_stands h e)).stands in
    ap₂ buckets_left stands.settings stands.is ∙
    sym (left_same s (some_bucket h e) (invariant s (some_bucket h e) (some_lines_lem h e) (events_of (box_of h) is))) ∙
    sym (ap (λ (a : Account). left_to_work s a.monitor) (mirrors h e is).account)

settles_exactly_lem :
    (h : Handed) → is_opened h → (is js : List Input) (n : ℕ) →
    Steps (left_after (box_of h) is) n js →
    ((remaining h (is ++ js) ≡ 0) × (is_correcting (left_after (box_of h) (is ++ js)).state.phase ≡ false)) ↔
    (steps_from (left_after (box_of h) is).state (remaining h is) ≤ n)
settles_exactly_lem h e is js n steps =
    let b = left_after (box_of h) is in
    let joined = left_append (box_of h) is js in
    let behind : remaining h (is ++ js) ≡ left_in (left_after b js) = sym (left_alike_lem h e (is ++ js)) ∙ ap left_in joined in
    let phase = ap (λ (z : Box). is_correcting z.state.phase) joined in
    let count = ap (steps_from b.state) (left_alike_lem h e is) in
    let exact = from_any_box_lem b (heads_after (box_of h) is (opened_heads h e)) js n steps in (
      λ settled. subst (λ (m : ℕ). m ≤ n) count (exact.0 (sym behind ∙ settled.0, sym phase ∙ settled.1)),
      λ enough.
          let settled = exact.1 (subst (λ (m : ℕ). m ≤ n) (sym count) enough) in
          (behind ∙ settled.0, phase ∙ settled.1),
    )

-- the numbers are compared here, so that a count that is off is refused by numbers
pub exactly : Exactly
exactly =
    record {
      settles_exactly = λ h e is js n steps.
          let exact = settles_exactly_lem h e is js n steps in
          (λ settled. omega (arith, exact.0 settled), λ enough. exact.1 (omega (arith, enough)));
      from_any_box = from_any_box_lem;
      left_alike = left_alike_lem;
    }
