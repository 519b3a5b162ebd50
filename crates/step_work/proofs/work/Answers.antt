-- `step_work::work` meets its contract: the readings are added first, then a window that the bucket closes is closed.
use Rattle.std.proofs.Common.{◌≡◌, refl, sym, ◌∙◌, ap, length, true, false, arith}
use Rattle.clock.specs.Windows.{closes_window}
use Rattle.operator.specs.Loaded.{operator_of}
use Rattle.operator.specs.Meters.{Operator, meter_count}
use Rattle.operator.proofs.Loaded.{length_meters}
use Rattle.node.specs.Held.{Held, held, with_operator}
use Rattle.node.proofs.Limits.{limits_hold}
use Rattle.node.proofs.Shape.{state_facts}
use Rattle.step_work.proofs.BucketReadings.{kept_addable, kept_added}
use Rattle.step_work.proofs.Closing.{number_room, window_open, area_untouched, nothing_given}
use Rattle.step_work.proofs.Given.{window_given}
use Rattle.step_work.proofs.work.Goals as goal

pub add-requires : goal.add-requires
add-requires c =
    let st : Held = held c.args.state.now in
    let shape = state_facts st c.requires.0.store c.requires.0.is.shape in (
      (limits_hold st.settings shape.limits).lines,
      kept_addable st c.args.readings.now c.kept_of-kept.result c.kept_of-kept.ensures c.requires.0,
    )

pub closes_window-requires : goal.closes_window-requires
closes_window-requires c =
    let st : Held = held c.args.state.now in
    let shape = state_facts st c.requires.0.store c.requires.0.is.shape in
    omega (arith, (limits_hold st.settings shape.limits).some_window)

pub returns-then-not-closes_window : goal.returns-then-not-closes_window
returns-then-not-closes_window c =
    let s = c.args in
    let st : Held = held s.state.now in
    let next : Operator = operator_of c.add.new.self in
    let goes_on : closes_window st.settings.window s.j ≡ false = sym c.closes_window.ensures ∙ c.if-not-closes_window.true in
    λ x is.
    let adds = kept_added st s.readings.now c.kept_of-kept.result c.kept_of-kept.ensures s.j next c.add.ensures.1 x is in (
      ap (λ (o : Operator). with_operator o st) (window_open st x s.j next adds s.kind goes_on),
      area_untouched st x s.kind s.j s.area.now goes_on,
      ap length (sym (nothing_given st x s.kind s.j goes_on)),
    )

pub close-requires : goal.close-requires
close-requires c =
    let s = c.args in
    let st : Held = held s.state.now in
    let next : Operator = operator_of c.add.new.self in
    let some = c.requires.0.store in
    let shape = state_facts st some c.requires.0.is.shape in
    let adds = kept_added st s.readings.now c.kept_of-kept.result c.kept_of-kept.ensures s.j next c.add.ensures.1 some c.requires.0.is in (
      omega (arith, c.requires.1),
      c.requires.2,
      number_room st some s.j next adds shape,
      c.add.ensures.0,
    )

pub overflow_sub-result : goal.overflow_sub-result
overflow_sub-result c =
    let s = c.args in
    let st : Held = held s.state.now in
    let next : Operator = operator_of c.add.new.self in
    let some = c.requires.0.store in
    let adds = kept_added st s.readings.now c.kept_of-kept.result c.kept_of-kept.ensures s.j next c.add.ensures.1 some c.requires.0.is in
    let meters : length st.operator.meters ≡ meter_count = length_meters _ _ _ in
    (window_given st some s.kind s.j next (operator_of c.close.new.self) s.area.now c.close.new.area meters adds
    (sym c.closes_window.ensures ∙ c.if-not-closes_window.false) c.close.ensures.0 c.close.ensures.1).later

pub overflow_cast-result : goal.overflow_cast-result
overflow_cast-result c =
    let s = c.args in
    let st : Held = held s.state.now in
    let next : Operator = operator_of c.add.new.self in
    let some = c.requires.0.store in
    let adds = kept_added st s.readings.now c.kept_of-kept.result c.kept_of-kept.ensures s.j next c.add.ensures.1 some c.requires.0.is in
    let meters : length st.operator.meters ≡ meter_count = length_meters _ _ _ in
    let g = window_given st some s.kind s.j next (operator_of c.close.new.self) s.area.now c.close.new.area meters adds
    (sym c.closes_window.ensures ∙ c.if-not-closes_window.false) c.close.ensures.0 c.close.ensures.1 in
    omega (arith, g.count, g.few)

pub returns : goal.returns
returns c =
    let s = c.args in
    let st : Held = held s.state.now in
    let next : Operator = operator_of c.add.new.self in
    let meters : length st.operator.meters ≡ meter_count = length_meters _ _ _ in
    λ x is.
    let adds = kept_added st s.readings.now c.kept_of-kept.result c.kept_of-kept.ensures s.j next c.add.ensures.1 x is in
    let g = window_given st x s.kind s.j next (operator_of c.close.new.self) s.area.now c.close.new.area meters adds
    (sym c.closes_window.ensures ∙ c.if-not-closes_window.false) c.close.ensures.0 c.close.ensures.1 in
    (ap (λ (o : Operator). with_operator o st) g.operator, g.bytes, g.count)
