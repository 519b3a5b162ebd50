-- `step::step` meets its contract: what the rule that applies does, by its function.
use Rattle.std.proofs.Common.{refl, arith}
use Rattle.store.specs.Columns.{Columns}
use Rattle.store.specs.Lent.{columns}
use Rattle.protocol.specs.declared.Rule.TheVariants as Rule
use Rattle.node.specs.Held.{Held, held}
use Rattle.node.specs.View.{places, view}
use Rattle.node.proofs.Limits.{limits_hold}
use Rattle.node.proofs.Shape.{StateShape, state_facts}
use Rattle.node.proofs.Times.{start_fits}
use Rattle.step_rule.proofs.Asked.{asked}
use Rattle.step_work.specs.Stores.{StoreOf}
use Rattle.step_corrections.proofs.LinesStay.{Kept, withdraw_done, end_correction_done}
use Rattle.step.proofs.ByRule.{Found, idle_acts, by_rule}
use Rattle.step.proofs.step.Goals as goal

pub rule_of-requires : goal.rule_of-requires
rule_of-requires c = asked (held c.args.state.now) (columns c.args.readings.now) c.requires.0 c.requires.1

pub withdraw-requires : goal.withdraw-requires
withdraw-requires c =
    let st : Held = held c.args.state.now in
    let x : Columns = columns c.args.readings.now in
    let shape : StateShape st x = state_facts st x c.requires.1 in
    (omega (arith, c.requires.2), omega (arith, shape.numbers.stable, shape.buckets.order, shape.buckets.last))

pub work_tentative-requires : goal.work_tentative-requires
work_tentative-requires c =
    let st : Held = held c.args.state.now in
    let x : Columns = columns c.args.readings.now in
    let limits = limits_hold st.settings (state_facts st x c.requires.1).limits in
    let lent : StoreOf st c.args.readings.now x =
    record { of_times = refl; of_values = refl; of_meters = refl; room = c.requires.0; shape = c.requires.1 } in (
      record { store = x; is = lent },
      c.requires.2,
      start_fits st.settings.bucket st.settings.window st.p limits.some_window (c.rule_of.ensures.tentative_start c.in-WorkTentative.is),
    )

pub work_stable-requires : goal.work_stable-requires
work_stable-requires c = (c.requires.0, c.requires.1, c.requires.2, c.rule_of.ensures.stable_end c.in-WorkStable.is)

pub returns-in-Withdraw-clause-done : goal.returns-in-Withdraw-clause-done
unfolding places
returns-in-Withdraw-clause-done c =
    let st : Held = held c.args.state.now in
    let x : Columns = columns c.args.readings.now in
    let kept : Kept st x =
    record { heads = c.args.state.now.all_heads; displays = c.args.state.now.all_displays; room = c.requires.0; shape = c.requires.1 } in
    let first = c.rule_of.ensures.value x refl refl c.requires.0 in
    let is : Found c.args.tick st x Rule.Withdraw = record { found = c.rule_of.result; first = first; told = c.in-Withdraw.is } in
    by_rule c.args.tick Rule.Withdraw st x c.args.area.now _ x _ _ is (withdraw_done st x kept c.withdraw.ensures)

pub returns-in-WorkStable-clause-done : goal.returns-in-WorkStable-clause-done
unfolding places
returns-in-WorkStable-clause-done c =
    let st : Held = held c.args.state.now in
    let x : Columns = columns c.args.readings.now in
    let first = c.rule_of.ensures.value x refl refl c.requires.0 in
    let is : Found c.args.tick st x Rule.WorkStable = record { found = c.rule_of.result; first = first; told = c.in-WorkStable.is } in
    by_rule c.args.tick Rule.WorkStable st x c.args.area.now _ (columns c.work_stable.new.readings) _ _ is c.work_stable.ensures.done

pub returns-in-EndCorrection-clause-done : goal.returns-in-EndCorrection-clause-done
unfolding places
returns-in-EndCorrection-clause-done c =
    let st : Held = held c.args.state.now in
    let x : Columns = columns c.args.readings.now in
    let kept : Kept st x =
    record { heads = c.args.state.now.all_heads; displays = c.args.state.now.all_displays; room = c.requires.0; shape = c.requires.1 } in
    let first = c.rule_of.ensures.value x refl refl c.requires.0 in
    let is : Found c.args.tick st x Rule.EndCorrection = record { found = c.rule_of.result; first = first; told = c.in-EndCorrection.is } in
    by_rule c.args.tick Rule.EndCorrection st x c.args.area.now _ x _ _ is (end_correction_done st x kept c.end_correction.ensures)

pub returns-in-WorkTentative-clause-done : goal.returns-in-WorkTentative-clause-done
unfolding places
returns-in-WorkTentative-clause-done c =
    let st : Held = held c.args.state.now in
    let x : Columns = columns c.args.readings.now in
    let lent : StoreOf st c.args.readings.now x =
    record { of_times = refl; of_values = refl; of_meters = refl; room = c.requires.0; shape = c.requires.1 } in
    let first = c.rule_of.ensures.value x refl refl c.requires.0 in
    let is : Found c.args.tick st x Rule.WorkTentative = record { found = c.rule_of.result; first = first; told = c.in-WorkTentative.is } in
    by_rule c.args.tick Rule.WorkTentative st x c.args.area.now _ x _ _ is (c.work_tentative.ensures x lent)

pub returns-in-Idle-clause-done : goal.returns-in-Idle-clause-done
unfolding places
returns-in-Idle-clause-done c =
    let st : Held = held c.args.state.now in
    let x : Columns = columns c.args.readings.now in
    let kept : Kept st x =
    record { heads = c.args.state.now.all_heads; displays = c.args.state.now.all_displays; room = c.requires.0; shape = c.requires.1 } in
    let first = c.rule_of.ensures.value x refl refl c.requires.0 in
    let is : Found c.args.tick st x Rule.Idle = record { found = c.rule_of.result; first = first; told = c.in-Idle.is } in
    by_rule c.args.tick Rule.Idle st x c.args.area.now _ x _ _ is (idle_acts st x kept c.args.area.now)
