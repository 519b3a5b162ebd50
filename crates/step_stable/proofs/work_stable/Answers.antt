-- `step_stable::work_stable` meets its contract: the bucket's records, the checkpoint, and the bucket's readings removed.
use Rattle.std.proofs.Common.{◌≡◌, refl, ap, take, arith}
use Rattle.store.specs.Sizes.{readings_per_line}
use Rattle.store.specs.Lists.{Every}
use Rattle.store.specs.Columns.{Columns}
use Rattle.store.specs.Lent.{columns}
use Rattle.store.proofs.Pairs.{every_to}
use Rattle.node.specs.declared.LineHead.{LineHead}
use Rattle.node.specs.Held.{Held, held}
use Rattle.node.specs.View.{places}
use Rattle.node.proofs.Limits.{limits_hold}
use Rattle.node.proofs.Shape.{HeadShape, StateShape, state_facts}
use Rattle.step_work.specs.Stores.{StoreOf}
use Rattle.step_corrections.proofs.LinesStay.{Kept}
use Rattle.step_stable.proofs.Stable.{work_stable_done}
use Rattle.step_stable.proofs.work_stable.Goals as goal

pub remove-requires : goal.remove-requires
unfolding places
remove-requires c =
    let st : Held = held c.args.state.now in
    let x : Columns = columns c.args.readings.now in
    let shape : StateShape st x = state_facts st x c.requires.1 in
    let is : StoreOf st c.args.readings.now x =
    record { of_times = refl; of_values = refl; of_meters = refl; room = c.requires.0; shape = c.requires.1 } in
    let w = c.stable_records-records.ensures x is in
    let same : c.stable_records-records.new.state.heads ≡ st.heads = ap (λ (h : Held). h.heads) w.state in
    let limits = limits_hold st.settings shape.limits in (
      limits.lines,
      omega (arith, limits.least_bucket),
      c.requires.0,
      rw same (every_to (take st.settings.lines st.heads) (λ (h : LineHead) (k : HeadShape h). k.kept) shape.heads),
    )

pub overflow_add-state : goal.overflow_add-state
overflow_add-state c =
    let st : Held = held c.args.state.now in
    let x : Columns = columns c.args.readings.now in
    let shape : StateShape st x = state_facts st x c.requires.1 in
    omega (arith, shape.buckets.order, shape.buckets.last)

pub overflow_add-state-2 : goal.overflow_add-state-2
overflow_add-state-2 c =
    let st : Held = held c.args.state.now in
    let x : Columns = columns c.args.readings.now in
    let shape : StateShape st x = state_facts st x c.requires.1 in
    omega (arith, shape.buckets.last)

pub invariant_of-state : goal.invariant_of-state
invariant_of-state c =
    record { all_heads = c.remove.ensures.all_heads; all_displays = c.stable_records-records.new.state.all_displays }

pub returns-clause-done : goal.returns-clause-done
returns-clause-done c =
    let st : Held = held c.args.state.now in
    let x : Columns = columns c.args.readings.now in
    let is : StoreOf st c.args.readings.now x =
    record { of_times = refl; of_values = refl; of_meters = refl; room = c.requires.0; shape = c.requires.1 } in
    let w = c.stable_records-records.ensures x is in
    let same : c.stable_records-records.new.state.heads ≡ st.heads = ap (λ (h : Held). h.heads) w.state in
    let kept : Kept st x =
    record { heads = c.args.state.now.all_heads; displays = c.args.state.now.all_displays; room = c.requires.0; shape = c.requires.1 } in
    work_stable_done st x kept c.args.area.now _ (held c.stable_records-records.new.state) c.remove.new.heads (columns c.remove.new.readings)
    c.stable_records-records.result w (rw same at c.remove.ensures.removed)
