-- `step_tentative::work_tentative` meets its contract: the bucket's results, and no line changed.
use Rattle.std.proofs.Common.{◌≡◌, ◌+◌, refl, length, ap, ◌∙◌, arith, rules}
use Rattle.node.specs.Held.{Held, held}
use Rattle.node.proofs.Shape.{state_facts}
use Rattle.step_corrections.proofs.LinesStay.{Kept}
use Rattle.step_tentative.proofs.Tentative.{worked_to, work_tentative_acts}
use Rattle.step_tentative.proofs.work_tentative.Goals as goal

pub overflow_add-state : goal.overflow_add-state
overflow_add-state c =
    let st : Held = held c.args.state.now in
    omega (arith, (state_facts st c.requires.0.store c.requires.0.is.shape).buckets.last)

pub returns : goal.returns
returns c =
    let st : Held = held c.args.state.now in
    λ x is.
    let e = c.work-records.ensures x is in
    let kept : Kept st x = record { heads = c.args.state.now.all_heads; displays = c.args.state.now.all_displays; room = is.room; shape = is.shape } in
    let d = work_tentative_acts st x kept c.args.area.now _ _ _ refl e.1 e.2 in
    record {
      state = ap (λ (h : Held). worked_to h h.operator (st.p + 1)) e.0 ∙ d.state;
      columns = d.columns;
      bytes = d.bytes;
      count = d.count;
    }
