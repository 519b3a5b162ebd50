-- `step_work::results_ahead` meets its contract: a bucket that closes no window gives nothing, otherwise the results are those that the
-- operator has ahead once the readings are added.
use Rattle.std.proofs.Common.{sym, ap, ◌∙◌, length, arith}
use Rattle.operator.specs.Loaded.{operator_of}
use Rattle.operator.specs.Work.{Worked}
use Rattle.node.specs.Held.{Held, held}
use Rattle.node.proofs.Limits.{limits_hold}
use Rattle.node.proofs.Shape.{state_facts}
use Rattle.step_work.proofs.BucketReadings.{kept_addable, kept_added}
use Rattle.step_work.proofs.Closing.{window_closed, nothing_given}
use Rattle.step_work.proofs.results_ahead.Goals as goal

pub closes_window-requires : goal.closes_window-requires
closes_window-requires c =
    let st : Held = held c.args.state.now in
    let shape = state_facts st c.requires.store c.requires.is.shape in
    omega (arith, (limits_hold st.settings shape.limits).some_window)

pub add-requires : goal.add-requires
add-requires c =
    let st : Held = held c.args.state.now in
    let shape = state_facts st c.requires.store c.requires.is.shape in (
      (limits_hold st.settings shape.limits).lines,
      kept_addable st c.args.readings.now c.kept_of.result c.kept_of.ensures c.requires,
    )

pub returns-then-not-closes_window : goal.returns-then-not-closes_window
returns-then-not-closes_window c =
    let st : Held = held c.args.state.now in
    λ x is kind. ap length (sym (nothing_given st x kind c.args.j (sym c.closes_window.ensures ∙ c.if-not-closes_window.true)))

pub returns : goal.returns
returns c =
    let st : Held = held c.args.state.now in
    λ x is kind.
    c.results_ahead.ensures st.settings kind c.args.j ∙
    sym (ap (λ (w : Worked). length w.records)
    (window_closed st x c.args.j (operator_of c.add.new.self)
    (kept_added st c.args.readings.now c.kept_of.result c.kept_of.ensures c.args.j (operator_of c.add.new.self) c.add.ensures.1 x is) kind
    (sym c.closes_window.ensures ∙ c.if-not-closes_window.false)))
