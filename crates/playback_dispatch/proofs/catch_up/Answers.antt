-- `playback_dispatch::catch_up` meets its contract, by its test.
use Rattle.node.specs.Calls.{called_of}
use Rattle.playback_dispatch.specs.Dispatch.{is_behind}
use Rattle.playback_dispatch.proofs.CatchingUp.{up_to_date, was_behind}
use Rattle.playback_dispatch.proofs.catch_up.Goals as goal

pub returns-then-display-state-clause-caught_up : goal.returns-then-display-state-clause-caught_up
unfolding is_behind
returns-then-display-state-clause-caught_up c =
    let a = c.args in
    λ reply. was_behind a.display (called_of reply a.state.now a.stores.now a.area.now) _ c.if-display-state.true c.acknowledge.ensures.called

pub returns-else-display-state-clause-caught_up : goal.returns-else-display-state-clause-caught_up
unfolding is_behind
returns-else-display-state-clause-caught_up c =
    let a = c.args in
    λ reply. up_to_date a.display (called_of reply a.state.now a.stores.now a.area.now) c.if-display-state.false
