-- `call_acceptance::step_and_hold` meets its contract: what the step does, and its stable results at their places.
use Rattle.std.proofs.Common.{◌≡◌, ◌∙◌, length, arith}
use Rattle.operator.specs.Meters.{meter_count}
use Rattle.operator.proofs.Loaded.{length_meters}
use Rattle.node.specs.Held.{Held, held}
use Rattle.node.specs.View.{Lent, lent_of, lent}
use Rattle.node.specs.Calls.{put_lent}
use Rattle.node.proofs.Shape.{StateShape, state_facts, state_in_shape_lem}
use Rattle.node.proofs.Calls.{HostPassed, host_passed}
use Rattle.call_acceptance.proofs.Held.{number_moves, results_fit, results_held}
use Rattle.call_acceptance.proofs.step_and_hold.Goals as goal

pub step-records-requires : goal.step-records-requires
step-records-requires c =
    let a = c.args in
    let st : Held = held a.state.now in
    let x : Lent = lent a.stores.now in
    let host : HostPassed st x a.area.now = host_passed st x a.area.now c.requires in
    (host.room, state_in_shape_lem st x host.shape, host.bytes)

pub overflow_sub-results : goal.overflow_sub-results
overflow_sub-results c =
    let a = c.args in
    let st : Held = held a.state.now in
    let x : Lent = lent a.stores.now in
    let host : HostPassed st x a.area.now = host_passed st x a.area.now c.requires in
    let shape : StateShape st x.readings = state_facts st x.readings (state_in_shape_lem st x host.shape) in
    omega (arith, number_moves st x.readings shape a.tick _ c.step-records.ensures.done.state)

pub hold-requires : goal.hold-requires
hold-requires c =
    let a = c.args in
    let st : Held = held a.state.now in
    let x : Lent = lent a.stores.now in
    let host : HostPassed st x a.area.now = host_passed st x a.area.now c.requires in
    let shape : StateShape st x.readings = state_facts st x.readings (state_in_shape_lem st x host.shape) in
    let moved = number_moves st x.readings shape a.tick _ c.step-records.ensures.done.state in
    let all_meters : length st.operator.meters ≡ meter_count = length_meters _ _ _ in
    let fit = results_fit st x.readings shape a.tick all_meters a.area.now host.bytes in
    (host.sent, omega (arith, fit.0, moved, c.step-records.auto.area), omega (arith, fit.1, moved))

pub returns-clause-done : goal.returns-clause-done
unfolding put_lent
returns-clause-done c =
    let a = c.args in
    let st : Held = held a.state.now in
    let x : Lent = lent a.stores.now in
    let host : HostPassed st x a.area.now = host_passed st x a.area.now c.requires in
    let shape : StateShape st x.readings = state_facts st x.readings (state_in_shape_lem st x host.shape) in
    let moved = number_moves st x.readings shape a.tick _ c.step-records.ensures.done.state in
    let done = c.step-records.ensures.done in
    let kept = results_held st x.readings shape a.tick x.sent a.area.now _ _ done.bytes (omega (arith, moved)) in
    let sent = c.hold.ensures ∙ kept in
    λ t.
    record {
      answer = 0;
      records = done.count t;
      state = done.state t;
      lent = lent_of (done.columns t) (sent t);
      area = done.bytes t;
    }
