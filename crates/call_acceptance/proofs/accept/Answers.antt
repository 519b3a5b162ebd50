-- `call_acceptance::accept` meets its contract: an accepted call that names no line is a step, any other an input on its line.
use Rattle.protocol.specs.Node.{no_line}
use Rattle.store.specs.Lent.{columns}
use Rattle.node.specs.Held.{held}
use Rattle.node.specs.View.{lent, head_of}
use Rattle.node.specs.Calls.{records_of}
use Rattle.call_acceptance.proofs.AcceptedCalls.{step_laid, line_below, input_ready, input_laid}
use Rattle.call_acceptance.proofs.accept.Goals as goal

pub returns-then-k-eq0-clause-done : goal.returns-then-k-eq0-clause-done
unfolding records_of
returns-then-k-eq0-clause-done c =
    let a = c.args in
    step_laid (held a.state.now) (lent a.stores.now) a.area.now a.k c.requires.1 c.if-k-eq0.true c.step_and_hold-records.ensures.done

pub bounds-state-i : goal.bounds-state-i
bounds-state-i c =
    let a = c.args in line_below (held a.state.now) (lent a.stores.now) a.area.now a.k c.requires.1 c.requires.0 c.if-k-eq0.false

pub bounds-state-i-2 : goal.bounds-state-i-2
bounds-state-i-2 c =
    let a = c.args in line_below (held a.state.now) (lent a.stores.now) a.area.now a.k c.requires.1 c.requires.0 c.if-k-eq0.false

pub input-requires : goal.input-requires
unfolding head_of no_line
input-requires c =
    let a = c.args in
    input_ready (held a.state.now) (lent a.stores.now) a.area.now a.k c.requires.1 c.requires.0 c.if-k-eq0.false a.state.now.all_heads
    a.state.now.all_displays

pub returns-clause-done : goal.returns-clause-done
unfolding records_of head_of no_line
returns-clause-done c =
    let a = c.args in
    input_laid (held a.state.now) (lent a.stores.now) a.area.now a.k c.requires.1 c.requires.0 c.if-k-eq0.false a.state.now.all_heads
    a.state.now.all_displays {y = columns c.input.new.readings} c.input.ensures.taken.0 c.input.ensures.taken.1
