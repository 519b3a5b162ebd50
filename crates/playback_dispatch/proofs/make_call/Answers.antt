-- `playback_dispatch::make_call` meets its contract: what the text is read as says whose call it is.
use Rattle.std.proofs.Common.{sym, ◌∙◌}
use Rattle.node.specs.Held.{held}
use Rattle.node.specs.View.{lent}
use Rattle.playback_dispatch.proofs.Dispatching.{as_journal_call, as_acknowledgement, as_fetch, as_no_command}
use Rattle.playback_dispatch.proofs.make_call.Goals as goal
use Rattle.playback_dispatch.proofs.make_call.Goals.{then-mode+in-None, else-mode}

pub returns-in-Some-Acknowledge-clause-called : goal.returns-in-Some-Acknowledge-clause-called
returns-in-Some-Acknowledge-clause-called c =
    let a = c.args in
    let i = c.in-Some-Acknowledge in
    c.acknowledge.ensures.called ∙
    as_acknowledgement a.mode.mixed a.mode.acknowledging (held a.state.now) (lent a.stores.now) a.text.now a.area.now c.if-mode.true _ _
    (cc (c.read_command.ensures.value, i.is, i.field-0-is, i.display-is, i.id-is))

pub returns-in-Some-Fetch-clause-called : goal.returns-in-Some-Fetch-clause-called
returns-in-Some-Fetch-clause-called c =
    let a = c.args in
    let i = c.in-Some-Fetch in
    c.fetch.ensures ∙
    as_fetch a.mode.mixed a.mode.acknowledging (held a.state.now) (lent a.stores.now) a.text.now a.area.now c.if-mode.true _ _
    (cc (c.read_command.ensures.value, i.is, i.field-0-is, i.display-is, i.id-is))

pub returns-clause-called : goal.returns-clause-called
returns-clause-called c =
    let a = c.args in
    let mode = a.mode in
    elim c.if-mode.branch [
      | then-mode+in-None w ↦
          c.call_journal.ensures.called ∙
          as_no_command mode.mixed mode.acknowledging (held a.state.now) (lent a.stores.now) a.text.now a.area.now w.if-mode.true
          (sym w.read_command.ensures.value ∙ w.in-None.is)
      | else-mode w ↦
          c.call_journal.ensures.called ∙
          as_journal_call mode.mixed mode.acknowledging (held a.state.now) (lent a.stores.now) a.text.now a.area.now w.if-mode.false
    ]
