-- What the call leaves is handed on, and its reply stands in front of the output; its records are few.
use Rattle.std.proofs.Common.{arith, ◌∙◌, ap, length}
use Rattle.area.specs.Laid.{in_front}
use Rattle.operator.proofs.Loaded.{length_meters}
use Rattle.node.specs.Held.{held}
use Rattle.node.specs.View.{lent}
use Rattle.node.specs.Calls.{Called}
use Rattle.playback_dispatch.proofs.Few.{dispatched_few}
use Rattle.playback_reply.specs.Reply.{reply_text}
use Rattle.playback_turn.proofs.play_line.Goals as goal

pub put_reply-requires : goal.put_reply-requires
put_reply-requires c =
    let a = c.args in
    let few = dispatched_few (held a.state.now) (lent a.stores.now) a.area.now a.text.now a.mode.acknowledging (length_meters _ _ _)
    a.mode.mixed in
    let same = ap (λ (q : Called). q.records) c.make_call-reply.ensures.called in
    let told = c.records_of-records.ensures in
    (c.requires, omega (arith, told, same, few.0), omega (arith, told, same, few.1, c.make_call-reply.auto.area))

pub returns-clause-replied : goal.returns-clause-replied
unfolding reply_text
returns-clause-replied c =
    let left = c.make_call-reply.ensures.called in
    let reply = rw (c.number_of-answer.ensures, c.records_of-records.ensures) at c.put_reply.ensures in
    record {
      state = ap (λ (q : Called). q.state) left;
      lent = ap (λ (q : Called). q.lent) left;
      area = ap (λ (q : Called). q.area) left;
      used_bytes = reply.0 ∙ ap (λ (q : Called). length (reply_text q)) left;
      text = reply.1 ∙ ap (λ (q : Called). in_front (reply_text q) c.args.out.now) left;
    }
