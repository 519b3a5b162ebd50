-- The text lies within the buffer and its reply has room in the output; what comes out is put together from what the parts ensure.
use Rattle.std.proofs.Common.{◌-◌, length, List, ℕ}
use borrow.Rule.Slice.PartMut.{same_len_mid}
use Rattle.node.specs.Held.{held}
use Rattle.node.specs.View.{lent}
use Rattle.playback_dispatch.specs.Dispatch.{dispatched}
use Rattle.playback_start.proofs.Fronts.{ready_replied}
use Rattle.playback_turn.proofs.Turns.{turned}
use Rattle.playback_turn.proofs.play_turn.Goals as goal

pub onward-requires : goal.onward-requires
onward-requires c =
    let p = c.play_line-used in
    ready_replied c.args.cursor c.args.buf.now c.args.out.now c.next_line-text.result.now c.next_line-text.ensures.result_value
    c.requires p.result p.new.out _ p.ensures.replied.used_bytes p.ensures.replied.text p.auto.out

pub returns-clause-turned : goal.returns-clause-turned
returns-clause-turned c =
    let a = c.args in
    let p = c.play_line-used in
    let out = a.out.now in
    let used = a.cursor.used in
    turned (λ (text : List ℕ). dispatched a.mode.mixed a.mode.acknowledging (held a.state.now) (lent a.stores.now) text a.area.now)
    a.cursor a.buf.now out c.next_line-text.result.now c.next_line-text.ensures.result_value _ _ _ p.result p.new.out
    p.ensures.replied (same_len_mid used (length out - used) out p.new.out p.auto.out)
    c.onward.result c.onward.new.buf c.onward.ensures
