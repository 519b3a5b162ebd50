-- The settings' text lies within the buffer and their reply has room in the output, and what is left of both is what the first journal
-- line asks for. What comes out is put together from what the parts ensure.
use Rattle.std.proofs.Common.{◌-◌, sym, subst, length}
use borrow.Rule.Slice.PartMut.{same_len_mid}
use Rattle.playback_cursor.specs.Cut.{Ready}
use Rattle.playback_start.proofs.Fronts.{ready_replied}
use Rattle.playback_start.proofs.Starts.{ready_begin, begun}
use Rattle.playback_start.proofs.start.Goals as goal

pub fetch-cursor-requires : goal.fetch-cursor-requires
fetch-cursor-requires c =
    subst (Ready c.args.buf.now (length c.args.out.now)) (sym c.begin.ensures)
    (ready_begin c.args.buf.now (length c.args.out.now) c.requires)

pub onward-cursor-requires : goal.onward-cursor-requires
onward-cursor-requires c =
    let f = c.fetch-cursor in
    let g = c.play_settings-used in
    ready_replied f.result f.new.buf c.args.out.now c.next_line-text.result.now c.next_line-text.ensures.result_value f.ensures.lies
    g.result g.new.out _ g.ensures.answered.used_bytes g.ensures.answered.text g.auto.out

pub returns-clause-begun : goal.returns-clause-begun
returns-clause-begun c =
    let f = c.fetch-cursor in
    let g = c.play_settings-used in
    let out = c.args.out.now in
    let used = f.result.used in
    begun c.args.buf.now out _ c.begin.result c.begin.ensures f.result f.new.buf f.ensures _
    c.closed_state-state.ensures c.next_line-text.result.now c.next_line-text.ensures.result_value
    g.new.state _ g.result g.new.out g.ensures.answered (same_len_mid used (length out - used) out g.new.out g.auto.out)
    c.onward-cursor.result c.onward-cursor.new.buf c.onward-cursor.ensures
