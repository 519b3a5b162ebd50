-- A whole line of the buffer is found or passed over, or a write for its reply failed.
use Rattle.std.proofs.Common.{arith, ap, ◌<◌, length}
use Rattle.playback_cursor.proofs.LinesFound.{line_found, line_lost, line_passed}
use Rattle.playback_cursor.proofs.advance.Goals as goal

pub returns-then-cursor-2 : goal.returns-then-cursor-2
returns-then-cursor-2 c =
    let some : c.args.cursor.at < c.args.cursor.whole = omega arith in
    line_passed c.args.cursor c.args.buf.now c.requires.0 some c.args.opened (length c.args.out.now)
    (length c.next_line-line.result.now) (ap length c.next_line-line.ensures.result_value) (c.requires.1, c.requires.2) c.if-cursor-2.true

pub returns-in_default : goal.returns-in_default
returns-in_default c =
    let some : c.args.cursor.at < c.args.cursor.whole = omega arith in
    line_lost c.args.cursor c.args.buf.now c.requires.0 some c.args.opened (length c.args.out.now) c.ended.ensures c.requires.2
    c.in_default.ensures

pub returns : goal.returns
returns c =
    let some : c.args.cursor.at < c.args.cursor.whole = omega arith in
    line_found c.args.cursor c.args.buf.now c.requires.0 some c.args.opened (length c.args.out.now) c.in-Some.used c.in-Some.ensures
    c.if-cursor-2.false
