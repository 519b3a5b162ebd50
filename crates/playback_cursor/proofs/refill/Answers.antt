-- What is kept stands in front of the buffer, and what was read behind it.
use Rattle.std.proofs.Common.{arith, ◌≡◌, ◌∙◌, ap, not, ◌+◌, ◌-◌, ◌≤◌, length, drop}
use borrow.Rule.Slice.PartMut.{put_mid, same_len_mid}
use Rattle.playback_cursor.proofs.Cuts.{kept_front, lent_front, front_some, part_used}
use Rattle.playback_cursor.proofs.Refills.{refill_failed, refill_full, refill_ended, refill_more}
use Rattle.playback_cursor.proofs.refill.Goals as goal

pub returns-then-not-write_out : goal.returns-then-not-write_out
returns-then-not-write_out c =
    refill_failed c.args.opened c.args.cursor c.args.buf.now (length c.args.out.now) c.requires.0 c.requires.1 c.ended.ensures
    (front_some _ _ (c.write_out.ensures (ap not c.if-not-write_out.true)))

pub returns-then-passing-left : goal.returns-then-passing-left
returns-then-passing-left c =
    refill_full c.args.opened c.args.cursor c.args.buf.now (length c.args.out.now) c.requires.0 c.requires.1
    c.bytes_left-left.result c.bytes_left-left.ensures.1 c.all_read.ensures c.if-passing-left.true

pub returns-then-got-eq0 : goal.returns-then-got-eq0
returns-then-got-eq0 c =
    let n = c.bytes_left-left.result in
    let l = c.shift.new.buf in
    let filled = put_mid n (length l - n) l c.read_in-got.new.room in
    let same : length filled ≡ length c.args.buf.now =
    same_len_mid n (length l - n) l c.read_in-got.new.room c.read_in-got.auto.room ∙ c.shift.auto.buf in
    let front = lent_front n l c.read_in-got.new.room (omega arith)
    ∙ kept_front c.args.cursor.passing (c.args.cursor.have - c.args.cursor.at) n l (drop c.args.cursor.at c.args.buf.now)
    c.bytes_left-left.ensures.1 c.shift.ensures in
    refill_ended c.args.opened c.args.cursor c.args.buf.now (length c.args.out.now) c.requires.0 c.requires.1
    n c.bytes_left-left.ensures.1 filled same front c.all_read-then-got-eq0.ensures

pub returns : goal.returns
returns c =
    let n = c.bytes_left-left.result in
    let l = c.shift.new.buf in
    let filled = put_mid n (length l - n) l c.read_in-got.new.room in
    let same : length filled ≡ length c.args.buf.now =
    same_len_mid n (length l - n) l c.read_in-got.new.room c.read_in-got.auto.room ∙ c.shift.auto.buf in
    let front = lent_front n l c.read_in-got.new.room (omega arith)
    ∙ kept_front c.args.cursor.passing (c.args.cursor.have - c.args.cursor.at) n l (drop c.args.cursor.at c.args.buf.now)
    c.bytes_left-left.ensures.1 c.shift.ensures in
    let within : n + c.read_in-got.result ≤ length filled =
    omega (arith, same, c.shift.auto.buf, part_used l n c.read_in-got.result (omega arith) c.read_in-got.ensures) in
    refill_more c.args.opened c.args.cursor c.args.buf.now (length c.args.out.now) c.requires.0 c.requires.1
    n c.bytes_left-left.ensures.1 filled same front c.read_in-got.result
    c.lines_end-whole.result (omega arith) within c.lines_end-whole.ensures
