-- The text that was made in front of an array that holds the longest is copied from there to the front of the area.
use Rattle.std.proofs.Common.{◌≤◌, length, arith, rules, ◌∙◌}
use lib.ListN.{replicate}
use Rattle.record.specs.Within.{Within}
use Rattle.record_text.specs.RecordText.{record_text}
use Rattle.record_text.proofs.Longest.{text_short}
use Rattle.record_text.proofs.Written.{written_whole, copied}
use Rattle.record_text.proofs.write_record.Goals as goal

pub returns-clause-out_after : goal.returns-clause-out_after
returns-clause-out_after c =
    let r = c.args.r in
    let out = c.args.out.now in
    let text = c.put_text-n in
    let short = text_short r (let within : Within r = search rules in within) in
    let room : length (record_text r) ≤ length out = omega arith in
    rw (written_whole r out room)
    (c.put_bytes.ensures.out_after ∙
    copied out (replicate 123 0) text.new.out (record_text r) text.result text.ensures.value short room text.ensures.out_after)
