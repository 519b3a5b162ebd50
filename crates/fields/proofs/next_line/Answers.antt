-- `fields::next_line` meets its contract: before the place that was found stands no 0A, and at it one.
use Rattle.std.proofs.Common.{sym, length, arith}
use lib.Seq.{take_all}
use Rattle.fields.proofs.Lines.{no_end_before, line_found, part_line}
use Rattle.fields.proofs.next_line.Goals as goal

pub returns-in-Some-clause-result_value : goal.returns-in-Some-clause-result_value
returns-in-Some-clause-result_value c =
    let s = c.args.s.now in
    let f = c.in-Some.ensures in
    line_found s c.in-Some.at (omega arith)
    (no_end_before s c.in-Some.at (omega arith) (λ k q e. f.0.before k (omega arith) q e))
    f.1

pub returns-in-None-clause-result_value : goal.returns-in-None-clause-result_value
returns-in-None-clause-result_value c =
    let s = c.args.s.now in
    let none = no_end_before s (length s) (omega arith) (λ k q e. c.in-None.ensures k (omega arith) q e) in
    sym (part_line s (rw (take_all (length s) s (omega arith)) at none))
