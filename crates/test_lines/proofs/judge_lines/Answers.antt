-- A line of what is left has a byte, and lies within it.
use Rattle.std.proofs.Common.{arith, rules, ap, ◌≤◌, length}
use Rattle.std.proofs.Math.ListN.{length-take, length-drop}
use Rattle.fields.proofs.Lines.{line_within, line_some}
use Rattle.test_lines.proofs.judge_lines.Goals as goal

pub slice_bounds-rest-count : goal.slice_bounds-rest-count
slice_bounds-rest-count c =
    omega (arith, ap length c.next_line-line.ensures.result_value, line_within c.loop-rest.rest.now)

pub slice_bounds-rest-start : goal.slice_bounds-rest-start
slice_bounds-rest-start c =
    let within : length c.next_line-line.result.now ≤ length c.loop-rest.rest.now =
    omega (arith, ap length c.next_line-line.ensures.result_value, line_within c.loop-rest.rest.now) in
    search rules

pub loop-rest-smaller : goal.loop-rest-smaller
loop-rest-smaller c =
    let rest = c.loop-rest.rest.now in
    let some = line_some rest (search rules) in
    let line = ap length c.next_line-line.ensures.result_value in
    let within = line_within rest in
    simp (length-take, length-drop) (omega arith)
