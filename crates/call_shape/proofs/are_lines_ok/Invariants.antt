-- As long as each line passes, the tests of the lines left come to those of all.
use Rattle.call_shape.proofs.LinesInShape.{LinesSoFar}
use Rattle.call_shape.proofs.are_lines_ok.Given as goal

abbrev pub invariant-loop-i : goal.invariant-loop-i
invariant-loop-i l = LinesSoFar l.state.settings.lines l.state.heads l.readings l.i
