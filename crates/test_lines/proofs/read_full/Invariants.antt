-- What was read lies within the room, and less of the room is left each time.
use Rattle.std.proofs.Common.{length, ◌-◌, ◌≤◌}
use Rattle.test_lines.proofs.read_full.Given as goal

abbrev pub invariant-loop-done : goal.invariant-loop-done
invariant-loop-done l = l.done ≤ length l.initial.room

abbrev pub decreases-loop-done : goal.decreases-loop-done
decreases-loop-done l = length l.initial.room - l.done
