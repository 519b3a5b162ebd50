-- In the loop the first `done` bytes are written.
use Rattle.std.proofs.Common.{length, ◌≤◌}
use Rattle.playback_cursor.proofs.write_out.Given as goal

abbrev pub invariant-loop : goal.invariant-loop
invariant-loop l = l.done ≤ length l.bytes
