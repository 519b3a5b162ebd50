-- Nothing of what is to be cut is lost, and every turn but one reads.
use Rattle.std.proofs.Common.{length}
use Rattle.playback_cursor.proofs.Turns.{Searched}
use Rattle.playback_cursor.proofs.fetch.Given as goal

abbrev pub invariant-loop-turn : goal.invariant-loop-turn
invariant-loop-turn l = Searched l.initial.cursor l.initial.buf l.cursor l.buf (length l.out) l.turn
