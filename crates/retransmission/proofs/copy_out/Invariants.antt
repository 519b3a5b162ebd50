-- i of the results are laid down.
use Rattle.retransmission.proofs.Fetching.{Fetching}
use Rattle.retransmission.proofs.copy_out.Given as goal

abbrev pub invariant-loop-i : goal.invariant-loop-i
invariant-loop-i l = Fetching l.sent l.from l.initial.area l.area l.i
