-- The area's first i records are laid at their places.
use Rattle.retransmission.specs.Places.{pieces}
use Rattle.retransmission.proofs.Laying.{Laying}
use Rattle.retransmission.proofs.hold.Given as goal

abbrev pub invariant-loop-i : goal.invariant-loop-i
invariant-loop-i l = Laying l.initial.sent l.newest (pieces l.n l.area) l.sent l.i
