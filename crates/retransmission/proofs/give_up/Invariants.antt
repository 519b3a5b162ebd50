-- Empty pieces are laid at the places of the results up to number n.
use Rattle.std.proofs.Common.{◌-◌, replicate}
use Rattle.retransmission.specs.Places.{empty_place}
use Rattle.retransmission.proofs.Laying.{Laying}
use Rattle.retransmission.proofs.give_up.Given as goal

abbrev pub invariant-loop-n : goal.invariant-loop-n
invariant-loop-n l = Laying l.initial.sent l.from (replicate (l.to - l.from) empty_place) l.sent (l.n - l.from)
