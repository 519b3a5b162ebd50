-- The places of the results up to number n pass.
use Rattle.std.proofs.Common.{◌≡◌, ◌-◌, true}
use Rattle.retransmission.specs.Places.{places_of, places_ok}
use Rattle.retransmission.proofs.are_held.Given as goal

abbrev pub invariant-loop-n : goal.invariant-loop-n
invariant-loop-n l = places_ok (places_of l.sent) l.least (l.n - l.least) ≡ true
