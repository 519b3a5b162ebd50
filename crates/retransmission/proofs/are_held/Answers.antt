-- `retransmission::are_held` meets its contract: the places looked at so far pass, or one that does not is found.
use Rattle.std.proofs.Common.{arith}
use Rattle.retransmission.specs.Places.{places_of}
use Rattle.retransmission.proofs.Passing.{passes_none, passes_on, fails_there}
use Rattle.retransmission.proofs.are_held.Goals as goal

pub loop-n-init : goal.loop-n-init
loop-n-init c = passes_none (places_of c.args.sent.now) c.args.least

pub returns-then-not-is_held : goal.returns-then-not-is_held
returns-then-not-is_held c =
    let l = c.loop-n in
    fails_there (places_of c.args.sent.now) c.args.least l.n (omega arith) l.invariant c.args.newest (omega arith) c.if-not-is_held.ensures

pub loop-n-preserved : goal.loop-n-preserved
loop-n-preserved c =
    let l = c.loop-n in
    passes_on (places_of c.args.sent.now) c.args.least l.n (omega arith) l.invariant c.if-not-is_held.ensures
