use Rattle.std.proofs.Common.{◌≡◌, ◌&&◌, ◌||◌, nat_le}
use Rattle.store_columns.specs.Tests.{some_of_both}
use Rattle.store_columns.proofs.some_between.Given as goal

-- what is found so far, together with the test of what is left, stays the same
abbrev pub invariant-loop-time : goal.invariant-loop-time
invariant-loop-time l =
    l.found || some_of_both (λ t a. nat_le l.first.0 t && nat_le a l.latest.0) l.time-iterator.a.rest.now l.time-iterator.b.rest.now
    ≡ some_of_both (λ t a. nat_le l.first.0 t && nat_le a l.latest.0) l.times l.arrivals
