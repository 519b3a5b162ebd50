use Rattle.std.proofs.Common.{◌≡◌, take}
use Rattle.store.specs.Lists.{some_of}
use Rattle.store_places.specs.Places.{is_from_to}
use Rattle.store_places.proofs.holds_time.Given as goal

abbrev pub invariant-loop-time : goal.invariant-loop-time
invariant-loop-time l = l.found ≡ some_of (is_from_to l.first l.last) (take l.time-index l.times)
