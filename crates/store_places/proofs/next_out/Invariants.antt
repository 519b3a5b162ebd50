use Rattle.std.proofs.Common.{◌≡◌, false}
use Rattle.store_places.specs.Places.{first_place, is_time_of}
use Rattle.store_places.proofs.next_out.Given as goal

abbrev pub invariant-loop-at : goal.invariant-loop-at
invariant-loop-at l = first_place (is_time_of false l.bucket l.j) l.at l.end l.times ≡ first_place (is_time_of false l.bucket l.j) l.from l.end l.times
