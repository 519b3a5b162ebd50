use Rattle.std.proofs.Common.{◌≡◌}
use Rattle.store_places.specs.Places.{first_place, is_from_to}
use Rattle.store_places.proofs.next_in.Given as goal

abbrev pub invariant-loop-at : goal.invariant-loop-at
invariant-loop-at l =
    first_place (is_from_to (record { 0 = l.first }) (record { 0 = l.last })) l.at l.end l.times
    ≡ first_place (is_from_to (record { 0 = l.first }) (record { 0 = l.last })) l.from l.end l.times
