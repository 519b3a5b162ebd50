-- The word is 0 exactly if the sums before the place are equal.
use Rattle.std.proofs.Common.{◌≡◌, nat_eq, length}
use Rattle.operator_bounds.specs.Places.{all_below, sums_equal_at}
use Rattle.operator_bounds.proofs.are_sums_equal.Given as goal

abbrev pub invariant-loop-first : goal.invariant-loop-first
invariant-loop-first l = nat_eq l.apart 0 ≡ all_below (sums_equal_at l.operator l.checkpoint) (length l.yielded)
