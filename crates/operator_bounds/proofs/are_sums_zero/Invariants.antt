-- The word is 0 exactly if every sum before the place is 0.
use Rattle.std.proofs.Common.{◌≡◌, nat_eq, length}
use Rattle.operator_bounds.specs.Places.{all_below, sums_zero_at}
use Rattle.operator_bounds.proofs.are_sums_zero.Given as goal

abbrev pub invariant-loop-first : goal.invariant-loop-first
invariant-loop-first l = nat_eq l.any 0 ≡ all_below (sums_zero_at l.operator l.checkpoint) (length l.yielded)
