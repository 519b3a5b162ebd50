-- The word's highest bit is clear exactly if every sum before the place is small.
use Rattle.std.proofs.Common.{◌≡◌, ◌^◌, nat_lt, length}
use Rattle.operator_bounds.specs.Places.{all_below, sum_small_at}
use Rattle.operator_bounds.proofs.are_sums_small.Given as goal

abbrev pub invariant-loop-count : goal.invariant-loop-count
invariant-loop-count l = nat_lt l.all (2 ^ 63) ≡ all_below (sum_small_at l.o) (length l.yielded)
