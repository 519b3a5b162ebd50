-- What is found so far and what the meters from the place on say, together, are what all say.
use Rattle.std.proofs.Common.{◌^◌, nat_lt, length}
use Rattle.operator_meter.specs.Bounds.{meter_ok}
use Rattle.operator.specs.Loaded.{operator_of}
use Rattle.operator_bounds.proofs.Turns.{SoFar}
use Rattle.operator_bounds.proofs.is_each_within_bounds.Given as goal

abbrev pub invariant-loop-n : goal.invariant-loop-n
invariant-loop-n l = SoFar meter_ok (operator_of l.o).meters (nat_lt l.all (2 ^ 63)) (length l.yielded)
