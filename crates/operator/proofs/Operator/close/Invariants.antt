-- The loop's invariant: what is laid down and what the meters from number `from` on still give are together the window's results, in
-- numbers, in places and in bytes. The measure is how many meters are left.
use Rattle.std.proofs.Common.{◌-◌}
use Rattle.operator.specs.Meters.{meter_count}
use Rattle.operator.specs.Loaded.{operator_of}
use Rattle.operator.proofs.Laying.{Laying}
use Rattle.operator.proofs.Operator.close.Given as goal

abbrev pub invariant-loop-i : goal.invariant-loop-i
invariant-loop-i l =
    Laying l.kind l.start (operator_of l.self).meters l.initial.area l.self.number l.area l.number l.at l.from

abbrev pub decreases-loop-i : goal.decreases-loop-i
decreases-loop-i l = meter_count - l.from
