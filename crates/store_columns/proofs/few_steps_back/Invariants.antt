use Rattle.std.proofs.Common.{◌≤◌}
use Rattle.store_columns.specs.Steps.{small_back, AreSmallSteps}
use Rattle.store_columns.proofs.few_steps_back.Given as goal

-- where what is left of the bits is high enough, the steps so far are small
abbrev pub invariant-loop-id : goal.invariant-loop-id
invariant-loop-id l =
    small_back ≤ l.back → AreSmallSteps l.id-iterator.a.rest.now l.id-iterator.b.rest.now → AreSmallSteps l.ids l.nexts
