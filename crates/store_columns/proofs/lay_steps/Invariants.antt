use Rattle.std.proofs.Common.{take}
use Rattle.store_columns.specs.Steps.{AreSmallBack, AreSmallSteps}
use Rattle.store_columns.proofs.lay_steps.Given as goal

-- k steps have been laid
abbrev pub invariant-loop-k : goal.invariant-loop-k
invariant-loop-k l = AreSmallBack l.words → AreSmallBack l.initial.words × AreSmallSteps (take l.k l.ids) (take l.k l.nexts)
