use Rattle.std.proofs.Common.{rules}
use Rattle.store_columns.proofs.SmallSteps.{steps_start, step_laid}
use Rattle.store_columns.proofs.lay_steps.Goals as goal

pub loop-k-init : goal.loop-k-init
loop-k-init c = λ small. (small, steps_start)

pub loop-k-preserved : goal.loop-k-preserved
loop-k-preserved c =
    step_laid c.args.words.now c.loop-k.words c.args.ids.now c.args.nexts.now c.loop-k.k (search rules) (search rules) (search rules) c.loop-k.invariant
