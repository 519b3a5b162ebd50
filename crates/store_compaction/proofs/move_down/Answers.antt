-- `store_compaction::move_down` meets its contract: a run that is copied further down is the run stored there.
use Rattle.std.proofs.Common.{◌∙◌}
use Rattle.store_compaction.proofs.Moved.{moved}
use Rattle.store_compaction.proofs.move_down.Goals as goal

pub returns : goal.returns
returns g c = c.copy_within.ensures.after ∙ moved c.args.xs.now c.args.from c.args.to c.args.n c.requires.0 c.requires.1
