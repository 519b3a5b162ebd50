-- `journal_text::put_tail` meets its contract: four stretches, each behind the one before.
use Rattle.std.proofs.Common.{arith}
use Rattle.area.proofs.Laid.{laid_laid}
use Rattle.journal.specs.JournalParts.{call_tail}
use Rattle.journal_text.proofs.put_tail.Goals as goal

pub returns-clause-out_after : goal.returns-clause-out_after
unfolding call_tail
returns-clause-out_after c = grind (arith, laid_laid)
