-- `journal_text::put_head` meets its contract: three stretches, each behind the one before.
use Rattle.std.proofs.Common.{arith}
use Rattle.area.proofs.Laid.{laid_laid}
use Rattle.journal.specs.JournalParts.{call_head}
use Rattle.journal_text.proofs.put_head.Goals as goal

pub returns-clause-out_after : goal.returns-clause-out_after
unfolding call_head
returns-clause-out_after c = grind (arith, laid_laid)
