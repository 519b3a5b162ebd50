-- `journal::letter_at` meets its contract; past the end of a text stands no letter.
use Rattle.std.proofs.Common.{sym, arith}
use Rattle.std.proofs.lemmas.Grind.{common_steps}
use Rattle.journal.specs.ReadLine.{letter_at}
use Rattle.journal.proofs.Letters.{letter_past}
use Rattle.journal.proofs.letter_at.Goals as goal
use Rattle.journal.proofs.letter_at.Goals.{else-at-s-via-then-at-s+else-is_letter, else-at-s-via-else-at-s}

pub returns-else-at-s : goal.returns-else-at-s
unfolding letter_at
returns-else-at-s c =
    elim c.else-at-s.branch [
      | else-at-s-via-then-at-s+else-is_letter w ↦ grind (arith, common_steps)
      | else-at-s-via-else-at-s w ↦ sym (letter_past c.args.s.now c.args.at w.if-at-s.false)
    ]
