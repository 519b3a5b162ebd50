-- What the writer of a journal line answers and writes (document 01, sections 'Clocks, lines and readings' and 'Refusal by whom').
use Rattle.std.specs.Prelude.{ℕ, cond, List, [], ltb, eqb, length}
use Rattle.answer.specs.Numbers as Answer
use Rattle.journal.specs.Kinds.{is_letter}
use Rattle.journal.specs.JournalLine.{line_text}
use Rattle.journal.specs.declared.Call.{Call}
use Rattle.journal_text.specs.Sizes.{longest_journal_line}

-- document 01's number of the answer: a kind that has no letter is refused first, and then an area that the longest line would not fit
unfoldable pub line_answer : Call → List ℕ → ℕ
line_answer c area =
    cond (is_letter c.kind) (cond (ltb (length area) longest_journal_line) Answer.short_area Answer.accepted) Answer.malformed

-- the bytes that are laid in front of the area: the call's line, or none where the answer is a refusal
unfoldable pub line_written : Call → List ℕ → List ℕ
line_written c area = cond (eqb (line_answer c area) 0) (line_text c) []
