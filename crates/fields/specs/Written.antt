-- What a writer of text into a lent area answers, in document 01's numbers (section 'Refusal by whom'): the text's length, or why nothing
-- was written.
use Rattle.std.specs.Prelude.{ℕ, Result, Ok, Err}
use Rattle.answer.specs.Refusals.{answer_of}
use Rattle.answer.specs.declared.Refusal.{Refusal}

-- document 01's number of the answer
abbrev pub written_answer : Result ℕ Refusal → ℕ
written_answer w = answer_of w

-- the length of the text that was written
unfoldable pub written_length : Result ℕ Refusal → ℕ
written_length (Ok n) = n
written_length (Err r) = 0
