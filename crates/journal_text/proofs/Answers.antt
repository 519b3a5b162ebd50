-- What the writer of a journal line answers and leaves, case by case.
use mathlib.Core.Path.{◌≡◌, refl}
use mathlib.Core.Bool.{true, false}
use mathlib.Core.List.{List}
use Prim.Native.Nat.{ℕ, ◌<◌, ◌≤◌}
use lib.ListN.{length}
use borrow.Author.Tests.{lt-ltb, le-ltb}
use Rattle.area.specs.Laid.{in_front}
use Rattle.fields.specs.Written.{written_answer, written_length}
use Rattle.std.specs.Prelude.{Result, Ok, Err}
use Rattle.answer.specs.declared.Refusal.{Refusal}
use Rattle.journal.specs.Kinds.{is_letter}
use Rattle.journal.specs.JournalLine.{line_text}
use Rattle.journal.specs.declared.Call.{Call}
use Rattle.journal_text.specs.Sizes.{longest_journal_line}
use Rattle.journal_text.specs.JournalText.{line_answer, line_written}

-- the answer r, and what is left of the area, are those of the definitions
abbrev pub Answered : Call → List ℕ → Result ℕ Refusal → List ℕ → Type 0
Answered c area r left =
    (written_answer r ≡ line_answer c area) ×
    ((written_length r ≡ length (line_written c area)) × (left ≡ in_front (line_written c area) area))

pub no_letter : (c : Call) (area : List ℕ) → is_letter c.kind ≡ false → Answered c area (Err Refusal.Malformed) area
unfolding written_length line_answer line_written in_front
no_letter c area none = rw none (refl, (refl, refl))

pub short_area :
    (c : Call) (area : List ℕ) → is_letter c.kind ≡ true → length area < longest_journal_line → Answered c area (Err Refusal.ShortArea) area
unfolding written_length line_answer line_written in_front
short_area c area letter h = rw (letter, lt-ltb (length area) longest_journal_line h) (refl, (refl, refl))

pub line_written_lem : (c : Call) (area left : List ℕ) (n : ℕ) → is_letter c.kind ≡ true → longest_journal_line ≤ length area
    → n ≡ length (line_text c) → left ≡ in_front (line_text c) area → Answered c area (Ok n) left
unfolding written_length line_answer line_written
line_written_lem c area left n letter h size whole = rw (letter, le-ltb (length area) longest_journal_line h) (refl, (size, whole))
