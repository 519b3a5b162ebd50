-- The bytes that the writer of a record's text leaves in front of the area, case by case: none of a text that is longer than the area, and else
-- the text, read back from where it was made.
use mathlib.Core.Path.{◌≡◌, refl}
use mathlib.Core.List.{List, []}
use Rattle.std.specs.Prelude.{Some, None, Ok, Err}
use Prim.Native.Nat.{ℕ, ◌-◌, ◌<◌, ◌≤◌}
use native.Mathlib.Nat.{sub-zero}
use lib.ListN.{length, take, drop}
use lib.Seq.{take_at}
use borrow.Author.Tests.{lt-ltb, le-ltb}
use Rattle.area.specs.Laid.{laid, in_front}
use Rattle.area.proofs.Laid.{laid_front}
use Rattle.answer.specs.declared.Refusal.{Refusal}
use Rattle.fields.specs.Written.{written_length}
use Rattle.record.specs.declared.Record.{Record}
use Rattle.record_text.specs.RecordText.{record_text, text_of, text_answer, text_written}
use Rattle.record_text.proofs.Longest.{text_short}

-- the length that an answer says
pub length_ok : (n : ℕ) → written_length (Ok n) ≡ n
unfolding written_length
length_ok n = refl

pub length_err : (refusal : Refusal) → written_length (Err refusal) ≡ 0
unfolding written_length
length_err refusal = refl

pub written_none : (area : List ℕ) → text_written None area ≡ []
unfolding text_written text_answer
written_none area = refl

pub written_short : (r : Record) (area : List ℕ) → length area < length (record_text r) → text_written (Some r) area ≡ []
unfolding text_written text_answer
written_short r area h = rw (lt-ltb (length area) (length (record_text r)) h)

pub written_whole : (r : Record) (area : List ℕ) → length (record_text r) ≤ length area → text_written (Some r) area ≡ record_text r
unfolding text_written text_answer text_of
written_whole r area h = rw (le-ltb (length area) (length (record_text r)) h)

-- nothing in front of an area leaves it as it is
pub none_in_front : (area : List ℕ) → in_front [] area ≡ area
unfolding in_front
none_in_front area = refl

-- a text laid in front of one area, and from there in front of another
pub copied : (area scratch held t : List ℕ) (n : ℕ) → n ≡ length t → length t ≤ length scratch → length t ≤ length area → held ≡ laid scratch 0 t
    → laid area 0 (take (n - 0) held) ≡ in_front t area
unfolding in_front
copied area scratch held t n size made room e =
    let front = take_at t (drop (length t) scratch) (length t) refl in
    rw (size, sub-zero, e, laid_front scratch t made, front) (laid_front area t room)

-- for the writer of one record, and of what bytes are read as
pub ruleset written = (text_short, written_short, written_whole, none_in_front, copied, length_ok, length_err)

pub ruleset unread = (written_none, none_in_front, length_err)
