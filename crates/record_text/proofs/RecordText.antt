-- The text of a record is its two parts, one behind the other, and the text of a record's bytes is the record's. The first by taking the
-- fields of the first part out of its brackets.
use mathlib.Core.Path.{◌≡◌}
use mathlib.Core.Bool.{true}
use mathlib.Core.List.{List, ◌++◌, append_assoc}
use Prim.Native.Nat.{ℕ, ◌+◌}
use native.Mathlib.Omega.{arith}
use lib.IntN.{pos}
use lib.ListN.{length, length-append}
use Rattle.area.specs.Laid.{laid}
use Rattle.std.proofs.lemmas.Int.{to_z-of_z}
use Rattle.area.proofs.Laid.{laid_laid, laid_four, length_four}
use Rattle.decimal.specs.Decimal.{decimal}
use Rattle.fields.specs.Keys.{time_key, meter_key}
use Rattle.fields.specs.Field.{later}
use Rattle.fields.specs.Line.{field, line_of}
use Rattle.record.specs.Decoded.{decoded}
use Rattle.record.specs.Kinds.{is_record}
use Rattle.record.specs.Layout.{bytes_of}
use Rattle.record.specs.Within.{Within}
use Rattle.record.specs.declared.Record.{Record}
use Rattle.record.proofs.Decoding.{decoded_bytes_of}
use Rattle.record_text.specs.RecordText.{record_text, text_of}
use Rattle.record_text.specs.Parts.{text_head, text_tail}

pub record_text_parts : (r : Record) → record_text r ≡ text_head r ++ text_tail r
unfolding record_text text_head text_tail field line_of
record_text_parts r =
    let time = later time_key ++ decimal (pos r.time.0) in
    let meter = later meter_key ++ decimal (pos r.meter) in
    let tail = text_tail r in
    rw (
      append_assoc (decimal (pos r.id)) (time ++ meter) tail,
      append_assoc (decimal (pos r.time.0)) meter tail,
    )

-- a claim of its own: the text that is written of a record's bytes is the record's
pub text_of_bytes_of : (r : Record) → Within r → is_record r.kind ≡ true → text_of (decoded (bytes_of r)) ≡ record_text r
unfolding text_of
text_of_bytes_of r w k = rw (decoded_bytes_of r w k)

pub length_record_text : (r : Record) → length (record_text r) ≡ length (text_head r) + length (text_tail r)
length_record_text r = rw (record_text_parts r) (length-append (text_head r) (text_tail r))

-- the first part laid down and behind it the second are the text
pub parts_laid : (l : List ℕ) (r : Record) (at : ℕ) → at ≡ length (text_head r) → laid (laid l 0 (text_head r)) at (text_tail r) ≡ laid l 0 (record_text r)
parts_laid l r at e = rw (record_text_parts r) (laid_laid l 0 at (text_head r) (text_tail r) (omega arith))

-- for the writers of the second part and of the whole
pub ruleset tail_laid = (laid_four, length_four, length-append, to_z-of_z)

pub ruleset text_laid = (parts_laid, length_record_text)
