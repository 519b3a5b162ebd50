-- The text of a record: a line as `merge` prints it (document 01, sections 'On the last tick and past it' and 'Refusal by whom').
use Rattle.std.specs.Prelude.{ℕ, cond, List, [], ◌∷◌, Option, Some, None, ltb, eqb, pos, length}
use Rattle.answer.specs.Numbers as Answer
use Rattle.decimal.specs.Decimal.{decimal}
use Rattle.fields.specs.Keys.{kind_key, id_key, time_key, meter_key, count_key, sum_key, mean_key, last_key}
use Rattle.fields.specs.Line.{field, line_of}
use Rattle.record.specs.declared.Record.{Record}

-- the line of a record
unfoldable pub record_text : Record → List ℕ
record_text r =
    line_of
    (field kind_key (r.kind ∷ []) ∷
    field id_key (decimal (pos r.id)) ∷
    field time_key (decimal (pos r.time.0)) ∷
    field meter_key (decimal (pos r.meter)) ∷
    field count_key (decimal (pos r.count)) ∷
    field sum_key (decimal r.sum) ∷
    field mean_key (decimal r.mean) ∷
    field last_key (decimal r.last) ∷ [])

-- the text of what bytes are read as; of none where they are no record
unfoldable pub text_of : Option Record → List ℕ
text_of (Some r) = record_text r
text_of None = []

-- document 01's number that the writer of a record's text answers: bytes that are no record are refused first, then an area shorter than
-- their text
unfoldable pub text_answer : Option Record → List ℕ → ℕ
text_answer (Some r) area = cond (ltb (length area) (length (record_text r))) Answer.short_area Answer.accepted
text_answer None area = Answer.malformed

-- the bytes that are laid in front of the area: the text, or none where the answer is a refusal
unfoldable pub text_written : Option Record → List ℕ → List ℕ
text_written d area = cond (eqb (text_answer d area) 0) (text_of d) []
