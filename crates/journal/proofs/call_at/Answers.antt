-- `journal::call_at` meets its contract: each field is the definition's, read behind the one before it, and all tests together are the
-- definition's tests one behind the other.
use Rattle.std.proofs.Common.{sym, arith}
use mir.Facts.{to_z-of_z}
use Rattle.journal.proofs.CallParts.{call_parts, number_parts, letter_inside, integer_parts}
use Rattle.journal.proofs.call_at.Goals as goal

-- each place lies in the text

pub number_field-requires-2 : goal.number_field-requires-2
number_field-requires-2 c = ((number_parts _ _ _ _ _ (rw c.number_field.ensures at c.parts-has_now.ensures) (omega arith)).1, c.requires.1)

pub letter_field-requires : goal.letter_field-requires
letter_field-requires c = (number_parts _ _ _ _ _ (rw c.number_field-2.ensures at c.parts-has_line.ensures) (omega arith)).1

pub number_field-requires-3 : goal.number_field-requires-3
number_field-requires-3 c = (letter_inside _ _ _ _ (rw c.letter_field.ensures at c.parts-has_kind.ensures) (omega arith), c.requires.1)

pub number_field-requires-4 : goal.number_field-requires-4
number_field-requires-4 c = ((number_parts _ _ _ _ _ (rw c.number_field-3.ensures at c.parts-has_id.ensures) (omega arith)).1, c.requires.1)

pub number_field-requires-5 : goal.number_field-requires-5
number_field-requires-5 c = ((number_parts _ _ _ _ _ (rw c.number_field-4.ensures at c.parts-has_time.ensures) (omega arith)).1, c.requires.1)

pub integer_field-requires : goal.integer_field-requires
integer_field-requires c = ((number_parts _ _ _ _ _ (rw c.number_field-5.ensures at c.parts-has_meter.ensures) (omega arith)).1, c.requires.1)

-- the line's and the meter's numbers are bytes

pub overflow_cast-call : goal.overflow_cast-call
overflow_cast-call c =
    omega (arith, number_parts _ _ _ _ _ (rw c.number_field-2.ensures at c.parts-has_line.ensures) (omega arith))

pub overflow_cast-call-then-has_all-ends_line : goal.overflow_cast-call-then-has_all-ends_line
overflow_cast-call-then-has_all-ends_line c =
    omega (arith, number_parts _ _ _ _ _ (rw c.number_field-5.ensures at c.parts-has_meter.ensures) (omega arith))

pub overflow_add-result : goal.overflow_add-result
overflow_add-result c =
    omega (arith, integer_parts _ _ _ _ (rw c.integer_field.ensures at c.parts-has_value.ensures), c.well_formed)

pub returns-then-has_all-ends_line : goal.returns-then-has_all-ends_line
returns-then-has_all-ends_line c =
    let value = rw c.integer_field.ensures at c.parts-has_value.ensures in
    rw (to_z-of_z (integer_parts _ _ _ _ value).0)
    (sym
    (call_parts c.args.s.now c.args.at
    (rw c.number_field.ensures at c.parts-has_now.ensures)
    (rw c.number_field-2.ensures at c.parts-has_line.ensures)
    (rw c.letter_field.ensures at c.parts-has_kind.ensures)
    (rw c.number_field-3.ensures at c.parts-has_id.ensures)
    (rw c.number_field-4.ensures at c.parts-has_time.ensures)
    (rw c.number_field-5.ensures at c.parts-has_meter.ensures)
    value
    c.ends_line.ensures
    c.if-has_all-ends_line.true))

pub returns-else-has_all-ends_line : goal.returns-else-has_all-ends_line
returns-else-has_all-ends_line c =
    sym
    (call_parts c.args.s.now c.args.at
    (rw c.number_field.ensures at c.parts-has_now.ensures)
    (rw c.number_field-2.ensures at c.parts-has_line.ensures)
    (rw c.letter_field.ensures at c.parts-has_kind.ensures)
    (rw c.number_field-3.ensures at c.parts-has_id.ensures)
    (rw c.number_field-4.ensures at c.parts-has_time.ensures)
    (rw c.number_field-5.ensures at c.parts-has_meter.ensures)
    (rw c.integer_field.ensures at c.parts-has_value.ensures)
    c.ends_line.ensures
    c.if-has_all-ends_line.false)
