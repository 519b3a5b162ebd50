-- What a text is read as: how a journal line is read from a place on, field by field. That it is read exactly fixes it (`ExactCall`).
use Rattle.std.specs.Prelude.{ℕ, ◌+◌, ◌-◌, ◌^◌, cond, List, eqb, length, get_or, drop, Option, Some, None}
use Rattle.fields.specs.Keys.{now_key, line_key, kind_key, id_key, time_key, meter_key, value_key}
use Rattle.fields.specs.Field.{first, later, starts_with, ends_line, number_field, integer_field, with_field}
use Rattle.journal.specs.Kinds.{is_letter}
use Rattle.journal.specs.declared.Call.{Call}

-- the letter that s has at a place, and the one of the field that s has from `at` on, each with the place behind it
unfoldable pub letter_at : List ℕ → ℕ → Option (ℕ × ℕ)
letter_at s at = cond (is_letter (get_or s at 0)) (Some (get_or s at 0, at + 1)) None

unfoldable pub letter_field : List ℕ → List ℕ → ℕ → Option (ℕ × ℕ)
letter_field key s at = cond (starts_with key (drop at s)) (letter_at s (at + length key)) None

-- what the text s has from `at` on: a journal line, with the place behind it, or none
unfoldable pub call_at : List ℕ → ℕ → Option (Call × ℕ)
call_at s at =
    with_field (number_field (first now_key) (2 ^ 32 - 1) s at) None λ now e1.
    with_field (number_field (later line_key) 255 s e1) None λ line e2.
    with_field (letter_field (later kind_key) s e2) None λ kind e3.
    with_field (number_field (later id_key) (2 ^ 32 - 1) s e3) None λ id e4.
    with_field (number_field (later time_key) (2 ^ 32 - 1) s e4) None λ time e5.
    with_field (number_field (later meter_key) 255 s e5) None λ meter e6.
    with_field (integer_field (later value_key) s e6) None λ value e7.
    cond (ends_line s e7)
    (Some (
      record {
        now = record { 0 = now };
        id = id;
        time = record { 0 = time };
        value = value;
        line = line;
        kind = kind;
        meter = meter;
      },
      e7 + 1,
    ))
    None

-- the line must be the whole text
unfoldable pub whole : List ℕ → Option (Call × ℕ) → Option Call
whole text (Some (c, e)) = cond (eqb e (length text)) (Some c) None
whole text None = None

-- what a call's text is read as
unfoldable pub call_of : List ℕ → Option Call
call_of text = whole text (call_at text 0)
