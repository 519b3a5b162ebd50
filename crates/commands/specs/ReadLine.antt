-- What a text is read as: how a command's line is read, field by field. That it is read exactly fixes it (`ExactCommand`).
use Rattle.std.specs.Prelude.{ℕ, ◌+◌, ◌-◌, ◌^◌, cond, ◌&&◌, List, ◌++◌, Option, Some, None, eqb, length}
use Rattle.fields.specs.Keys.{display_key, id_key}
use Rattle.fields.specs.Field.{later, ends_line, number_field, with_field}
use Rattle.commands.specs.CommandLine.{ack_word, fetch_word}
use Rattle.commands.specs.declared.Command.{Command}

-- the widest id that is read
abbrev pub widest_id : ℕ
widest_id = 2 ^ 64 - 1

-- the display and the id of the line that the whole text is, with `start` up to the display's number
unfoldable pub display_line_of : List ℕ → List ℕ → Option (ℕ × ℕ)
display_line_of start text =
    with_field (number_field start (2 ^ 32 - 1) text 0) None λ display e1.
    with_field (number_field (later id_key) widest_id text e1) None λ id e2.
    cond (ends_line text e2 && eqb (e2 + 1) (length text)) (Some (display, id)) None

-- the command of the fields that were read, or else another
unfoldable pub or_else : Option (ℕ × ℕ) → (ℕ → ℕ → Command) → Option Command → Option Command
or_else (Some (display, id)) command other = Some (command display id)
or_else None command other = other

-- what a text is read as
unfoldable pub command_of : List ℕ → Option Command
command_of text =
    or_else (display_line_of (ack_word ++ later display_key) text) Command.Acknowledge
    (or_else (display_line_of (fetch_word ++ later display_key) text) Command.Fetch None)
