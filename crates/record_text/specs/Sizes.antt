-- The longest text of a record.
use Rattle.std.specs.Prelude.{ℕ}

abbrev pub longest_record_text : ℕ
longest_record_text = 123
