-- The size of a record.
use Rattle.std.specs.Prelude.{ℕ}

-- bytes of one record (document 01, section 'Store and output area')
abbrev pub record_bytes : ℕ
record_bytes = 32
