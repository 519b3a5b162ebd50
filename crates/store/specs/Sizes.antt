-- The size of a line's share.
use Rattle.std.specs.Prelude.{ℕ}

-- places for kept readings in a line's share of the store
abbrev pub readings_per_line : ℕ
readings_per_line = 256
