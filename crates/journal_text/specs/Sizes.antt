-- The longest journal line.
use Rattle.std.specs.Prelude.{ℕ}

-- bytes of the longest journal line (document 01, section 'Clocks, lines and readings')
abbrev pub longest_journal_line : ℕ
longest_journal_line = 89
