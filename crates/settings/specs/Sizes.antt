-- The longest settings line of the form.
use Rattle.std.specs.Prelude.{ℕ}

abbrev pub longest_settings_line : ℕ
longest_settings_line = 122
