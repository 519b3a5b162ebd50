-- The limits of the settings (document 01, section 'Clocks, lines and readings').
use Rattle.std.specs.Prelude.{ℕ, ◌<◌, ◌^◌, Bool, ◌&&◌, leb}
use Rattle.std.specs.Int.Signed.{le_z}
use Rattle.std.specs.Int.{w32}
use Rattle.std.proofs.Common.{SFits}
use Rattle.settings.specs.declared.Settings.{Settings}

-- lines 1 to 8
abbrev pub max_lines : ℕ
max_lines = 8

-- bucket 100 to 36,000 ticks
abbrev pub min_bucket : ℕ
min_bucket = 100

abbrev pub max_bucket : ℕ
max_bucket = 36_000

-- window 1 to 16 buckets
abbrev pub max_window : ℕ
max_window = 16

-- hold 0 to 864,000 ticks
abbrev pub max_hold : ℕ
max_hold = 864_000

-- displays 1 to 4 (document 02, W2)
abbrev pub max_displays : ℕ
max_displays = 4

-- every setting inside its limits
unfoldable pub within_limits : Settings → Bool
within_limits s =
    (leb 1 s.lines && leb s.lines max_lines) &&
    ((leb min_bucket s.bucket && leb s.bucket max_bucket) &&
    ((leb 1 s.window && leb s.window max_window) &&
    ((leb s.hold max_hold && le_z s.low s.high) && (leb 1 s.displays && leb s.displays max_displays))))

-- every setting inside its width
pub record SettingsFit (s : Settings) : Type 0 where
  pub lines : s.lines < 2 ^ 32
  pub bucket : s.bucket < 2 ^ 32
  pub window : s.window < 2 ^ 32
  pub hold : s.hold < 2 ^ 32
  pub low : SFits w32 s.low
  pub high : SFits w32 s.high
  pub displays : s.displays < 2 ^ 32
