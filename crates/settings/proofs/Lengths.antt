-- The longest settings line of the form, and that its length is reached.
use mathlib.Core.Path.{◌≡◌, refl, ap}
use Prim.Native.Nat.{◌-◌, ◌≤◌, ◌^◌}
use native.Mathlib.Omega.{arith}
use lib.IntN.{negsuc}
use lib.ListN.{length, length-append}
use Rattle.decimal.specs.Decimal.{digits_within, digits, decimal}
use Rattle.decimal.proofs.Decimals.{unsigned32_short, decimal32_short}
use Rattle.fields.specs.Line.{field, line_of}
use Rattle.settings.specs.Sizes.{longest_settings_line}
use Rattle.settings.specs.Limits.{SettingsFit}
use Rattle.settings.specs.SettingsLine.{settings_text}
use Rattle.settings.specs.declared.Settings.{Settings}
use Rattle.settings.proofs.SettingsLines.{stretches, text_stretches}

-- claims of their own: no settings line is longer than the bound, and one is as long
pub settings_line_short : (s : Settings) → SettingsFit s → length (settings_text s) ≤ longest_settings_line
unfolding stretches decimal
settings_line_short s fit =
    let size = simp length-append at (ap length (text_stretches s)) in
    omega (
      arith,
      size,
      unsigned32_short s.lines fit.lines,
      unsigned32_short s.bucket fit.bucket,
      unsigned32_short s.window fit.window,
      unsigned32_short s.hold fit.hold,
      decimal32_short s.low fit.low,
      decimal32_short s.high fit.high,
      unsigned32_short s.displays fit.displays,
    )

abbrev pub longest_settings : Settings
longest_settings =
    record {
      lines = 2 ^ 32 - 1;
      bucket = 2 ^ 32 - 1;
      window = 2 ^ 32 - 1;
      hold = 2 ^ 32 - 1;
      low = negsuc (2 ^ 31 - 1);
      high = negsuc (2 ^ 31 - 1);
      displays = 2 ^ 32 - 1;
    }

pub longest_settings_line_lem : length (settings_text longest_settings) ≡ longest_settings_line
unfolding settings_text line_of field decimal digits digits_within
longest_settings_line_lem = refl
