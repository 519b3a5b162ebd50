-- What a text is read as: how a settings line is read from a place on, field by field. That it is read exactly fixes it (`ExactSettings`).
use Rattle.std.specs.Prelude.{ℕ, ◌+◌, ◌-◌, ◌^◌, cond, List, eqb, length, Option, Some, None, Result, Err}
use Rattle.answer.specs.declared.Refusal.{Refusal}
use Rattle.fields.specs.Keys.{lines_key, bucket_key, window_key, hold_key, low_key, high_key, displays_key}
use Rattle.fields.specs.Field.{first, later, ends_line, number_field, integer_field, with_field}
use Rattle.settings.specs.SettingsLine.{limited}
use Rattle.settings.specs.declared.Settings.{Settings}

-- what the text s has from `at` on: a settings line, with the place behind it, or none
unfoldable pub settings_at : List ℕ → ℕ → Option (Settings × ℕ)
settings_at s at =
    with_field (number_field (first lines_key) (2 ^ 32 - 1) s at) None λ lines e1.
    with_field (number_field (later bucket_key) (2 ^ 32 - 1) s e1) None λ bucket e2.
    with_field (number_field (later window_key) (2 ^ 32 - 1) s e2) None λ window e3.
    with_field (number_field (later hold_key) (2 ^ 32 - 1) s e3) None λ hold e4.
    with_field (integer_field (later low_key) s e4) None λ low e5.
    with_field (integer_field (later high_key) s e5) None λ high e6.
    with_field (number_field (later displays_key) (2 ^ 32 - 1) s e6) None λ displays e7.
    cond (ends_line s e7)
    (Some (
      record { lines = lines; bucket = bucket; window = window; hold = hold; low = low; high = high; displays = displays },
      e7 + 1,
    ))
    None

-- the line must be the whole text, else refusal 1
unfoldable pub judged : List ℕ → Option (Settings × ℕ) → Result Settings Refusal
judged text (Some (s, e)) = cond (eqb e (length text)) (limited s) (Err Refusal.MalformedSettings)
judged text None = Err Refusal.MalformedSettings

-- what a settings text is read as
unfoldable pub settings_of : List ℕ → Result Settings Refusal
settings_of text = judged text (settings_at text 0)
