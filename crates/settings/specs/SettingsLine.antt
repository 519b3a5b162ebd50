-- The settings line: its text, and that a text is read exactly (document 01, sections 'Clocks, lines and readings' and 'Refusal by whom').
use Rattle.std.specs.Prelude.{◌≡◌, ℕ, cond, List, [], ◌∷◌, pos, Result, Ok, Err}
use Rattle.answer.specs.Numbers as Answer
use Rattle.answer.specs.Refusals.{answer_of}
use Rattle.answer.specs.declared.Refusal.{Refusal}
use Rattle.decimal.specs.Decimal.{decimal}
use Rattle.fields.specs.Line.{field, line_of}
use Rattle.fields.specs.Keys.{lines_key, bucket_key, window_key, hold_key, low_key, high_key, displays_key}
use Rattle.settings.specs.Limits.{within_limits, SettingsFit}
use Rattle.settings.specs.declared.Settings.{Settings}

-- the line of the settings
unfoldable pub settings_text : Settings → List ℕ
settings_text s =
    line_of
    (field lines_key (decimal (pos s.lines)) ∷
    field bucket_key (decimal (pos s.bucket)) ∷
    field window_key (decimal (pos s.window)) ∷
    field hold_key (decimal (pos s.hold)) ∷
    field low_key (decimal s.low) ∷
    field high_key (decimal s.high) ∷
    field displays_key (decimal (pos s.displays)) ∷ [])

-- settings of the form: refusal 2 where one is outside its limits
unfoldable pub limited : Settings → Result Settings Refusal
limited s = cond (within_limits s) (Ok s) (Err Refusal.OutsideLimits)

-- document 01's number of the answer
abbrev pub settings_answer : Result Settings Refusal → ℕ
settings_answer answer = answer_of answer

-- an answer is exact: a text that is the line of settings gets what their limits say, and every other text gets 1
pub record ExactSettings (text : List ℕ) (answer : Result Settings Refusal) : Type 0 where
  pub line : (s : Settings) → SettingsFit s → text ≡ settings_text s → answer ≡ limited s
  pub only : (settings_answer answer ≡ Answer.malformed_settings → ⊥) → (s : Settings) × SettingsFit s × (text ≡ settings_text s)
