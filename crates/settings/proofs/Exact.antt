-- The reader is exact: a text is read as settings exactly if it is their line, whole.
use mathlib.Core.Path.{◌≡◌, refl, sym, ap, subst, ◌∙◌}
use mathlib.Core.Bool.{true, false, cond, true≢false}
use mathlib.Core.List.{List, []}
use Prim.Native.Nat.{ℕ, ◌+◌, ◌-◌}
use native.Mathlib.Omega.{arith}
use borrow.Author.Tests.{eq-eqb, eqb-true}
use lib.Dec.{eqb}
use lib.ListN.{length}
use Rattle.std.specs.Prelude.{Option, Some, None, Result, Err}
use Rattle.answer.specs.declared.Refusal.{Refusal}
use Rattle.fields.specs.Field.{ends_line}
use Rattle.fields.proofs.Spells.{spells_whole, whole_spelled}
use Rattle.fields.proofs.Fields.{line_ends}
use Rattle.settings.specs.Limits.{SettingsFit}
use Rattle.settings.specs.SettingsLine.{settings_text, limited, settings_answer, ExactSettings}
use Rattle.settings.specs.ReadLine.{settings_at, judged, settings_of}
use Rattle.settings.specs.declared.Settings.{Settings}
use Rattle.settings.proofs.SettingsLines.{settings_sound, settings_complete}

settings_line : (text : List ℕ) (s : Settings) → SettingsFit s → text ≡ settings_text s → settings_of text ≡ limited s
unfolding settings_of judged
settings_line text s fit p =
    let end : 0 + length (settings_text s) ≡ length text = omega (arith, ap length p) in
    rw (settings_complete text [] 0 s fit (whole_spelled text (settings_text s) p), eq-eqb (0 + length (settings_text s)) (length text) end)

settings_only :
    (text : List ℕ) (answer : Option (Settings × ℕ)) → settings_at text 0 ≡ answer → (settings_answer (judged text answer) ≡ 1 → ⊥) →
    (s : Settings) × SettingsFit s × (text ≡ settings_text s)
unfolding judged
settings_only text (Some (s, e)) q n =
    let found = settings_sound text 0 e s q in
    (elim (eqb e (length text)) as (λ t. eqb e (length text) ≡ t → (settings_answer (cond t (limited s) (Err Refusal.MalformedSettings)) ≡ 1 → ⊥) → (s : Settings) × SettingsFit s × (text ≡ settings_text s)) [
      | true ↦ λ t m. (s, found.1, spells_whole text (settings_text s) e found.0 (eqb-true e (length text) t))
      | false ↦ λ t m. absurd (m refl)
    ]) refl n
settings_only text None q n = absurd (n refl)

pub exact_settings : (text : List ℕ) → ExactSettings text (settings_of text)
unfolding settings_of
exact_settings text = record { line = settings_line text; only = settings_only text (settings_at text 0) refl }

-- an answer that is the definition's is exact
pub exact : (text : List ℕ) (answer : Result Settings Refusal) → answer ≡ settings_of text → ExactSettings text answer
exact text answer q = subst (ExactSettings text) (sym q) (exact_settings text)

-- a text that does not end with 0A is no line of settings
module _ (text : List ℕ) (n : ends_line text (length text - 1) ≡ false) where
  no_text : (s : Settings) × SettingsFit s × (text ≡ settings_text s) → ⊥
  unfolding settings_text
  no_text found =
      let ends : ends_line text (length text - 1) ≡ true = rw found.2 (line_ends _) in
      true≢false (sym ends ∙ n)

  judged_malformed : (answer : Option (Settings × ℕ)) → settings_at text 0 ≡ answer → judged text answer ≡ Err Refusal.MalformedSettings
  unfolding judged
  judged_malformed (Some (s, e)) q =
      let found = settings_sound text 0 e s q in
      (elim (eqb e (length text)) as (λ t. eqb e (length text) ≡ t → cond t (limited s) (Err Refusal.MalformedSettings) ≡ Err Refusal.MalformedSettings) [
        | true ↦ λ t. absurd (no_text (s, found.1, spells_whole text (settings_text s) e found.0 (eqb-true e (length text) t)))
        | false ↦ λ t. refl
      ]) refl
  judged_malformed None q = refl

  pub not_line : settings_of text ≡ Err Refusal.MalformedSettings
  unfolding settings_of
  not_line = judged_malformed (settings_at text 0) refl
