-- A settings line is read exactly if the text has it: field by field, each stretch of the text is the field's, and stretches join to the
-- line.
use mathlib.Core.Path.{◌≡◌, refl, ap, subst, ◌∙◌}
use mathlib.Core.Bool.{true}
use mathlib.Core.List.{List, [], ◌∷◌, ◌++◌, append_assoc}
use Prim.Native.Nat.{ℕ, ◌+◌, ◌-◌, ◌<◌, ◌^◌}
use native.Mathlib.Omega.{arith}
use lib.ListN.{length, drop, length-append}
use Rattle.std.specs.Prelude.{Option, Some, None}
use Rattle.decimal.specs.Decimal.{digits, decimal}
use Rattle.decimal.specs.Spelled.{is_digit}
use Rattle.fields.specs.Line.{field, line_of}
use Rattle.fields.specs.Field.{ends_line, with_field, first, later}
use Rattle.fields.proofs.Spells.{Spells, spells_append}
use Rattle.fields.proofs.Fields.{picked, number_field_sound, number_field_complete, integer_field_sound, integer_field_complete, with_field_lem, end_sound, end_complete}
use Rattle.fields.specs.Keys.{lines_key, bucket_key, window_key, hold_key, low_key, high_key, displays_key}
use Rattle.settings.specs.Limits.{SettingsFit}
use Rattle.settings.specs.SettingsLine.{settings_text}
use Rattle.settings.specs.ReadLine.{settings_at}
use Rattle.settings.specs.declared.Settings.{Settings}

-- the line as the stretches that its fields are read from
unfoldable pub stretches : Settings → List ℕ
stretches s =
    (first lines_key ++ digits s.lines) ++
    ((later bucket_key ++ digits s.bucket) ++
    ((later window_key ++ digits s.window) ++
    ((later hold_key ++ digits s.hold) ++
    ((later low_key ++ decimal s.low) ++
    ((later high_key ++ decimal s.high) ++
    ((later displays_key ++ digits s.displays) ++ (10 ∷ [])))))))

pub text_stretches : (s : Settings) → settings_text s ≡ stretches s
unfolding settings_text stretches line_of field decimal
text_stretches s = simp append_assoc

-- what is claimed of an answer that is a line
abbrev Claim : List ℕ → ℕ → Option (Settings × ℕ) → Type 0
Claim s at (Some (x, f)) = Spells s at (settings_text x) f × SettingsFit x
Claim s at None = Unit {0}

-- what is read is what the text spells
pub settings_sound :
    (s : List ℕ) (at f : ℕ) (x : Settings) → settings_at s at ≡ Some (x, f) → Spells s at (settings_text x) f × SettingsFit x
unfolding settings_at stretches
settings_sound s at f x q =
    let z : Option (Settings × ℕ) = None in
    let y : Option (Settings × ℕ) = Some (x, f) in
    let no : z ≡ y → ⊥ = λ e. cc in
    with_field_lem z y no _ _ q λ lines e1 q1 g1.
    with_field_lem z y no _ _ g1 λ bucket e2 q2 g2.
    with_field_lem z y no _ _ g2 λ window e3 q3 g3.
    with_field_lem z y no _ _ g3 λ hold e4 q4 g4.
    with_field_lem z y no _ _ g4 λ low e5 q5 g5.
    with_field_lem z y no _ _ g5 λ high e6 q6 g6.
    with_field_lem z y no _ _ g6 λ displays e7 q7 g7.
    let read : Settings = record { lines = lines; bucket = bucket; window = window; hold = hold; low = low; high = high; displays = displays } in
    let p = picked {A = Option (Settings × ℕ)} (ends_line s e7) (Some (read, e7 + 1)) z y g7 no in
    let f1 = number_field_sound (first lines_key) s (2 ^ 32 - 1) at lines (omega arith) e1 q1 in
    let f2 = number_field_sound (later bucket_key) s (2 ^ 32 - 1) e1 bucket (omega arith) e2 q2 in
    let f3 = number_field_sound (later window_key) s (2 ^ 32 - 1) e2 window (omega arith) e3 q3 in
    let f4 = number_field_sound (later hold_key) s (2 ^ 32 - 1) e3 hold (omega arith) e4 q4 in
    let f5 = integer_field_sound (later low_key) s e4 low e5 q5 in
    let f6 = integer_field_sound (later high_key) s e5 high e6 q6 in
    let f7 = number_field_sound (later displays_key) s (2 ^ 32 - 1) e6 displays (omega arith) e7 q7 in
    let spelled : Spells s at (settings_text read) (e7 + 1) =
    rw (text_stretches read)
    (spells_append f1.0 (spells_append f2.0 (spells_append f3.0 (spells_append f4.0 (spells_append f5.0 (spells_append f6.0 (spells_append f7.0 (end_sound s e7 p.0)))))))) in
    subst (Claim s at) p.1 (
      spelled,
      record {
        lines = omega (arith, f1.1);
        bucket = omega (arith, f2.1);
        window = omega (arith, f3.1);
        hold = omega (arith, f4.1);
        low = f5.1;
        high = f6.1;
        displays = omega (arith, f7.1);
      },
    )

-- what the text spells is read
pub settings_complete :
    (s r : List ℕ) (at : ℕ) (x : Settings) → SettingsFit x → drop at s ≡ settings_text x ++ r →
    settings_at s at ≡ Some (x, at + length (settings_text x))
unfolding settings_at stretches with_field is_digit
settings_complete s r at x fit p =
    let most : 2 ^ 32 - 1 < 2 ^ 64 = omega arith in
    let p0 : drop at s ≡ stretches x ++ r = p ∙ ap (λ (t : List ℕ). t ++ r) (text_stretches x) in
    number_field_complete (first lines_key) s (2 ^ 32 - 1) at x.lines most _ (omega (arith, fit.lines)) refl (p0 ∙ append_assoc (first lines_key ++ digits x.lines) _ r) λ e1 n1 q1 p1.
    number_field_complete (later bucket_key) s (2 ^ 32 - 1) e1 x.bucket most _ (omega (arith, fit.bucket)) refl (p1 ∙ append_assoc (later bucket_key ++ digits x.bucket) _ r) λ e2 n2 q2 p2.
    number_field_complete (later window_key) s (2 ^ 32 - 1) e2 x.window most _ (omega (arith, fit.window)) refl (p2 ∙ append_assoc (later window_key ++ digits x.window) _ r) λ e3 n3 q3 p3.
    number_field_complete (later hold_key) s (2 ^ 32 - 1) e3 x.hold most _ (omega (arith, fit.hold)) refl (p3 ∙ append_assoc (later hold_key ++ digits x.hold) _ r) λ e4 n4 q4 p4.
    integer_field_complete (later low_key) s e4 x.low _ fit.low refl (p4 ∙ append_assoc (later low_key ++ decimal x.low) _ r) λ e5 n5 q5 p5.
    integer_field_complete (later high_key) s e5 x.high _ fit.high refl (p5 ∙ append_assoc (later high_key ++ decimal x.high) _ r) λ e6 n6 q6 p6.
    number_field_complete (later displays_key) s (2 ^ 32 - 1) e6 x.displays most _ (omega (arith, fit.displays)) refl (p6 ∙ append_assoc (later displays_key ++ digits x.displays) _ r) λ e7 n7 q7 p7.
    let size : length (settings_text x) ≡ length (stretches x) = ap length (text_stretches x) in
    let end : e7 + 1 ≡ at + length (settings_text x) = omega (arith, simp length-append at size) in
    let ended : ends_line s e7 ≡ true = end_complete s r e7 p7 in
    rw (q1, q2, q3, q4, q5, q6, q7, ended) (ap (λ (n : ℕ). Some (x, n)) end)
