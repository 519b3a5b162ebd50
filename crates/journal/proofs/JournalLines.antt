-- A journal line is read exactly if the text has it: field by field, each stretch of the text is the field's, and stretches join to the
-- line.
use mathlib.Core.Path.{◌≡◌, refl, ap, subst, ◌∙◌}
use mathlib.Core.Bool.{true}
use mathlib.Core.List.{List, [], ◌∷◌, ◌++◌, append_assoc}
use Prim.Native.Nat.{ℕ, ◌+◌, ◌-◌, ◌<◌, ◌^◌}
use native.Mathlib.Omega.{arith}
use lib.IntN.{pos}
use lib.ListN.{length, drop, length-append}
use Rattle.std.specs.Prelude.{Option, Some, None}
use Rattle.decimal.specs.Decimal.{digits, decimal}
use Rattle.decimal.specs.Spelled.{is_digit}
use Rattle.fields.specs.Line.{field, line_of}
use Rattle.fields.specs.Field.{ends_line, with_field, first, later}
use Rattle.fields.proofs.Spells.{Spells, spells_append}
use Rattle.fields.proofs.Fields.{picked, number_field_sound, number_field_complete, integer_field_sound, integer_field_complete, with_field_lem, end_sound, end_complete}
use Rattle.fields.specs.Keys.{now_key, line_key, kind_key, id_key, time_key, meter_key, value_key}
use Rattle.journal.specs.JournalLine.{line_text, CallFits}
use Rattle.journal.specs.ReadLine.{call_at}
use Rattle.journal.specs.JournalParts.{call_head, call_tail}
use Rattle.journal.specs.declared.Call.{Call}
use Rattle.journal.proofs.Letters.{letter_field_sound, letter_field_complete}

-- the line as its two parts
pub text_parts : (c : Call) → line_text c ≡ call_head c ++ call_tail c
unfolding line_text call_head call_tail line_of field
text_parts c =
    let line = later line_key ++ decimal (pos c.line) in
    let kind = later kind_key ++ (c.kind ∷ []) in
    rw (
      append_assoc (decimal (pos c.now.0)) (line ++ kind) (call_tail c),
      append_assoc (decimal (pos c.line)) kind (call_tail c),
    )

-- what is claimed of an answer that is a line
abbrev Claim : List ℕ → ℕ → Option (Call × ℕ) → Type 0
Claim s at (Some (c, f)) = Spells s at (line_text c) f × CallFits c
Claim s at None = Unit {0}

-- what is read is what the text spells
pub call_sound : (s : List ℕ) (at f : ℕ) (c : Call) → call_at s at ≡ Some (c, f) → Spells s at (line_text c) f × CallFits c
unfolding call_at call_head call_tail decimal
call_sound s at f c q =
    let z : Option (Call × ℕ) = None in
    let y : Option (Call × ℕ) = Some (c, f) in
    let no : z ≡ y → ⊥ = λ e. cc in
    with_field_lem z y no _ _ q λ now e1 q1 g1.
    with_field_lem z y no _ _ g1 λ line e2 q2 g2.
    with_field_lem z y no _ _ g2 λ kind e3 q3 g3.
    with_field_lem z y no _ _ g3 λ id e4 q4 g4.
    with_field_lem z y no _ _ g4 λ time e5 q5 g5.
    with_field_lem z y no _ _ g5 λ meter e6 q6 g6.
    with_field_lem z y no _ _ g6 λ value e7 q7 g7.
    let read : Call =
    record {
      now = record { 0 = now };
      id = id;
      time = record { 0 = time };
      value = value;
      line = line;
      kind = kind;
      meter = meter;
    } in
    let p = picked {A = Option (Call × ℕ)} (ends_line s e7) (Some (read, e7 + 1)) z y g7 no in
    let f1 = number_field_sound (first now_key) s (2 ^ 32 - 1) at now (omega arith) e1 q1 in
    let f2 = number_field_sound (later line_key) s 255 e1 line (omega arith) e2 q2 in
    let f3 = letter_field_sound (later kind_key) s e2 kind e3 q3 in
    let f4 = number_field_sound (later id_key) s (2 ^ 32 - 1) e3 id (omega arith) e4 q4 in
    let f5 = number_field_sound (later time_key) s (2 ^ 32 - 1) e4 time (omega arith) e5 q5 in
    let f6 = number_field_sound (later meter_key) s 255 e5 meter (omega arith) e6 q6 in
    let f7 = integer_field_sound (later value_key) s e6 value e7 q7 in
    let spelled : Spells s at (line_text read) (e7 + 1) =
    rw (text_parts read)
    (spells_append (spells_append f1.0 (spells_append f2.0 f3.0)) (spells_append f4.0 (spells_append f5.0 (spells_append f6.0 (spells_append f7.0 (end_sound s e7 p.0)))))) in
    subst (Claim s at) p.1 (
      spelled,
      record {
        now = omega (arith, f1.1);
        line = omega (arith, f2.1);
        kind = f3.1;
        id = omega (arith, f4.1);
        time = omega (arith, f5.1);
        meter = omega (arith, f6.1);
        value = f7.1;
      },
    )

-- what the text spells is read
pub call_complete :
    (s r : List ℕ) (at : ℕ) (c : Call) → CallFits c → drop at s ≡ line_text c ++ r → call_at s at ≡ Some (c, at + length (line_text c))
unfolding call_at call_head call_tail decimal with_field is_digit
call_complete s r at c fit p =
    let most : 2 ^ 32 - 1 < 2 ^ 64 = omega arith in
    let byte : 255 < 2 ^ 64 = omega arith in
    let tail = call_tail c ++ r in
    let p0 : drop at s ≡ call_head c ++ tail = p ∙ ap (λ (t : List ℕ). t ++ r) (text_parts c) ∙ append_assoc (call_head c) (call_tail c) r in
    number_field_complete (first now_key) s (2 ^ 32 - 1) at c.now.0 most _ (omega (arith, fit.now)) refl (p0 ∙ append_assoc (first now_key ++ digits c.now.0) _ tail) λ e1 n1 q1 p1.
    number_field_complete (later line_key) s 255 e1 c.line byte _ (omega (arith, fit.line)) refl (p1 ∙ append_assoc (later line_key ++ digits c.line) _ tail) λ e2 n2 q2 p2.
    letter_field_complete (later kind_key) s e2 c.kind tail fit.kind p2 λ e3 n3 q3 p3.
    number_field_complete (later id_key) s (2 ^ 32 - 1) e3 c.id most _ (omega (arith, fit.id)) refl (p3 ∙ append_assoc (later id_key ++ digits c.id) _ r) λ e4 n4 q4 p4.
    number_field_complete (later time_key) s (2 ^ 32 - 1) e4 c.time.0 most _ (omega (arith, fit.time)) refl (p4 ∙ append_assoc (later time_key ++ digits c.time.0) _ r) λ e5 n5 q5 p5.
    number_field_complete (later meter_key) s 255 e5 c.meter byte _ (omega (arith, fit.meter)) refl (p5 ∙ append_assoc (later meter_key ++ digits c.meter) _ r) λ e6 n6 q6 p6.
    integer_field_complete (later value_key) s e6 c.value _ fit.value refl (p6 ∙ append_assoc (later value_key ++ decimal c.value) _ r) λ e7 n7 q7 p7.
    let size : length (line_text c) ≡ length (call_head c ++ call_tail c) = ap length (text_parts c) in
    let end : e7 + 1 ≡ at + length (line_text c) = omega (arith, simp length-append at size) in
    let ended : ends_line s e7 ≡ true = end_complete s r e7 p7 in
    rw (q1, q2, q3, q4, q5, q6, q7, ended) (ap (λ (n : ℕ). Some (c, n)) end)
