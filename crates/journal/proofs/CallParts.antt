-- A journal line with its tests made all together: each field is read behind the one before it, and a call is there where all are.
use mathlib.Core.Path.{◌≡◌, refl, ap}
use mathlib.Core.Bool.{Bool, true, false, cond, ◌&&◌}
use mathlib.Core.List.{List, [], ◌∷◌}
use Prim.Native.Nat.{ℕ, ◌+◌, ◌-◌, ◌<◌, ◌≤◌, ◌^◌}
use native.Mathlib.Omega.{arith}
use borrow.Author.Rules.{rules}
use lib.IntN.{ℤ, pos}
use lib.ListN.{length, length-append, length-drop}
use mir.Syntax.{w32}
use mir.Val.{SFits}
use Rattle.std.specs.Prelude.{Option, Some, None}
use Rattle.fields.specs.Keys.{now_key, line_key, kind_key, id_key, time_key, meter_key, value_key}
use Rattle.fields.specs.Field.{first, later, ends_line, number_field, integer_field, with_field}
use Rattle.fields.proofs.Fields.{number_field_sound, number_field_within, integer_field_sound, integer_field_within}
use Rattle.journal.specs.FieldParts.{parts}
use Rattle.journal.specs.ReadLine.{letter_field, call_at}
use Rattle.journal.specs.declared.Call.{Call}
use Rattle.journal.proofs.Letters.{letter_field_sound}

-- behind tests that all hold, a field is one test more, and so is a test
module _ {A : Type 0} where
  and_field :
      {V : Type 0} (ok : Bool) (none : A) (zero : V) (n : Option (V × ℕ)) (go : V → ℕ → A) →
      cond ok (with_field n none go) none ≡ cond (ok && (parts n zero).0) (go (parts n zero).1 (parts n zero).2) none
  unfolding with_field
  and_field true none zero (Some (v, e)) go = refl
  and_field true none zero None go = refl
  and_field false none zero (Some (v, e)) go = refl
  and_field false none zero None go = refl

  and_test : (ok : Bool) (none : A) (t : Bool) (x : A) → cond ok (cond t x none) none ≡ cond (ok && t) x none
  and_test true none t x = refl
  and_test false none t x = refl

-- the parts of the seven fields, each read behind the one before it, tell the answer
pub call_parts :
    (s : List ℕ) (at : ℕ) {now line kind id time meter : Bool × ℕ × ℕ} {value : Bool × ℤ × ℕ} {ends all : Bool} →
    now ≡ parts (number_field (first now_key) (2 ^ 32 - 1) s at) 0 → line ≡ parts (number_field (later line_key) 255 s now.2) 0 →
    kind ≡ parts (letter_field (later kind_key) s line.2) 0 → id ≡ parts (number_field (later id_key) (2 ^ 32 - 1) s kind.2) 0 →
    time ≡ parts (number_field (later time_key) (2 ^ 32 - 1) s id.2) 0 → meter ≡ parts (number_field (later meter_key) 255 s time.2) 0 →
    value ≡ parts (integer_field (later value_key) s meter.2) (pos 0) → ends ≡ ends_line s value.2 →
    (now.0 && line.0 && kind.0 && id.0 && time.0 && meter.0 && value.0 && ends) ≡ all →
    call_at s at ≡
    cond all
    (Some (
      record {
        now = record { 0 = now.1 };
        id = id.1;
        time = record { 0 = time.1 };
        value = value.1;
        line = line.1;
        kind = kind.1;
        meter = meter.1;
      },
      value.2 + 1,
    ))
    None
unfolding call_at
call_parts s at {now} {line} {kind} {id} {time} {meter} {value} {ends} q1 q2 q3 q4 q5 q6 q7 q8 all =
    let none : Option (Call × ℕ) = None in
    rw (
      and_field true none 0 (number_field (first now_key) (2 ^ 32 - 1) s at),
      ← q1,
      and_field _ none 0 (number_field (later line_key) 255 s now.2),
      ← q2,
      and_field _ none 0 (letter_field (later kind_key) s line.2),
      ← q3,
      and_field _ none 0 (number_field (later id_key) (2 ^ 32 - 1) s kind.2),
      ← q4,
      and_field _ none 0 (number_field (later time_key) (2 ^ 32 - 1) s id.2),
      ← q5,
      and_field _ none 0 (number_field (later meter_key) 255 s time.2),
      ← q6,
      and_field _ none (pos 0) (integer_field (later value_key) s meter.2),
      ← q7,
      ← q8,
      and_test _ none ends,
      all,
    )

module _ (key s : List ℕ) (at : ℕ) where
  -- a field's value, and 0 in place of one, is within its width, and the place behind it lies in the text
  pub number_parts : (most : ℕ) (p : Bool × ℕ × ℕ) → p ≡ parts (number_field key most s at) 0 → most < 2 ^ 64 → (p.1 ≤ most) × (p.2 ≤ length s)
  number_parts most p q h = by (number_field key most s at) refl q
    where
      by : (n : Option (ℕ × ℕ)) → number_field key most s at ≡ n → p ≡ parts n 0 → (p.1 ≤ most) × (p.2 ≤ length s)
      by (Some (v, e)) f r = rw r ((number_field_sound key s most at v h e f).1, number_field_within key most s at v e f)
      by None f r = rw r (omega arith, omega arith)

  pub letter_inside : (p : Bool × ℕ × ℕ) → p ≡ parts (letter_field key s at) 0 → 0 < length key → p.2 ≤ length s
  letter_inside p q some = by (letter_field key s at) refl q
    where
      by : (n : Option (ℕ × ℕ)) → letter_field key s at ≡ n → p ≡ parts n 0 → p.2 ≤ length s
      by (Some (v, e)) f r =
          let found = (letter_field_sound key s at v e f).0 in
          rw r (omega (arith, found.end, length-append key (v ∷ []), simp (length-append, length-drop) at (ap length found.text)))
      by None f r = rw r (omega arith)

  pub integer_parts : (p : Bool × ℤ × ℕ) → p ≡ parts (integer_field key s at) (pos 0) → SFits w32 p.1 × (p.2 ≤ length s)
  integer_parts p q = by (integer_field key s at) refl q
    where
      by : (n : Option (ℤ × ℕ)) → integer_field key s at ≡ n → p ≡ parts n (pos 0) → SFits w32 p.1 × (p.2 ≤ length s)
      by (Some (v, e)) f r = rw r ((integer_field_sound key s at v e f).1, integer_field_within key s at v e f)
      by None f r = rw r (search rules, omega arith)
