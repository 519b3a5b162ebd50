-- The journal line: its text, and that a text is read exactly (document 01, sections 'Clocks, lines and readings' and 'Refusal by whom').
use Rattle.std.specs.Prelude.{◌≡◌, ℕ, ◌<◌, ◌^◌, Bool, true, List, [], ◌∷◌, eqb, pos, Option, Some, None}
use Rattle.std.specs.Int.{w32}
use Rattle.std.proofs.Common.{SFits}
use Rattle.answer.specs.Numbers as Answer
use Rattle.decimal.specs.Decimal.{decimal}
use Rattle.fields.specs.Line.{field, line_of}
use Rattle.fields.specs.Keys.{now_key, line_key, kind_key, id_key, time_key, meter_key, value_key}
use Rattle.journal.specs.Kinds.{is_letter}
use Rattle.journal.specs.ReadLine.{call_of}
use Rattle.journal.specs.declared.Call.{Call}

-- the line of a call
unfoldable pub line_text : Call → List ℕ
line_text c =
    line_of
    (field now_key (decimal (pos c.now.0)) ∷
    field line_key (decimal (pos c.line)) ∷
    field kind_key (c.kind ∷ []) ∷
    field id_key (decimal (pos c.id)) ∷
    field time_key (decimal (pos c.time.0)) ∷
    field meter_key (decimal (pos c.meter)) ∷
    field value_key (decimal c.value) ∷ [])

-- every field inside its range
pub record CallFits (c : Call) : Type 0 where
  pub now : c.now.0 < 2 ^ 32
  pub line : c.line < 256
  pub kind : is_letter c.kind ≡ true
  pub id : c.id < 2 ^ 32
  pub time : c.time.0 < 2 ^ 32
  pub meter : c.meter < 256
  pub value : SFits w32 c.value

-- document 01's number of the answer
unfoldable pub call_answer : Option Call → ℕ
call_answer (Some c) = Answer.accepted
call_answer None = Answer.malformed

-- whether a text has the form
unfoldable pub has_form : List ℕ → Bool
has_form text = eqb (call_answer (call_of text)) 0

-- an answer is exact: a text that is the line of a call is read as that call, and every other text gets 6
pub record ExactCall (text : List ℕ) (answer : Option Call) : Type 0 where
  pub line : (c : Call) → CallFits c → text ≡ line_text c → answer ≡ Some c
  pub only : (call_answer answer ≡ Answer.malformed → ⊥) → (c : Call) × CallFits c × (text ≡ line_text c)
