-- The reader is exact: a text is read as a call exactly if it is the call's line, whole.
use mathlib.Core.Path.{◌≡◌, refl, sym, ap, subst, ◌∙◌}
use mathlib.Core.Bool.{true, false, cond, true≢false}
use mathlib.Core.List.{List, []}
use Prim.Native.Nat.{ℕ, ◌+◌, ◌-◌}
use native.Mathlib.Omega.{arith}
use borrow.Author.Tests.{eq-eqb, eqb-true}
use lib.Dec.{eqb}
use lib.ListN.{length}
use Rattle.std.specs.Prelude.{Option, Some, None}
use Rattle.fields.specs.Field.{ends_line}
use Rattle.fields.proofs.Spells.{spells_whole, whole_spelled}
use Rattle.fields.proofs.Fields.{line_ends}
use Rattle.journal.specs.JournalLine.{line_text, call_answer, CallFits, ExactCall}
use Rattle.journal.specs.ReadLine.{call_at, whole, call_of}
use Rattle.journal.specs.declared.Call.{Call}
use Rattle.journal.proofs.JournalLines.{call_sound, call_complete}

call_line : (text : List ℕ) (c : Call) → CallFits c → text ≡ line_text c → call_of text ≡ Some c
unfolding call_of whole
call_line text c fit p =
    let end : 0 + length (line_text c) ≡ length text = omega (arith, ap length p) in
    rw (call_complete text [] 0 c fit (whole_spelled text (line_text c) p), eq-eqb (0 + length (line_text c)) (length text) end)

call_only :
    (text : List ℕ) (answer : Option (Call × ℕ)) → call_at text 0 ≡ answer → (call_answer (whole text answer) ≡ 6 → ⊥) →
    (c : Call) × CallFits c × (text ≡ line_text c)
unfolding whole call_answer
call_only text (Some (c, e)) q n =
    let found = call_sound text 0 e c q in
    (elim (eqb e (length text)) as (λ t. eqb e (length text) ≡ t → (call_answer (cond t (Some c) None) ≡ 6 → ⊥) → (c : Call) × CallFits c × (text ≡ line_text c)) [
      | true ↦ λ t m. (c, found.1, spells_whole text (line_text c) e found.0 (eqb-true e (length text) t))
      | false ↦ λ t m. absurd (m refl)
    ]) refl n
call_only text None q n = absurd (n refl)

pub exact_call : (text : List ℕ) → ExactCall text (call_of text)
unfolding call_of
exact_call text = record { line = call_line text; only = call_only text (call_at text 0) refl }

accepted_six : (c : Call) → call_answer (Some c) ≡ 6 → ⊥
unfolding call_answer
accepted_six c e = omega (arith, e)

-- so a text that is read as a call is that call's line
pub accepted_line : (text : List ℕ) (c : Call) → call_of text ≡ Some c → CallFits c × (text ≡ line_text c)
accepted_line text c e =
    let found = (exact_call text).only (λ m. accepted_six c (sym (ap call_answer e) ∙ m)) in
    let q = (exact_call text).line found.0 found.1 found.2 in
    let same : found.0 ≡ c = cc in
    subst (λ (d : Call). CallFits d × (text ≡ line_text d)) same (found.1, found.2)

-- an answer that is the definition's is exact
pub exact : (text : List ℕ) (answer : Option Call) → answer ≡ call_of text → ExactCall text answer
exact text answer q = subst (ExactCall text) (sym q) (exact_call text)

-- a text that does not end with 0A is no journal line
module _ (text : List ℕ) (n : ends_line text (length text - 1) ≡ false) where
  no_text : (c : Call) × CallFits c × (text ≡ line_text c) → ⊥
  unfolding line_text
  no_text found =
      let ends : ends_line text (length text - 1) ≡ true = rw found.2 (line_ends _) in
      true≢false (sym ends ∙ n)

  only_malformed : (answer : Option Call) → ExactCall text answer → answer ≡ None
  only_malformed (Some c) exact = absurd (no_text (exact.only (accepted_six c)))
  only_malformed None exact = refl

  pub not_line : call_of text ≡ None
  not_line = only_malformed (call_of text) (exact_call text)
