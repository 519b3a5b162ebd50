-- Refusals 7 to 14 from the two halves of their tests: the first half decides where a test of it fails; where none does, the second half
-- decides, in which no test of a step can fail.
use Prim.Native.Nat.{ℕ, ◌≤◌}
use mathlib.Core.Path.{◌≡◌, refl, sym, ◌∙◌}
use mathlib.Core.Bool.{true, false, not, ◌&&◌, true≢false}
use mathlib.Core.List.{List, ◌++◌}
use lib.Dec.{leb}
use native.Mathlib.Omega.{arith}
use Rattle.answer.specs.declared.Refusal.{Refusal}
use Rattle.answer.specs.Refusals.{number}
use Rattle.clock.specs.declared.ArrivalTick.{ArrivalTick}
use Rattle.settings.specs.declared.Settings.{Settings}
use Rattle.journal.specs.declared.Call.{Call}
use Rattle.store.specs.Lists.{all_of}
use Rattle.protocol.specs.Kinds.{Kind, uses, is_step}
use Rattle.protocol.specs.Node.{Line}
use Rattle.protocol.specs.Refusals.{Test, first_failed, wrong_line, wrong_id, too_early, is_held_back, is_full, call_tests, line_tests}
use Rattle.protocol.proofs.FirstFailed.{numbered, fails_with, none_failed, passes_each, failed_before, passed_before}
use Rattle.protocol.proofs.Faults.{line_iff}

-- ---- the first half

-- a line's number is right for a kind that names one
right_line :
    (s : Settings) (line : ℕ) (kind : Kind) → is_step kind ≡ false → wrong_line s kind line ≡ false →
    not (leb 1 line && leb line s.lines) ≡ false
unfolding wrong_line
right_line s line kind other right = rw other at right

module _ (s : Settings) (clock : ArrivalTick) (k : Call) (kind : Kind) where
  call_numbered : numbered (call_tests s clock k kind) ≡ true
  unfolding call_tests numbered all_of
  call_numbered = refl

  -- a call that passes it and is no step names a line
  pub names_line : first_failed (call_tests s clock k kind) ≡ 0 → is_step kind ≡ false → (1 ≤ k.line) × (k.line ≤ s.lines)
  unfolding call_tests fails_with
  names_line none other =
      (line_iff s k.line).0 (right_line s k.line kind other (passes_each (call_tests s clock k kind) call_numbered none 8))

-- ---- both

-- no refusal has the number of an accepted call
refused_some : (refusal : Refusal) → number refusal ≡ 0 → ⊥
refused_some = grind arith

-- no test of a step's line can fail
pub step_passes : (l : Line) (k : Call) (kind : Kind) → is_step kind ≡ true → first_failed (line_tests l k kind) ≡ 0
unfolding is_step uses first_failed line_tests wrong_id too_early is_held_back is_full
step_passes l k Kind.S h = absurd (true≢false (sym h))
step_passes l k Kind.T h = absurd (true≢false (sym h))
step_passes l k Kind.B h = absurd (true≢false (sym h))
step_passes l k Kind.U h = absurd (true≢false (sym h))
step_passes l k Kind.R h = absurd (true≢false (sym h))
step_passes l k Kind.P h = refl

module _ (s : Settings) (clock : ArrivalTick) (l : Line) (k : Call) (kind : Kind) where
  abbrev first : List Test
  first = call_tests s clock k kind

  pub answer_early : (refusal : Refusal) → number refusal ≡ first_failed first → number refusal ≡ first_failed (first ++ line_tests l k kind)
  answer_early refusal e = e ∙ sym (failed_before first (line_tests l k kind) (λ none. refused_some refusal (e ∙ none)))

  pub answer_late : first_failed first ≡ 0 → first_failed (line_tests l k kind) ≡ first_failed (first ++ line_tests l k kind)
  answer_late h = sym (passed_before first (line_tests l k kind) (none_failed first (call_numbered s clock k kind) h))
