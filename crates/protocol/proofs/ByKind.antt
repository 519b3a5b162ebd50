-- Which refusals a call of each kind can get: the tests with other numbers pass whatever stands in it.
use Prim.Native.Nat.{ℕ}
use mathlib.Core.Path.{◌≡◌, refl, ◌∙◌, ap}
use mathlib.Core.Bool.{true}
use mathlib.Core.List.{List, [], ◌∷◌}
use lib.Dec.{eqb}
use Rattle.settings.specs.declared.Settings.{Settings}
use Rattle.journal.specs.declared.Call.{Call}
use Rattle.store.specs.Lists.{keep, some_of, all_of}
use Rattle.protocol.specs.Kinds.{Kind, kind_of, uses, is_step}
use Rattle.protocol.specs.Node.{Node}
use Rattle.protocol.specs.Tests.{Test, first_failed}
use Rattle.protocol.specs.Refusals.{unused_field, wrong_meter, wrong_id, too_early, is_held_back, is_full}
use Rattle.protocol.specs.Refusals.{call_tests, line_tests, step_tests, tests_of, answer_to}
use Rattle.protocol.proofs.FirstFailed.{numbered}

unfoldable pub refusals_of : Kind → List ℕ
refusals_of Kind.S = 7 ∷ 8 ∷ 10 ∷ 11 ∷ 12 ∷ 13 ∷ 14 ∷ []
refusals_of Kind.T = 7 ∷ 8 ∷ 10 ∷ 11 ∷ 12 ∷ 14 ∷ []
refusals_of Kind.B = 7 ∷ 8 ∷ 9 ∷ 12 ∷ 13 ∷ []
refusals_of Kind.U = 7 ∷ 8 ∷ 9 ∷ 11 ∷ []
refusals_of Kind.R = 7 ∷ 8 ∷ 9 ∷ 13 ∷ []
refusals_of Kind.P = 7 ∷ 8 ∷ 9 ∷ 15 ∷ []

module _ (s : Settings) (n : Node) (k : Call) where
  -- the tests with these numbers
  unfoldable pub tests_by_kind : Kind → List Test
  tests_by_kind kind = keep (λ (t : Test). some_of (eqb t.number) (refusals_of kind)) (tests_of s n k kind)

  pub kind_numbered : (kind : Kind) → numbered (tests_by_kind kind) ≡ true
  unfolding tests_by_kind refusals_of keep some_of tests_of call_tests line_tests step_tests numbered all_of
  kind_numbered Kind.S = refl
  kind_numbered Kind.T = refl
  kind_numbered Kind.B = refl
  kind_numbered Kind.U = refl
  kind_numbered Kind.R = refl
  kind_numbered Kind.P = refl

  first_of_kind : (kind : Kind) → first_failed (tests_of s n k kind) ≡ first_failed (tests_by_kind kind)
  unfolding tests_by_kind refusals_of keep some_of tests_of call_tests line_tests step_tests first_failed uses is_step unused_field wrong_meter wrong_id too_early is_held_back is_full
  first_of_kind Kind.S = refl
  first_of_kind Kind.T = refl
  first_of_kind Kind.B = refl
  first_of_kind Kind.U = refl
  first_of_kind Kind.R = refl
  first_of_kind Kind.P = refl

  pub answer_by_kind : (kind : Kind) → kind_of k.kind ≡ kind → answer_to s n k ≡ first_failed (tests_by_kind kind)
  unfolding answer_to
  answer_by_kind kind e = ap (λ (kind : Kind). first_failed (tests_of s n k kind)) e ∙ first_of_kind kind
