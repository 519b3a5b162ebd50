-- The answer to a call by refusals 7 to 14, and where none of them fits, by 15.
use mathlib.Core.Path.{◌≡◌, refl, sym, ◌∙◌, ap}
use mathlib.Core.Bool.{true, false, ◌&&◌}
use mathlib.Core.List.{List, ◌++◌, append_assoc}
use Rattle.settings.specs.declared.Settings.{Settings}
use Rattle.journal.specs.declared.Call.{Call}
use Rattle.store.specs.Lists.{all_of}
use Rattle.protocol.specs.Kinds.{Kind, kind_of, is_step}
use Rattle.protocol.specs.Node.{Node}
use Rattle.protocol.specs.Rules.{rule_of}
use Rattle.protocol.specs.Displays.{lacks_places}
use Rattle.protocol.specs.Refusals.{Test, first_failed, named_line, call_tests, line_tests, step_tests, tests_of, answer_to}
use Rattle.protocol.proofs.FirstFailed.{numbered, none_failed, failed_before, passed_before}

module _ (s : Settings) (n : Node) (k : Call) where
  abbrev kind : Kind
  kind = kind_of k.kind

  -- 7 to 14
  abbrev pub first_tests : List Test
  first_tests = call_tests s n.clock k kind ++ line_tests (named_line n k) k kind

  first_numbered : numbered first_tests ≡ true
  unfolding call_tests line_tests numbered all_of
  first_numbered = refl

  -- and 15 behind them
  in_order : answer_to s n k ≡ first_failed (first_tests ++ step_tests s n k.now kind)
  unfolding answer_to tests_of
  in_order =
      ap first_failed (sym (append_assoc (call_tests s n.clock k kind) (line_tests (named_line n k) k kind) (step_tests s n k.now kind)))

  pub answer_first : (first_failed first_tests ≡ 0 → ⊥) → first_failed first_tests ≡ answer_to s n k
  answer_first h = sym (in_order ∙ failed_before first_tests (step_tests s n k.now kind) h)

  module _ (none : first_failed first_tests ≡ 0) where
    left_to_step : answer_to s n k ≡ first_failed (step_tests s n k.now kind)
    left_to_step = in_order ∙ passed_before first_tests (step_tests s n k.now kind) (none_failed first_tests first_numbered none)

    pub answer_15 : is_step kind && lacks_places s n (rule_of s n k.now) ≡ true → 15 ≡ answer_to s n k
    unfolding step_tests first_failed
    answer_15 e = sym (left_to_step ∙ rw e)

    pub answer_0 : is_step kind && lacks_places s n (rule_of s n k.now) ≡ false → answer_to s n k ≡ 0
    unfolding step_tests first_failed
    answer_0 e = left_to_step ∙ rw e
