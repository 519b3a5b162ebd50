-- What an accepted call has passed: a fact for each refusal, taken from the list of tests by its number.
use mathlib.Core.Path.{◌≡◌, refl, subst}
use mathlib.Core.Bool.{true, false, ◌&&◌}
use lib.Dec.{ltb}
use Rattle.settings.specs.declared.Settings.{Settings}
use Rattle.journal.specs.declared.Call.{Call}
use Rattle.store.specs.Lists.{all_of}
use Rattle.protocol.specs.Kinds.{Kind, kind_of, is_step}
use Rattle.protocol.specs.Node.{Node}
use Rattle.protocol.specs.Tests.{first_failed}
use Rattle.protocol.specs.Refusals.{named_line, wrong_line, unused_field, wrong_meter, wrong_id, too_early, is_held_back, is_full}
use Rattle.protocol.specs.Refusals.{call_tests, line_tests, step_tests, tests_of, answer_to}
use Rattle.protocol.specs.Rules.{rule_of}
use Rattle.protocol.specs.Displays.{lacks_places}
use Rattle.protocol.proofs.FirstFailed.{numbered, fails_with, passes_each}

pub tests_numbered : (s : Settings) (n : Node) (k : Call) (kind : Kind) → numbered (tests_of s n k kind) ≡ true
unfolding tests_of call_tests line_tests step_tests numbered all_of
tests_numbered s n k kind = refl

-- refusals 7 to 15 did not come
pub record Passed (s : Settings) (n : Node) (k : Call) (kind : Kind) : Type 0 where
  pub on_time : ltb k.now.0 n.clock.0 ≡ false
  pub line : wrong_line s kind k.line ≡ false
  pub fields : unused_field k kind ≡ false
  pub meter : wrong_meter k.meter kind ≡ false
  pub id : wrong_id (named_line n k) k.id kind ≡ false
  pub time : too_early (named_line n k) k.time.0 kind ≡ false
  pub free : is_held_back (named_line n k) kind ≡ false
  pub room : is_full (named_line n k) kind ≡ false
  pub places : is_step kind && lacks_places s n (rule_of s n k.now) ≡ false

module _ (s : Settings) (n : Node) (k : Call) where
  pub passed_as : (kind : Kind) → kind_of k.kind ≡ kind → answer_to s n k ≡ 0 → Passed s n k kind
  unfolding answer_to tests_of call_tests line_tests step_tests fails_with
  passed_as kind q e =
      let none : first_failed (tests_of s n k kind) ≡ 0 = subst (λ (kind : Kind). first_failed (tests_of s n k kind) ≡ 0) q e in
      let passes = passes_each (tests_of s n k kind) (tests_numbered s n k kind) none in
      record {
        on_time = passes 7;
        line = passes 8;
        fields = passes 9;
        meter = passes 10;
        id = passes 11;
        time = passes 12;
        free = passes 13;
        room = passes 14;
        places = passes 15;
      }

  pub passed : answer_to s n k ≡ 0 → Passed s n k (kind_of k.kind)
  passed = passed_as (kind_of k.kind) refl

  -- a claim of its own: a call that passes them all is accepted
  pub accepted_if_passed : Passed s n k (kind_of k.kind) → answer_to s n k ≡ 0
  unfolding answer_to tests_of call_tests line_tests step_tests first_failed
  accepted_if_passed p =
      rw (p.on_time, p.line, p.fields, p.meter, p.id, p.time, p.free, p.room, p.places)
