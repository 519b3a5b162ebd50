-- Refusals 7 to 15, in order (document 01, section 'Refusal by whom'; document 02, W2).
use Rattle.std.specs.Prelude.{ℕ, ◌+◌, ◌-◌, Bool, false, cond, not, ◌&&◌, ◌||◌}
use Rattle.std.specs.Prelude.{List, [], ◌∷◌, ◌++◌, leb, ltb, eqb, ℤ, pos, negsuc, length, get_or}
use Rattle.answer.specs.Numbers as Answer
use Rattle.clock.specs.declared.ArrivalTick.{ArrivalTick}
use Rattle.settings.specs.declared.Settings.{Settings}
use Rattle.journal.specs.declared.Call.{Call}
use Rattle.store.specs.Sizes.{readings_per_line}
use Rattle.operator.specs.Meters.{meter_count}
use Rattle.protocol.specs.Kinds.{Kind, kind_of, uses, is_step}
use Rattle.protocol.specs.Node.{Line, Node, no_line, keeps_tentative}
use Rattle.protocol.specs.Rules.{rule_of}
pub use Rattle.protocol.specs.Tests.{Test}
unfoldable pub use Rattle.protocol.specs.Tests.{first_failed}
use Rattle.protocol.specs.Displays.{lacks_places}

-- the line that a call names
unfoldable pub named_line : Node → Call → Line
named_line n k = get_or n.lines (k.line - 1) no_line

-- 8: no line of that number; a step names none
unfoldable pub wrong_line : Settings → Kind → ℕ → Bool
wrong_line s kind line = cond (is_step kind) (not (eqb line 0)) (not (leb 1 line && leb line s.lines))

unfoldable pub is_zero : ℤ → Bool
is_zero (pos n) = eqb n 0
is_zero (negsuc n) = false

-- 9: something stands in a field that the kind has no use for
unfoldable pub unused_field : Call → Kind → Bool
unused_field k kind =
    not
    (((uses kind).id || eqb k.id 0) &&
    (((uses kind).time || eqb k.time.0 0) && ((uses kind).value || (eqb k.meter 0 && is_zero k.value))))

-- 10: meter past the last one, for the kinds that use it
unfoldable pub wrong_meter : ℕ → Kind → Bool
wrong_meter meter kind = (uses kind).value && leb meter_count meter

-- 11: a reading must have the next id, an undo one that can still be undone to
unfoldable pub wrong_id : Line → ℕ → Kind → Bool
wrong_id l id Kind.S = not (eqb id (l.last_id + 1))
wrong_id l id Kind.T = not (eqb id (l.last_id + 1))
wrong_id l id Kind.B = false
wrong_id l id Kind.U = not (leb l.last_stable_id id && leb id l.last_id)
wrong_id l id Kind.R = false
wrong_id l id Kind.P = false

-- 12: earlier than the line's boundary allows
unfoldable pub too_early : Line → ℕ → Kind → Bool
too_early l time kind = (uses kind).time && ltb time l.boundary.0

-- 13: tentative readings must be undone first
unfoldable pub is_held_back : Line → Kind → Bool
is_held_back l Kind.S = keeps_tentative l
is_held_back l Kind.T = false
is_held_back l Kind.B = keeps_tentative l
is_held_back l Kind.U = false
is_held_back l Kind.R = keeps_tentative l
is_held_back l Kind.P = false

-- 14: no place is left for a reading, which is what has a value
unfoldable pub is_full : Line → Kind → Bool
is_full l kind = (uses kind).value && leb readings_per_line (length l.kept)

-- the tests on a call of this kind alone
unfoldable pub call_tests : Settings → ArrivalTick → Call → Kind → List Test
call_tests s clock k kind =
    record { fails = ltb k.now.0 clock.0; number = Answer.earlier_call } ∷
    record { fails = wrong_line s kind k.line; number = Answer.wrong_line } ∷
    record { fails = unused_field k kind; number = Answer.unused_field } ∷
    record { fails = wrong_meter k.meter kind; number = Answer.wrong_meter } ∷ []

-- those on its line
unfoldable pub line_tests : Line → Call → Kind → List Test
line_tests l k kind =
    record { fails = wrong_id l k.id kind; number = Answer.wrong_id } ∷
    record { fails = too_early l k.time.0 kind; number = Answer.too_early } ∷
    record { fails = is_held_back l kind; number = Answer.held_back } ∷
    record { fails = is_full l kind; number = Answer.full_line } ∷ []

-- that on a step's rule
unfoldable pub step_tests : Settings → Node → ArrivalTick → Kind → List Test
step_tests s n now kind = record { fails = is_step kind && lacks_places s n (rule_of s n now); number = Answer.lacks_places } ∷ []

-- all of them, in their order
unfoldable pub tests_of : Settings → Node → Call → Kind → List Test
tests_of s n k kind = call_tests s n.clock k kind ++ (line_tests (named_line n k) k kind ++ step_tests s n k.now kind)

-- the answer to a call: 0 if it is accepted
unfoldable pub answer_to : Settings → Node → Call → ℕ
answer_to s n k = first_failed (tests_of s n k (kind_of k.kind))
