-- How long replies are: the answer line by the digits of its two numbers and the longest word, a whole reply by 65 texts of records behind it.
-- A line of each bound is there.
use mathlib.Core.Path.{◌≡◌, refl}
use mathlib.Core.Bool.{Bool, true, false, cond}
use mathlib.Core.List.{List, [], ◌∷◌, ◌++◌}
use Prim.Native.Nat.{ℕ, ◌+◌, ◌≤◌, ◌<◌, ◌^◌}
use native.Mathlib.Omega.{arith}
use lib.Dec.{eqb}
use lib.IntN.{pos}
use lib.ListN.{length, length-append}
use Rattle.decimal.specs.Decimal.{digits_within, digits, decimal}
use Rattle.decimal.proofs.Digits.{digits_short}
use Rattle.decimal.proofs.Decimals.{unsigned32_short}
use Rattle.endian.proofs.LittleEndian.{AreBytes}
use Rattle.protocol.specs.declared.Phase.{Phase}
use Rattle.node.specs.Sizes.{records_per_call}
use Rattle.fields.specs.Line.{field, line_of}
use Rattle.playback_reply.specs.Sizes.{longest_answer, longest_reply}
use Rattle.playback_reply.specs.Reply.{phase_word, word_of, answer_line, reply_lines}
use Rattle.playback_reply.specs.Parts.{answer_field, records_field, state_field}
use Rattle.playback_reply.proofs.Records.{record_lines_short}

phase_short : (phase : Phase) → length (phase_word phase) ≤ 10
unfolding phase_word
phase_short Phase.Stable = omega arith
phase_short Phase.Failure = omega arith
phase_short Phase.Correcting = omega arith

word_short : (lines : ℕ) (phase : Phase) → length (word_of lines phase) ≤ 10
unfolding word_of
word_short lines phase =
    elim (eqb lines 0) as (λ (b : Bool). length (cond b (110 ∷ 111 ∷ 110 ∷ 101 ∷ []) (phase_word phase)) ≤ 10) [
      | true ↦ omega arith
      | false ↦ phase_short phase
    ]

pub state_short : (lines : ℕ) (phase : Phase) → length (state_field lines phase) ≤ 18
unfolding state_field
state_short lines phase = simp length-append (omega (arith, word_short lines phase))

module _ (answer records lines : ℕ) (phase : Phase) where
  -- the line is its parts, one behind the other
  pub answer_parts : answer_line answer records lines phase ≡ answer_field answer ++ (records_field records ++ state_field lines phase)
  unfolding answer_line line_of field state_field
  answer_parts = refl

  -- numbers of so many digits
  answer_digits : (k m : ℕ) → length (decimal (pos answer)) ≤ k → length (decimal (pos records)) ≤ m → length (answer_line answer records lines phase) ≤ 34 + k + m
  answer_digits k m p q = rw answer_parts (simp length-append (omega (arith, state_short lines phase)))

  -- numbers of 32 bits
  pub answer_short : answer < 2 ^ 32 → records < 2 ^ 32 → length (answer_line answer records lines phase) ≤ longest_answer
  answer_short p q = answer_digits 10 10 (unsigned32_short answer p) (unsigned32_short records q)

  -- the numbers that a call answers
  pub answer_few : answer ≤ 20 → records ≤ records_per_call → length (answer_line answer records lines phase) ≤ 38
  unfolding decimal
  answer_few p q =
      answer_digits 2 2 (digits_short 2 answer (omega arith) (omega arith) (omega arith)) (digits_short 2 records (omega arith) (omega arith) (omega arith))

pub answer_longest : length (answer_line 4294967295 4294967295 1 Phase.Correcting) ≡ longest_answer
unfolding answer_line line_of field word_of phase_word decimal digits digits_within
answer_longest = refl

pub answer_longest_few : length (answer_line 17 records_per_call 1 Phase.Correcting) ≡ 38
unfolding answer_line line_of field word_of phase_word decimal digits digits_within
answer_longest_few = refl

pub longest_reply_number : longest_reply ≡ 8049
longest_reply_number = refl

pub reply_short :
    (answer records lines : ℕ) (phase : Phase) (area : List ℕ) → answer < 2 ^ 32 → records ≤ records_per_call → AreBytes area →
    length (reply_lines answer records lines phase area) ≤ longest_reply
unfolding reply_lines
reply_short answer records lines phase area a n h =
    simp length-append
    (omega (arith, answer_short answer records lines phase a (omega arith), record_lines_short records area h))
