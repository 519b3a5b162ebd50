-- A reply written over the output: the answer line in front, and behind it the records' texts, are the reply in front. By the law on joined
-- runs.
use mathlib.Core.Path.{◌≡◌, sym, ap, ◌∙◌}
use mathlib.Core.List.{List, ◌++◌}
use Prim.Native.Nat.{ℕ, ◌+◌, ◌≤◌, ◌<◌, ◌^◌}
use native.Mathlib.Omega.{arith}
use native.Mathlib.Nat.{zero-add}
use lib.ListN.{length, length-append}
use Rattle.area.specs.Laid.{laid, in_front}
use Rattle.area.proofs.Laid.{laid_laid, laid_front, laid_three, length_three}
use Rattle.decimal.proofs.Decimals.{unsigned32_short}
use Rattle.endian.proofs.LittleEndian.{AreBytes}
use Rattle.protocol.specs.declared.Phase.{Phase}
use Rattle.node.specs.Sizes.{records_per_call}
use Rattle.playback_reply.specs.Sizes.{longest_answer, longest_reply}
use Rattle.playback_reply.specs.Parts.{answer_field, records_field, state_field}
use Rattle.playback_reply.specs.Reply.{answer_line, record_lines, reply_lines}
use Rattle.playback_reply.proofs.Longest.{state_short, answer_parts, answer_short, reply_short}

-- bytes laid down behind a new front
front_laid : (l a b : List ℕ) → length (a ++ b) ≤ length l → laid (in_front a l) (length a) b ≡ in_front (a ++ b) l
front_laid l a b h =
    let long : length a ≤ length l = omega (arith, length-append a b) in
    ap (λ (m : List ℕ). laid m (length a) b) (sym (laid_front l a long)) ∙
    laid_laid l 0 (length a) a b (sym (zero-add (length a))) ∙ laid_front l (a ++ b) h

-- the answer line by its three parts, each laid down behind the one before
pub answer_laid :
    (answer records lines : ℕ) (phase : Phase) (out : List ℕ) (e f : ℕ) → answer < 2 ^ 32 → records < 2 ^ 32 → longest_answer ≤ length out →
    e ≡ length (answer_field answer) → f ≡ e + length (records_field records) →
    laid (laid (laid out 0 (answer_field answer)) e (records_field records)) f (state_field lines phase) ≡
    in_front (answer_line answer records lines phase) out
answer_laid answer records lines phase out e f small few room p q =
    let short = answer_short answer records lines phase small few in
    let parts = answer_parts answer records lines phase in
    laid_three out 0 (answer_field answer) (records_field records) (state_field lines phase) e f (omega arith) q ∙
    ap (laid out 0) (sym parts) ∙ laid_front out (answer_line answer records lines phase) (omega arith)

pub answer_length :
    (answer records lines : ℕ) (phase : Phase) →
    length (answer_line answer records lines phase) ≡
    length (answer_field answer) + (length (records_field records) + length (state_field lines phase))
answer_length answer records lines phase =
    rw (answer_parts answer records lines phase) (length_three (answer_field answer) (records_field records) (state_field lines phase))

module _ (answer records lines : ℕ) (phase : Phase) (area out : List ℕ) where
  abbrev line : List ℕ
  line = answer_line answer records lines phase

  abbrev texts : List ℕ
  texts = record_lines records area

  pub reply_length : length (reply_lines answer records lines phase area) ≡ length line + length texts
  unfolding reply_lines
  reply_length = length-append line texts

  -- the whole reply by the answer line and the texts behind it
  pub reply_laid :
      (at : ℕ) → answer < 2 ^ 32 → records ≤ records_per_call → AreBytes area → longest_reply ≤ length out → at ≡ length line →
      laid (in_front line out) at texts ≡ in_front (reply_lines answer records lines phase area) out
  unfolding reply_lines
  reply_laid at bound few bytes room e =
      let short = reply_short answer records lines phase area bound few bytes in
      ap (λ (k : ℕ). laid (in_front line out) k texts) e ∙ front_laid out line texts (omega (arith, short))

-- for the writers of the state, of the answer line and of the whole reply
pub ruleset states = (laid_three, length-append)

pub ruleset answers = (unsigned32_short, state_short, answer_length, answer_laid)

pub ruleset replies = (answer_short, reply_length, reply_laid)
