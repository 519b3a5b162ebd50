-- A playback's beginning put together from what its parts ensure: where nothing was read and nothing is to be written there is always a
-- first text, and its answer line stands at the front of the output.
use mathlib.Core.Path.{◌≡◌, refl, ap, subst, ◌∙◌}
use mathlib.Core.Bool.{true, false}
use mathlib.Core.List.{List, ◌++◌}
use mathlib.Core.Logic.{⊎_elim}
use Prim.Native.Nat.{ℕ, ◌+◌, ◌-◌, ◌≤◌}
use native.Mathlib.Omega.{arith}
use native.Mathlib.Nat.{zero-add}
use lib.Dec.{eqb}
use lib.ListN.{length, take, drop}
use borrow.Rule.Slice.PartMut.{put_mid}
use Rattle.fields.specs.Line.{holds_line}
use Rattle.area.specs.Laid.{in_front}
use Rattle.area.proofs.Lent.{lent_in_front}
use Rattle.store.proofs.Choices.{not_both, true_unless}
use Rattle.node.specs.declared.State.{State}
use Rattle.node.specs.Held.{Held, held}
use Rattle.node.specs.View.{Lent}
use Rattle.node.specs.Opening.{Opened, closed_state, opened_on}
use Rattle.playback_reply.specs.Reply.{opening_text, longest_reply}
use Rattle.playback_cursor.specs.declared.Cursor.{Cursor}
use Rattle.playback_cursor.specs.Cut.{part, text_at, all_read, Ready, Unplayed, over, failed, endless, Fetched, Followed}
use Rattle.playback_start.specs.Answered.{Answered}
use Rattle.playback_start.specs.Start.{last_if, Begun}

-- ---- the first text

-- where nothing is read yet one can go on
pub ready_begin : (buf : List ℕ) (room : ℕ) → longest_reply ≤ room → Ready buf room (all_read 0 false false false)
unfolding holds_line
ready_begin buf room fits = ((omega arith, omega arith, omega arith, λ h. absurd (omega (arith, h)), refl), omega arith, fits)

none_unplayed : {buf fresh : List ℕ} → Unplayed false (all_read 0 false false false) buf fresh → ⊥
none_unplayed (over e o) = not_both o refl
none_unplayed (failed h) = omega arith
none_unplayed (endless e n) = not_both e refl

module _ (buf : List ℕ) (first : Cursor) (read : List ℕ) (room : ℕ)
    (f : Fetched false (all_read 0 false false false) buf first read room) where
  first_plays : first.plays ≡ true
  first_plays = true_unless first.plays (λ e. none_unplayed (f.unplayed e).1)

  first_unused : first.used ≡ 0
  first_unused = ⊎_elim (λ z. z) (λ z. z.0) f.written

-- ---- the answer line

front_laid : (out bytes : List ℕ) (at : ℕ) → at ≡ 0 → take at out ++ bytes ++ drop (at + length bytes) out ≡ in_front bytes out
unfolding in_front
front_laid out bytes at e = rw (e, zero-add (length bytes))

-- ---- the whole

pub begun :
    (buf out : List ℕ) (x : Lent) (begin : Cursor) → begin ≡ all_read 0 false false false →
    (first : Cursor) (read : List ℕ) → Fetched false begin buf first read (length out) →
    (closed : Held) → closed ≡ closed_state →
    (text : List ℕ) → text ≡ text_at read first →
    (st : State) (y : Lent) (used : ℕ) (m : List ℕ) →
    Answered (opened_on closed x text) (part out first.used (length out)) (held st) y used m →
    length (put_mid first.used (length out - first.used) out m) ≡ length out →
    (next : Cursor) (after : List ℕ) →
    Followed (last_if (eqb st.settings.lines 0) first) (length text) used read next after
    (length (put_mid first.used (length out - first.used) out m)) →
    Begun buf out x (record { state = st; cursor = next }) after (put_mid first.used (length out - first.used) out m) y
begun buf out x begin b first read f closed z text t st y used m e same next after o =
    let found : Fetched false (all_read 0 false false false) buf first read (length out) =
    subst (λ (c : Cursor). Fetched false c buf first read (length out)) b f in
    let made : opened_on closed x text ≡ opened_on closed_state x (text_at read first) =
    ap (λ (s : Held). opened_on s x text) z ∙ ap (opened_on closed_state x) t in
    let size : used ≡ length (opening_text (opened_on closed_state x (text_at read first))) =
    e.used_bytes ∙ ap (λ (q : Opened). length (opening_text q)) made in
    let last : Cursor = last_if (eqb st.settings.lines 0) first in
    record {
      first = first;
      buffered = read;
      fetched = found;
      plays = first_plays buf first read (length out) found;
      state = e.state ∙ ap (λ (q : Opened). q.state) made;
      lent = e.lent ∙ ap (λ (q : Opened). q.lent) made;
      answer =
          ap (put_mid first.used (length out - first.used) out) e.text
          ∙ lent_in_front out (opening_text (opened_on closed x text)) first.used
          ∙ front_laid out (opening_text (opened_on closed x text)) first.used (first_unused buf first read (length out) found)
          ∙ ap (λ (q : Opened). in_front (opening_text q) out) made;
      onward =
          subst
          (λ (i : ℕ). Followed last i (length (opening_text (opened_on closed_state x (text_at read first)))) read next after (length out))
          (ap length t)
          (subst (λ (i : ℕ). Followed last (length text) i read next after (length out)) size
          (subst (λ (i : ℕ). Followed last (length text) used read next after i) same o));
    }
