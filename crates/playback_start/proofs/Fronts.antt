-- What is written over the front of the output lies within it, and the answer line of an opening is its text.
use mathlib.Core.Path.{◌≡◌, sym, ap, subst, ◌∙◌}
use mathlib.Core.List.{List}
use Prim.Native.Nat.{ℕ, ◌+◌, ◌-◌, ◌≤◌}
use native.Mathlib.Omega.{arith}
use lib.ListN.{length, drop, length-append}
use borrow.Rule.Slice.PartMut.{put_mid, same_len_mid}
use Rattle.area.specs.Laid.{in_front}
use Rattle.node.specs.Held.{Held}
use Rattle.node.specs.View.{Lent}
use Rattle.node.specs.Opening.{Opened}
use Rattle.playback_reply.specs.Reply.{answer_line, opening_text}
use Rattle.playback_reply.specs.Put.{PutInFront}
use Rattle.playback_cursor.specs.declared.Cursor.{Cursor}
use Rattle.playback_cursor.specs.Cut.{part, text_at, replied, Stands, Ready, Lies}
use Rattle.playback_cursor.proofs.Cuts.{part_used}
use Rattle.playback_start.specs.Answered.{Answered}

-- what is laid in front of an area that stays as long as it was is no longer than it
front_within : (t l : List ℕ) {used : ℕ} {m : List ℕ} → (used ≡ length t) × (m ≡ in_front t l) → length m ≡ length l → used ≤ length l
unfolding in_front
front_within t l h kept = omega (arith, h.0, ap length h.1, length-append t (drop (length t) l))

-- the cursor behind a text whose reply of `used` bytes was laid in front of the output's free part is one to go on from
pub ready_replied :
    (c : Cursor) (buf out text : List ℕ) → text ≡ text_at buf c → Lies buf (length out) c →
    (used : ℕ) (m reply : List ℕ) → used ≡ length reply → m ≡ in_front reply (part out c.used (length out)) →
    length m ≡ length (part out c.used (length out)) →
    Ready buf (length (put_mid c.used (length out - c.used) out m)) (replied c (length text) used)
ready_replied c buf out text e lies used m reply count laid kept =
    let same = same_len_mid c.used (length out - c.used) out m kept in
    let within : c.used + used ≤ length out =
    part_used out c.used used (omega (arith, lies.1)) (front_within reply _ (count, laid) kept) in (
      subst (λ (n : ℕ). Stands buf (replied c n used)) (sym (ap length e)) lies.0,
      omega (arith, same, within),
      omega (arith, same, lies.1),
    )

-- what an opening leaves, and its answer line laid down
pub opening_laid :
    (st : Held) (lent : Lent) (answer told : ℕ) {q : Opened} → told ≡ answer →
    record { answer = answer; state = st; lent = lent } ≡ q → (before last : List ℕ) (used : ℕ) →
    PutInFront before (answer_line told 0 st.settings.lines st.phase) used last → Answered q before st lent used last
unfolding opening_text
opening_laid st lent answer told is same before last used written =
    let laid_down = rw is at written in
    record {
      state = ap (λ (c : Opened). c.state) same;
      lent = ap (λ (c : Opened). c.lent) same;
      used_bytes = laid_down.0 ∙ ap (λ (c : Opened). length (opening_text c)) same;
      text = laid_down.1 ∙ ap (λ (c : Opened). in_front (opening_text c) before) same;
    }
