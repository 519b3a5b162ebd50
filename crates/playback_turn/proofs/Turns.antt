-- One turn put together from what its parts ensure.
use mathlib.Core.Path.{◌≡◌, ap, subst, ◌∙◌}
use mathlib.Core.List.{List, ◌++◌}
use Prim.Native.Nat.{ℕ, ◌+◌, ◌-◌}
use lib.ListN.{length, take, drop}
use borrow.Rule.Slice.PartMut.{put_mid}
use Rattle.area.proofs.Lent.{lent_in_front}
use Rattle.node.specs.Held.{Held}
use Rattle.node.specs.View.{Lent}
use Rattle.node.specs.Calls.{Called}
use Rattle.playback_reply.specs.Reply.{reply_text}
use Rattle.playback_cursor.specs.declared.Cursor.{Cursor}
use Rattle.playback_cursor.specs.Cut.{part, text_at, Followed}
use Rattle.playback_turn.specs.Replied.{Replied}
use Rattle.playback_turn.specs.Turn.{Turned}

-- the call f of a text was played, and the cursor went on behind its reply
pub turned :
    (f : List ℕ → Called) (c : Cursor) (buf out text : List ℕ) → text ≡ text_at buf c →
    (st : Held) (x : Lent) (bytes : List ℕ) (used : ℕ) (m : List ℕ) →
    Replied (f text) (part out c.used (length out)) st x bytes used m →
    length (put_mid c.used (length out - c.used) out m) ≡ length out →
    (next : Cursor) (after : List ℕ) →
    Followed c (length text) used buf next after (length (put_mid c.used (length out - c.used) out m)) →
    Turned (f (text_at buf c)) c buf out st next x bytes after (put_mid c.used (length out - c.used) out m)
turned f c buf out text t st x bytes used m e same next after followed =
    let size : used ≡ length (reply_text (f (text_at buf c))) = e.used_bytes ∙ ap (λ (l : List ℕ). length (reply_text (f l))) t in
    record {
      state = e.state ∙ ap (λ (l : List ℕ). (f l).state) t;
      lent = e.lent ∙ ap (λ (l : List ℕ). (f l).lent) t;
      area = e.area ∙ ap (λ (l : List ℕ). (f l).area) t;
      reply =
          ap (put_mid c.used (length out - c.used) out) e.text
          ∙ lent_in_front out (reply_text (f text)) c.used
          ∙ ap (λ (l : List ℕ). take c.used out ++ reply_text (f l) ++ drop (c.used + length (reply_text (f l))) out) t;
      onward =
          subst (λ (i : ℕ). Followed c i (length (reply_text (f (text_at buf c)))) buf next after (length out)) (ap length t)
          (subst (λ (i : ℕ). Followed c (length text) i buf next after (length out)) size
          (subst (λ (i : ℕ). Followed c (length text) used buf next after i) same followed));
    }
