-- A whole line of the buffer: it is the next text, unless a write for its reply failed, or the end of a line to pass over.
use mathlib.Core.Path.{◌≡◌, refl, sym, ap, subst, ◌∙◌}
use mathlib.Core.Bool.{Bool, true, false}
use mathlib.Core.List.{List, [], ◌++◌}
use mathlib.Core.Logic.{inl, inr, ⊎_elim}
use Prim.Native.Nat.{ℕ, ◌+◌, ◌-◌, ◌<◌, ◌≤◌}
use native.Mathlib.Omega.{arith}
use lib.Dec.{eqb}
use lib.ListN.{length, get_or, take, drop}
use lib.Seq.{take_all, get_or-take, get_or-drop}
use Rattle.fields.specs.Line.{next_line, holds_line}
use Rattle.fields.specs.Field.{ends_line}
use Rattle.fields.proofs.Lines.{line_within}
use Rattle.playback_reply.specs.Reply.{longest_reply}
use Rattle.store.proofs.Choices.{not_both}
use Rattle.playback_cursor.specs.declared.Cursor.{Cursor}
use Rattle.playback_cursor.specs.Cut.{behind_line, past, part, unread, text_at, replied, all_read, Stands, failed, Fetched}
use Rattle.playback_cursor.specs.Step.{Roomy, Advanced}
use Rattle.playback_cursor.proofs.WholeLines.{held_at, held_append, whole_append, behind_whole}
use Rattle.playback_cursor.proofs.Cuts.{second_part, part_split, length_part}
use Rattle.playback_cursor.proofs.Past.{past_over}
use Rattle.playback_cursor.proofs.Refills.{ended_lies}

-- ---- what is cut, over plain lists

line_text : (p : Bool) (u more : List ℕ) (size : ℕ) → p ≡ false → holds_line u ≡ true → length u ≤ size
    → next_line u ≡ take size (next_line (past p (u ++ more)))
unfolding past
line_text true u more size e h w = not_both refl e
line_text false u more size e h w = rw (whole_append u more h) (sym (take_all size (next_line u) (omega (arith, line_within u))))

line_rest : (p : Bool) (u more : List ℕ) → p ≡ false → holds_line u ≡ true
    → past false (behind_line u ++ more) ≡ behind_line (past p (u ++ more))
unfolding past
line_rest true u more e h = not_both refl e
line_rest false u more e h = sym (behind_whole u more h)

-- ---- the step

module _ (c : Cursor) (buf : List ℕ) (stands : Stands buf c) where
  -- where no whole line is left, what is unread holds none
  pub none_whole : c.at ≡ c.whole → holds_line (unread buf c) ≡ false
  none_whole e = ap (λ (i : ℕ). holds_line (part buf i c.have)) e ∙ stands.4

  module _ (some : c.at < c.whole) where
    -- up to `whole` the first line is whole: so is that of all that is unread, and it is the same one
    lines_held : holds_line (part buf c.at c.whole) ≡ true
    unfolding ends_line
    lines_held =
        let i : ℕ = c.whole - 1 - c.at in
        let place : c.at + i ≡ c.whole - 1 = omega (arith, some) in
        held_at (part buf c.at c.whole) i
        (omega (arith, some, length_part c.at c.whole buf stands.0 (omega (arith, stands.1, stands.2))))
        (ap (λ (b : ℕ). eqb b 10)
        (get_or-take (c.whole - c.at) (drop c.at buf) i 0 (omega (arith, some))
        ∙ get_or-drop c.at buf i 0
        ∙ ap (λ (n : ℕ). get_or buf n 0) place)
        ∙ stands.3 some)

    split : unread buf c ≡ part buf c.at c.whole ++ part buf c.whole c.have
    split = part_split buf c.at c.whole c.have stands.0 stands.1

    whole_held : holds_line (unread buf c) ≡ true
    whole_held = ap holds_line split ∙ held_append (part buf c.at c.whole) (part buf c.whole c.have) lines_held

    text_next : text_at buf c ≡ next_line (unread buf c)
    text_next =
        sym (ap next_line split ∙ whole_append (part buf c.at c.whole) (part buf c.whole c.have) lines_held)

    module _ (n : ℕ) (e : n ≡ length (text_at buf c)) where
      pub text_inside : c.at + n ≤ c.whole
      text_inside =
          omega (
            arith,
            e,
            stands.0,
            line_within (part buf c.at c.whole),
            length_part c.at c.whole buf stands.0 (omega (arith, stands.1, stands.2)),
          )

      stands_behind : Stands buf (replied c n 0)
      stands_behind = (text_inside, stands.1, stands.2, λ k. stands.3 some, stands.4)

      text_left : part buf (c.at + n) c.have ≡ behind_line (unread buf c)
      unfolding behind_line
      text_left =
          second_part buf c.at c.have n (omega (arith, text_inside, stands.1))
          ∙ ap (λ (i : ℕ). drop i (unread buf c)) (e ∙ ap length text_next)

    -- it is the next text, where its reply has room
    pub line_found : (opened : Bool) (room left : ℕ) → Roomy c.used room left → c.passing ≡ false
        → Advanced opened c buf
        (record {
          at = c.at;
          whole = c.whole;
          have = c.have;
          used = left;
          plays = true;
          passing = false;
          last = false;
        })
        buf room
    line_found opened room left w p =
        let size = length_part c.at c.have buf (omega (arith, stands.0, stands.1)) stands.2 in
        let text : List ℕ = text_at buf c in
        record {
          found = λ _.
              record {
                lies = (stands_behind (length text) refl, w.fits);
                fresh = [];
                played = λ q more _. (
                  text_next ∙ line_text c.passing (unread buf c) more (length buf) p whole_held (omega (arith, size, stands.2)),
                  ap (λ (s : List ℕ). past false (s ++ more)) (text_left (length text) refl)
                      ∙ line_rest c.passing (unread buf c) more p whole_held,
                );
                ended = λ q f. not_both f refl;
                unplayed = λ q. not_both refl q;
                written = ⊎_elim (λ z. inl z) (λ z. inr (z, refl, refl)) w.written;
                held = λ _. (
                  refl,
                  refl,
                  λ enough. (refl, w.unwritten enough),
                );
              };
          further = not_both refl;
        }

    -- a write for its reply failed
    pub line_lost : (opened : Bool) (room : ℕ) {r : Cursor} → r ≡ all_read 0 false false true → longest_reply ≤ room
        → room < c.used + longest_reply → Advanced opened c buf r buf room
    line_lost opened room made fits full =
        subst (λ (r : Cursor). Advanced opened c buf r buf room) (sym made)
        (record {
          found = λ _.
              record {
                lies = ended_lies buf room fits;
                fresh = [];
                played = λ e. not_both e refl;
                ended = λ e. not_both e refl;
                unplayed = λ _. (refl, failed (omega (arith, full, fits)));
                written = inl refl;
                held = λ _. (refl, refl, λ enough. absurd (omega (arith, full, enough)));
              };
          further = not_both refl;
        })

    -- so it is at once where its reply has room
    pub line_here : (room : ℕ) → c.passing ≡ false → c.last ≡ false → c.used + longest_reply ≤ room
        → Fetched true c buf
        (record {
          at = c.at;
          whole = c.whole;
          have = c.have;
          used = c.used;
          plays = true;
          passing = c.passing;
          last = c.last;
        })
        buf room
    line_here room p l fits =
        let here : Bool → Bool → Cursor = λ passing last.
        record {
          at = c.at;
          whole = c.whole;
          have = c.have;
          used = c.used;
          plays = true;
          passing = passing;
          last = last;
        } in
        let roomy : Roomy c.used room c.used = record { fits = fits; written = inr refl; unwritten = λ _. refl } in
        subst (λ (b : Bool). Fetched true c buf (here b c.last) buf room) (sym p)
        (subst (λ (b : Bool). Fetched true c buf (here false b) buf room) (sym l)
        ((line_found true room _ roomy p).found refl))

    -- or the end of a line to pass over
    pub line_passed : (opened : Bool) (room n : ℕ) → n ≡ length (text_at buf c) → (c.used ≤ room) × (longest_reply ≤ room)
        → c.passing ≡ true
        → Advanced opened c buf
        (record {
          at = c.at + n;
          whole = c.whole;
          have = c.have;
          used = c.used;
          plays = false;
          passing = false;
          last = false;
        })
        buf room
    line_passed opened room n e fits p =
        record {
          found = λ t. not_both t refl;
          further = λ _. (
            record {
              ready = (stands_behind n e, fits.0, fits.1);
              fresh = [];
              kept = λ more.
                  ap (λ (b : Bool). past b (unread buf c ++ more)) p
                  ∙ past_over (unread buf c) more whole_held
                  ∙ ap (λ (s : List ℕ). past false (s ++ more)) (sym (text_left n e));
              stays = λ b. not_both b refl;
              written = inr (refl, refl, refl);
              held = λ _. (refl, refl, λ _. refl);
            },
            rw p (omega arith),
          );
        }
