-- The ways out of a refill, where no line of the buffer is whole.
use mathlib.Core.Path.{◌≡◌, refl, sym, ap, subst, ◌∙◌}
use mathlib.Core.Bool.{Bool, true, false, cond, not, ◌&&◌, ◌||◌, or-true}
use mathlib.Core.List.{List, [], ◌∷◌, ◌++◌}
use mathlib.Core.Logic.{inl}
use Prim.Native.Nat.{ℕ, ◌+◌, ◌-◌, ◌<◌, ◌≤◌}
use native.Mathlib.Omega.{arith}
use native.Mathlib.Nat.{sub-zero}
use borrow.Author.Tests.{ltb-false, eqb-true}
use lib.Dec.{ltb, eqb}
use lib.ListN.{length, take, drop, length-drop}
use lib.Seq.{length-take-le, take_all, take-append_seam}
use Rattle.fields.specs.Line.{next_line, holds_line}
use Rattle.store.proofs.Choices.{not_both}
use Rattle.fields.proofs.Lines.{part_append, part_line}
use Rattle.playback_cursor.specs.declared.Cursor.{Cursor}
use Rattle.playback_reply.specs.Reply.{longest_reply}
use Rattle.playback_cursor.specs.Cut.{behind_line, past, part, unread, all_read, Ready, Lies, failed, over}
use Rattle.playback_cursor.specs.Step.{LinesEnd, Advanced}
use Rattle.playback_cursor.proofs.WholeLines.{none_behind, behind_part, behind_none}
use Rattle.playback_cursor.proofs.Cuts.{read_behind, length_part, part_whole}
use Rattle.playback_cursor.proofs.Past.{past_read, past_end, past_part, plays_unpassing}

-- ---- what is cut, over plain lists

full_text : (p : Bool) (u l more : List ℕ) → p ≡ false → u ≡ l → holds_line u ≡ false → l ≡ take (length l) (next_line (past p (u ++ more)))
unfolding past
full_text true u l more e s h = not_both refl e
full_text false u l more e s h = rw (part_append u more h, s) (sym (take-append_seam l (next_line more)))

full_rest : (p : Bool) (u more : List ℕ) → p ≡ false → holds_line u ≡ false → past true more ≡ behind_line (past p (u ++ more))
unfolding past
full_rest true u more e h = not_both refl e
full_rest false u more e h = sym (behind_part u more h)

module _ (p : Bool) (u more : List ℕ) (h : holds_line u ≡ false) (m : more ≡ []) where
  ended_all : p ≡ false → u ≡ past p (u ++ more)
  ended_all e = ap (λ (q : Bool). cond q [] u) (sym e) ∙ sym (past_end p u h) ∙ ap (λ (t : List ℕ). past p (u ++ t)) (sym m)

  ended_text : (size : ℕ) → p ≡ false → length u ≤ size → cond p [] u ≡ take size (next_line (past p (u ++ more)))
  ended_text size e w =
      ap (λ (q : Bool). cond q [] u) e
      ∙ sym (take_all size u w)
      ∙ ap (take size) (sym (part_line u h))
      ∙ ap (λ (s : List ℕ). take size (next_line s)) (ended_all e)

  ended_rest : p ≡ false → past false more ≡ behind_line (past p (u ++ more))
  unfolding past
  ended_rest e = m ∙ sym (behind_none u h) ∙ ap behind_line (ended_all e)

none_empty : (u : List ℕ) → length u ≡ 0 → u ≡ []
none_empty [] e = refl
none_empty (b ∷ u) e = absurd (omega arith)

-- nothing is played at the end only where nothing is left, and the settings were played
ended_none : (p opened t : Bool) (u : List ℕ) → (p ≡ false → t ≡ false → length u ≡ 0) → not p && (t || not opened) ≡ false
    → (cond p [] u ≡ []) × (opened || p ≡ true)
ended_none true true t u z e = (refl, refl)
ended_none true false t u z e = (refl, refl)
ended_none false opened true u z e = not_both refl e
ended_none false true false u z e = (none_empty u (z refl refl), refl)
ended_none false false false u z e = not_both refl e

-- a buffer is full where all of it is unread
full_known : (p : Bool) (left n size : ℕ) → left ≡ cond p 0 n → not p && eqb left size ≡ true → (p ≡ false) × (left ≡ size) × (n ≡ size)
full_known true left n size e t = not_both t refl
full_known false left n size e t = (refl, eqb-true left size t, sym e ∙ eqb-true left size t)

left_known : (p : Bool) (left n : ℕ) → left ≡ cond p 0 n → p ≡ false → left ≡ n
left_known p left n e q = e ∙ ap (λ (t : Bool). cond t 0 n) q

left_within : (p : Bool) (left n : ℕ) → left ≡ cond p 0 n → left ≤ n
left_within true left n e = omega arith
left_within false left n e = omega arith

-- ---- all that was read is one text

none_either : (p : Bool) (u : List ℕ) → holds_line u ≡ false → holds_line (cond p [] u) ≡ false
unfolding holds_line
none_either true u h = refl
none_either false u h = h

module _ (l : List ℕ) (end : ℕ) (within : end ≤ length l) (none : holds_line (take end l) ≡ false) where
  all_text : next_line (part l 0 end) ≡ take end l
  all_text = rw (sub-zero end) (part_line (take end l) none)

  all_length : length (next_line (part l 0 end)) ≡ end
  all_length = ap length all_text ∙ length-take-le end l within

  all_left : part l (0 + length (next_line (part l 0 end))) end ≡ []
  all_left =
      let n : ℕ = length (next_line (part l 0 end)) in
      let z : end - (0 + n) ≡ 0 = omega (arith, all_length) in
      ap (λ (i : ℕ). take i (drop (0 + n) l)) z

  all_lies : (room : ℕ) (plays passing last : Bool) → longest_reply ≤ room → Lies l room (all_read end plays passing last)
  all_lies room plays passing last fits = (
    (omega (arith, all_length), omega arith, within, λ k. absurd (omega (arith, k, all_length)), none_behind l end),
    omega (arith, fits),
  )

pub ended_lies : (l : List ℕ) (room : ℕ) → longest_reply ≤ room → Lies l room (all_read 0 false false true)
unfolding holds_line
ended_lies l room fits = all_lies l 0 (omega arith) refl room false false true fits

-- ---- the ways out

module _ (opened : Bool) (c : Cursor) (buf : List ℕ) (room : ℕ) (ready : Ready buf room c)
    (none : holds_line (unread buf c) ≡ false) where
  -- a write failed
  pub refill_failed : {r : Cursor} → r ≡ all_read 0 false false true → 0 < c.used → Advanced opened c buf r buf room
  refill_failed made h =
      subst (λ (r : Cursor). Advanced opened c buf r buf room) (sym made)
      (record {
        found = λ _.
            record {
              lies = ended_lies buf room ready.2;
              fresh = [];
              played = λ e. not_both e refl;
              ended = λ e. not_both e refl;
              unplayed = λ _. (refl, failed h);
              written = inl refl;
              held = λ w. not_both w (past_part c.passing (unread buf c) none);
            };
        further = not_both refl;
      })

  inside : c.at ≤ c.have
  inside = omega (arith, ready.0.0, ready.0.1)

  module _ (left : ℕ) (l : left ≡ cond c.passing 0 (c.have - c.at)) where
    -- what is unread fills the buffer
    pub refill_full : {r : Cursor} → r ≡ all_read left true true false → not c.passing && eqb left (length buf) ≡ true
        → Advanced opened c buf r buf room
    refill_full made t =
        let k = full_known c.passing left (c.have - c.at) (length buf) l t in
        let u : unread buf c ≡ buf = part_whole c.at c.have buf inside ready.0.2 k.2 in
        let all : take left buf ≡ buf = take_all left buf (omega (arith, k.1)) in
        let within : left ≤ length buf = omega (arith, k.1) in
        let bare : holds_line (take left buf) ≡ false = ap holds_line (all ∙ sym u) ∙ none in
        subst (λ (r : Cursor). Advanced opened c buf r buf room) (sym made)
        (record {
          found = λ _.
              record {
                lies = all_lies buf left within bare room true true false ready.2;
                fresh = [];
                played = λ _ more _. (
                  all_text buf left within bare ∙ all ∙ full_text c.passing (unread buf c) buf more k.0 u none,
                  ap (λ (s : List ℕ). past true (s ++ more)) (all_left buf left within bare)
                      ∙ full_rest c.passing (unread buf c) more k.0 none,
                );
                ended = λ _ e. not_both e refl;
                unplayed = not_both refl;
                written = inl refl;
                held = λ w. not_both w (past_part c.passing (unread buf c) none);
              };
          further = not_both refl;
        })

    module _ (after : List ℕ) (same : length after ≡ length buf) (front : take left after ≡ cond c.passing [] (unread buf c)) where
      -- the input is over
      pub refill_ended : {r : Cursor} → r ≡ all_read left (not c.passing && (ltb 0 left || not opened)) false true
          → Advanced opened c buf r after room
      refill_ended made =
          let n = length_part c.at c.have buf inside ready.0.2 in
          let short : length (unread buf c) ≤ length buf = omega (arith, n, ready.0.2) in
          let within : left ≤ length after =
          omega (arith, left_within c.passing left (c.have - c.at) l, ready.0.2, same) in
          let bare : holds_line (take left after) ≡ false = ap holds_line front ∙ none_either c.passing (unread buf c) none in
          subst (λ (r : Cursor). Advanced opened c buf r after room) (sym made)
          (record {
            found = λ _.
                record {
                  lies = all_lies after left within bare room (not c.passing && (ltb 0 left || not opened)) false true ready.2;
                  fresh = [];
                  played = λ e more nothing.
                      let p = plays_unpassing c.passing _ e in (
                        all_text after left within bare
                            ∙ front
                            ∙ ended_text c.passing (unread buf c) more none (nothing refl) (length buf) p short,
                        ap (λ (s : List ℕ). past false (s ++ more)) (all_left after left within bare)
                            ∙ ended_rest c.passing (unread buf c) more none (nothing refl) p,
                      );
                  ended = λ _ _. past_part c.passing (unread buf c) none;
                  unplayed = λ e.
                      let k =
                      ended_none c.passing opened (ltb 0 left) (unread buf c)
                      (λ q t. omega (arith, n, left_known c.passing left (c.have - c.at) l q, ltb-false 0 left t)) e in
                      (refl, over (past_end c.passing (unread buf c) none ∙ k.0) k.1);
                  written = inl refl;
                  held = λ h. not_both h (past_part c.passing (unread buf c) none);
                };
            further = not_both (or-true (not c.passing && (ltb 0 left || not opened)));
          })

      -- the read brought bytes
      pub refill_more : (got whole : ℕ) → 0 < got → left + got ≤ length after → LinesEnd after (left + got) whole
          → Advanced opened c buf
          (record { at = 0; whole = whole; have = left + got; used = 0; plays = false; passing = c.passing; last = false })
          after room
      refill_more got whole some within lines =
          let fresh : List ℕ = take got (drop left after) in
          record {
            found = λ e. not_both e refl;
            further = λ _. (
              record {
                ready = ((omega arith, lines.within, within, lines.ends, lines.none), omega arith, ready.2);
                fresh = fresh;
                kept = λ more.
                    past_read c.passing (unread buf c) fresh more none
                    ∙ ap (λ (s : List ℕ). past c.passing (s ++ more))
                    (sym (read_behind left got after (cond c.passing [] (unread buf c)) front));
                stays = λ e. e;
                written = inl refl;
                held = λ h. not_both h (past_part c.passing (unread buf c) none);
              },
              omega (arith, some, within, length-take-le got (drop left after) (omega (arith, within, length-drop left after))),
            );
          }
