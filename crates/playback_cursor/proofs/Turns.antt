-- Steps of the search joined: what the first keeps the second finds. A search without an end has read more than the buffer holds, so it
-- passes a line over.
use mathlib.Core.Path.{◌≡◌, refl, sym, ap, ◌∙◌}
use mathlib.Core.Bool.{Bool, true, false, cond}
use mathlib.Core.List.{List, [], ◌++◌, append_assoc}
use mathlib.Core.Logic.{◌⊎◌, inl, inr, ⊎_elim}
use Prim.Native.Nat.{ℕ, ◌+◌, ◌<◌, ◌≤◌}
use native.Mathlib.Omega.{arith}
use lib.ListN.{length, take, length-append}
use Rattle.fields.specs.Line.{next_line, holds_line}
use Rattle.store.proofs.Choices.{not_both}
use Rattle.playback_cursor.specs.declared.Cursor.{Cursor}
use Rattle.playback_cursor.specs.Cut.{behind_line, past, unread, ahead, Ready, Unplayed, over, failed, endless, Fetched, all_read}
use Rattle.playback_cursor.specs.Step.{Further}
use Rattle.playback_cursor.proofs.WholeLines.{or_on}
use Rattle.playback_cursor.proofs.Cuts.{length_part}
use Rattle.playback_cursor.proofs.Past.{past_within}
use Rattle.playback_cursor.proofs.Refills.{ended_lies}

-- no step
further_none : (c : Cursor) (buf : List ℕ) (room : ℕ) → Ready buf room c → Further c buf c buf room
further_none c buf room ready =
    record {
      ready = ready;
      fresh = [];
      kept = λ more. refl;
      stays = λ e. e;
      written = inr (refl, refl, refl);
      held = λ _. (refl, refl, λ _. refl);
    }

module _ (c : Cursor) (buf : List ℕ) (room : ℕ) (d : Cursor) (mid : List ℕ) (f : Further c buf d mid room) where
  kept_on : (g more : List ℕ) → ahead buf c (f.fresh ++ g ++ more) ≡ ahead mid d (g ++ more)
  kept_on g more = ap (ahead buf c) (append_assoc f.fresh g more) ∙ f.kept (g ++ more)

  held_on : holds_line (ahead buf c []) ≡ true → holds_line (ahead mid d []) ≡ true
  held_on h = ap holds_line (sym (f.kept []) ∙ ap (λ (l : List ℕ). ahead buf c (l ++ [])) (f.held h).1) ∙ h

  written_on : (n : ℕ) (after g : List ℕ) → (n ≡ 0) ⊎ ((n ≡ d.used) × (after ≡ mid) × (g ≡ []))
      → (n ≡ 0) ⊎ ((n ≡ c.used) × (after ≡ buf) × (f.fresh ++ g ≡ []))
  written_on n after g =
      ⊎_elim (λ z. inl z)
      (λ w. ⊎_elim (λ z. inl (w.0 ∙ z)) (λ z. inr (w.0 ∙ z.0, w.1 ∙ z.1, ap (λ (l : List ℕ). l ++ g) z.2 ∙ w.2)) f.written)

  used_on : 0 < d.used → 0 < c.used
  used_on h = ⊎_elim (λ z. absurd (omega (arith, z))) (λ z. omega (arith, z.0)) f.written

  unplayed_on : {opened : Bool} {g : List ℕ} → Unplayed opened d mid g → Unplayed opened c buf (f.fresh ++ g)
  unplayed_on {opened} {g} (over e o) = over (f.kept g ∙ e) (or_on opened d.passing c.passing o f.stays)
  unplayed_on (failed h) = failed (used_on h)
  unplayed_on {g = g} (endless e n) = endless (f.stays e) (omega (arith, length-append f.fresh g))

  -- on to one more
  further_further : (r : Cursor) (after : List ℕ) → Further d mid r after room → Further c buf r after room
  further_further r after g =
      record {
        ready = g.ready;
        fresh = f.fresh ++ g.fresh;
        kept = λ more. kept_on g.fresh more ∙ g.kept more;
        stays = λ e. f.stays (g.stays e);
        written = written_on r.used after g.fresh g.written;
        held = λ h.
            let a = f.held h in
            let b = g.held (held_on h) in
            (b.0 ∙ a.0, ap (λ (l : List ℕ). l ++ g.fresh) a.1 ∙ b.1, λ w. b.2 (omega (arith, a.2 w)) ∙ a.2 w);
      }

  -- on to the text
  pub further_fetched : (opened : Bool) (r : Cursor) (after : List ℕ) → length mid ≡ length buf → Fetched opened d mid r after room
      → Fetched opened c buf r after room
  further_fetched opened r after same g =
      record {
        lies = g.lies;
        fresh = f.fresh ++ g.fresh;
        played = λ q more n.
            let w = g.played q more n in (
              w.0
                  ∙ ap (λ (i : ℕ). take i (next_line (ahead mid d (g.fresh ++ more)))) same
                  ∙ ap (λ (s : List ℕ). take (length buf) (next_line s)) (sym (kept_on g.fresh more)),
              w.1 ∙ ap behind_line (sym (kept_on g.fresh more)),
            );
        ended = λ q l. ap holds_line (f.kept g.fresh) ∙ g.ended q l;
        unplayed = λ q. ((g.unplayed q).0, unplayed_on (g.unplayed q).1);
        written = written_on r.used after g.fresh g.written;
        held = λ h.
            let a = f.held h in
            let b = g.held (held_on h) in (
              b.0 ∙ a.0,
              ap (λ (l : List ℕ). l ++ g.fresh) a.1 ∙ b.1,
              λ w. ((b.2 (omega (arith, a.2 w))).0, (b.2 (omega (arith, a.2 w))).1 ∙ a.2 w),
            );
      }

-- ---- the turns of a search

-- a search has come this far in so many turns: each turn but one brought a byte, and that one the end of a line to pass over
abbrev pub Searched : Cursor → List ℕ → Cursor → List ℕ → ℕ → ℕ → Type 0
Searched c buf d mid room turns =
    (f : Further c buf d mid room) × (turns + cond d.passing 1 0 ≤ length f.fresh + cond c.passing 1 0)

pub searched_none : (c : Cursor) (buf : List ℕ) (room : ℕ) → Ready buf room c → Searched c buf c buf room 0
unfolding further_none
searched_none c buf room ready = (further_none c buf room ready, omega arith)

pub searched_more : (c : Cursor) (buf : List ℕ) (room : ℕ) (d : Cursor) (mid : List ℕ) (turns : ℕ)
    → Searched c buf d mid room turns → (r : Cursor) (after : List ℕ) (g : Further d mid r after room) → cond r.passing 1 0 < length g.fresh + cond d.passing 1 0
    → Searched c buf r after room (turns + 1)
unfolding further_further
searched_more c buf room d mid turns w r after g n =
    (further_further c buf room d mid w.0 r after g, omega (arith, w.1, length-append w.0.fresh g.fresh))

-- ---- no turn left

must_pass : (p : Bool) (n : ℕ) → 18446744073709551615 ≤ n + cond p 1 0 → (p ≡ false → n < 18446744073709551615) → p ≡ true
must_pass true n h k = refl
must_pass false n h k = absurd (omega (arith, k refl))

many_read : (p : Bool) (n : ℕ) → 18446744073709551615 ≤ n + cond p 1 0 → 18446744073709551614 ≤ n
many_read true n h = omega arith
many_read false n h = omega arith

-- bytes behind a line that is not passed over are in the buffer
unpassed_within : (p : Bool) (u f : List ℕ) (m : ℕ) → p ≡ false → length (past p (u ++ (f ++ []))) ≤ m → length f ≤ m
unfolding past
unpassed_within true u f m e h = not_both refl e
unpassed_within false u f m e h = omega (arith, length-append u (f ++ []), length-append f [])

module _ (c : Cursor) (buf : List ℕ) (room : ℕ) (d : Cursor) (mid : List ℕ) (f : Further c buf d mid room) where
  pub further_endless : (opened : Bool) → 18446744073709551615 ≤ length f.fresh + cond c.passing 1 0
      → length mid < 9223372036854775808 → Fetched opened c buf (all_read 0 false false true) mid room
  further_endless opened long small =
      let stands = f.ready.0 in
      let n = length_part d.at d.have mid (omega (arith, stands.0, stands.1)) stands.2 in
      record {
        lies = ended_lies mid room f.ready.2;
        fresh = f.fresh;
        played = λ e. not_both e refl;
        ended = λ e. not_both e refl;
        unplayed = λ _. (
          refl,
          endless
              (must_pass c.passing (length f.fresh) long
              (λ e.
              omega (
                arith,
                unpassed_within c.passing (unread buf c) f.fresh (length mid) e
                    (omega (arith, ap length (f.kept []), past_within d.passing (unread mid d ++ []), length-append (unread mid d) [], n, stands.2)),
              )))
              (many_read c.passing (length f.fresh) long),
        );
        written = inl refl;
        held = λ h. absurd (omega (arith, ap length (f.held h).1, many_read c.passing (length f.fresh) long));
      }
