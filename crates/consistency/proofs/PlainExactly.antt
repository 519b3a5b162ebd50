-- The statement of document 02's W4 gives the plain table of specs/PlainExactly.antt; that the table gives the statement is in
-- StatedExactly, so that neither can be weakened without the other. Uses the two texts and no proof of either.
use Prim.Native.Nat.{ℕ, zero, suc, ◌≤◌, ◌<◌, min}
use mathlib.Core.Path.{◌≡◌, refl, sym, ◌∙◌, ap, subst}
use mathlib.Core.Bool.{true, false}
use mathlib.Core.Logic.Iff
use mathlib.Core.Logic.{◌↔◌, ⊎_elim}
use mathlib.Core.List.{List, [], ◌∷◌, ◌++◌, map}
use native.Mathlib.Omega.{arith}
use lib.ListN.{length, take, drop}
use Rattle.signed.proofs.Comparing.{lt_or_le}
use Rattle.store.specs.declared.Reading.{Reading}
use Rattle.store.proofs.Choices.{not_both}
use Rattle.store.specs.Sizes.{readings_per_line}
use Rattle.protocol.specs.declared.Phase.{Phase}
use Rattle.protocol.specs.Rules.{is_correcting}
use Rattle.protocol.specs.StepCount.{least_boundary_of, buckets_left}
use Rattle.node.specs.declared.LineHead.{LineHead}
use Rattle.node.specs.Held.{Held}
use Rattle.node.specs.View.{Lent, view_line, view_lines, view}
use Rattle.consistency.specs.Runs.{Box, Input, called, left, left_after}
use Rattle.consistency.specs.Demand.{opening, is_opened, Steps}
use Rattle.consistency.specs.Plain.{Run, settings_on, run_of, only_steps, accepted_of, left_on}
use Rattle.consistency.specs.Exactly.{left_in, Exactly}
use Rattle.consistency.specs.PlainExactly.{steps_in, state_after, lowest_of, left_by, PlainExactly}
use Rattle.consistency.proofs.Plain.{box_on, steps_are, handed_of, opened_left, opened_remaining}
use Rattle.consistency.proofs.PlainCount.{same_count}

-- ---- too few, and enough

in_correction : (phase : Phase) → (is_correcting phase ≡ false → ⊥) → phase ≡ Phase.Correcting
unfolding is_correcting
in_correction Phase.Stable h = absurd (h refl)
in_correction Phase.Failure h = absurd (h refl)
in_correction Phase.Correcting h = refl

not_in_correction : (phase : Phase) → (phase ≡ Phase.Correcting → ⊥) → is_correcting phase ≡ false
unfolding is_correcting
not_in_correction Phase.Stable h = refl
not_in_correction Phase.Failure h = refl
not_in_correction Phase.Correcting h = absurd (h refl)

correcting_word : (phase : Phase) → phase ≡ Phase.Correcting → is_correcting phase ≡ true
unfolding is_correcting
correcting_word phase e = ap is_correcting e

-- k buckets left and this state behind n steps, where so many were needed
module _ (k n needed : ℕ) (phase : Phase) where
  few : ((k ≡ 0) × (is_correcting phase ≡ false)) ↔ (needed ≤ n) → n < needed → k ≡ 0 → phase ≡ Phase.Correcting
  few exact h none = in_correction phase (λ off. let enough = exact.0 (none, off) in absurd (omega arith))

  enough : ((k ≡ 0) × (is_correcting phase ≡ false)) ↔ (needed ≤ n) → needed ≤ n → (k ≡ 0) × (phase ≡ Phase.Correcting → ⊥)
  enough exact h =
      let settled = exact.1 h in
      (settled.0, λ e. not_both (correcting_word phase e) settled.1)

  pub both :
      (n < needed → k ≡ 0 → phase ≡ Phase.Correcting) → (needed ≤ n → (k ≡ 0) × (phase ≡ Phase.Correcting → ⊥)) →
      ((k ≡ 0) × (is_correcting phase ≡ false)) ↔ (needed ≤ n)
  both f g = (
    λ settled. ⊎_elim (λ h. not_both (correcting_word phase (f h settled.0)) settled.1) (λ h. h) (lt_or_le n needed),
    λ h. let settled = g h in (settled.0, not_in_correction phase settled.1),
  )

-- ---- what is left

least_view :
    (n : ℕ) (hs : List LineHead) (rs : List Reading) →
    least_boundary_of (view_lines n hs rs) ≡ lowest_of (map (λ (h : LineHead). h.boundary.0) (take n hs))
unfolding view_lines view_line least_boundary_of lowest_of
least_view zero hs rs = refl
least_view (suc n) [] rs = refl
least_view (suc zero) (h ∷ hs) rs = refl
least_view (suc (suc n)) (h ∷ []) rs = refl
least_view (suc (suc n)) (h ∷ g ∷ hs) rs = ap (min h.boundary.0) (least_view (suc n) (g ∷ hs) (drop readings_per_line rs))

pub left_by_lem : (b : Box) → left_in b ≡ left_by b.state
unfolding left_in buckets_left left_by view
left_by_lem b = rw (least_view b.state.settings.lines b.state.heads _)

pub state_after_lem : (b : Box) (is : List Input) → (left_after b is).state ≡ state_after b.state b.lent is
unfolding left_after state_after left called
state_after_lem b [] = refl
state_after_lem b (Input.journal text area ∷ is) = state_after_lem (left b (Input.journal text area)) is
state_after_lem b (Input.acknowledge display id area ∷ is) = state_after_lem (left b (Input.acknowledge display id area)) is
state_after_lem b (Input.fetch display from area ∷ is) = state_after_lem (left b (Input.fetch display from area)) is

-- ---- the table

-- from any box on, in the table's words
module _ (e : Exactly) (st : Held) (x : Lent) (heads : length st.heads ≡ 8) (js : List Input) (only : only_steps st x js ≡ true) where
  anywhere :
      ((left_by (state_after st x js) ≡ 0) × (is_correcting (state_after st x js).phase ≡ false)) ↔
      (steps_in st.phase (left_by st) ≤ accepted_of st x js)
  anywhere =
      let b : Box = record { state = st; lent = x } in
      let steps = steps_are st x js only in
      rw (← left_by_lem b, ← (state_after_lem b js), ← (left_by_lem (left_after b js)))
      (Iff.trans (e.from_any_box b heads js (accepted_of st x js) steps) (same_count steps (left_in b)))

-- from an opening on
module _ (st : Held) (x : Lent) (text : List ℕ) (is js : List Input) where
  abbrev before : Run
  before = run_of st x text is

  abbrev behind : Run
  behind = run_of st x text (is ++ js)

  -- the plain form of the clause
  abbrev pub OpenedExactly : Type 0
  OpenedExactly =
      ((left_on (settings_on st x text) behind ≡ 0) × (is_correcting behind.state.phase ≡ false)) ↔
      (steps_in before.state.phase (left_on (settings_on st x text) before) ≤ accepted_of before.state before.lent js)

  opened_exactly : Exactly → is_opened (handed_of st x text) → only_steps before.state before.lent js ≡ true → OpenedExactly
  opened_exactly e o only =
      let steps = steps_are before.state before.lent js only in
      let b = opened_left st x text is in
      let z = opened_left st x text (is ++ js) in
      let exact =
      e.settles_exactly (handed_of st x text) o is js (accepted_of before.state before.lent js)
      (subst (λ (b : Box). Steps b (accepted_of before.state before.lent js) js) (sym b) steps) in
      Iff.trans (rw (opened_remaining st x text (is ++ js), opened_remaining st x text is, z, b) at exact)
      (same_count steps (left_on (settings_on st x text) before))

pub plain_exactly : Exactly → PlainExactly
unfolding is_opened opening
plain_exactly e =
    record {
      too_few = λ st x text o is js only. few _ _ _ _ (opened_exactly st x text is js e o only);
      enough = λ st x text o is js only. enough _ _ _ _ (opened_exactly st x text is js e o only);
      too_few_anywhere = λ st x heads js only. few _ _ _ _ (anywhere e st x heads js only);
      enough_anywhere = λ st x heads js only. enough _ _ _ _ (anywhere e st x heads js only);
      either_count = λ st x text o is.
          sym (left_by_lem (box_on (run_of st x text is))) ∙ ap left_in (sym (opened_left st x text is)) ∙
          e.left_alike (handed_of st x text) o is ∙ opened_remaining st x text is;
    }
