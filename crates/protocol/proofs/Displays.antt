-- What is held for the displays stays within the places: a step adds no more results than there are free ones (15), and an acknowledgement
-- raises its display's id, not past the newest stable one (17).
use Prim.Native.Nat.{ℕ, zero, suc, ◌+◌, ◌-◌, ◌≤◌, ◌<◌, min}
use mathlib.Core.Path.{◌≡◌, refl}
use mathlib.Core.Bool.{Bool, true, false, cond, ◌&&◌, ◌||◌, true≢false}
use mathlib.Core.List.{List, [], ◌∷◌}
use native.Mathlib.Omega.{arith}
use native.Mathlib.Nat.{le_refl}
use lib.Dec.{leb, ltb, eqb}
use lib.ListN.{length, get_or, set}
use borrow.Author.Tests.{ltb-false, leb-true, leb-false, eqb-true, not-false, le-leb, lt-leb, le-ltb}
use Rattle.clock.specs.declared.ArrivalTick.{ArrivalTick}
use Rattle.settings.specs.declared.Settings.{Settings}
use Rattle.journal.specs.declared.Call.{Call}
use Rattle.journal.specs.Kinds.{letter_s}
use Rattle.store.specs.Lists.{Every, all_of}
use Rattle.store.specs.Order.{in_bucket}
use Rattle.store.proofs.Choices.{and_parts}
use Rattle.store.proofs.Pairs.{every_to, every_set}
use Rattle.retransmission.specs.Sizes.{held_results}
use Rattle.operator.proofs.Closing.{work_number}
use Rattle.protocol.specs.Kinds.{Kind, kind_of, uses, is_step}
use Rattle.protocol.specs.Node.{Node, is_stable_bucket, kept_of}
use Rattle.protocol.specs.declared.Rule.{Rule}
use Rattle.protocol.specs.declared.Rule.TheVariants as Rule
use Rattle.protocol.specs.Rules.{is_correcting, some_overdue, rule_of, worked, act}
use Rattle.protocol.specs.Tests.{first_failed}
use Rattle.protocol.specs.Refusals.{answer_to}
use Rattle.protocol.specs.Displays.{least_of, given_up_to, free_places, lacks_places, wrong_display, last_of, wrong_acknowledgement, wrong_fetch, answer_to_acknowledgement, answer_to_fetch, acknowledging}
use Rattle.protocol.specs.Calls.{input, done, accepted, outcome_of, acknowledged_after, acknowledged_by}
use Rattle.protocol.proofs.Rules.{rule_cases}
use Rattle.protocol.proofs.Passed.{passed}
use Rattle.protocol.proofs.FirstFailed.{numbered, fails_with, passes_each}

-- ---- the least of some ids

least_of_lem : (a : ℕ) (ids : List ℕ) → 0 < length ids → least_of (a ∷ ids) ≡ min a (least_of ids)
unfolding least_of
least_of_lem a [] h = absurd (omega arith)
least_of_lem a (b ∷ ids) h = refl

length_set_cons : (b : ℕ) (ids : List ℕ) (i id : ℕ) → 0 < length (set (b ∷ ids) i id)
length_set_cons b ids zero id = omega arith
length_set_cons b ids (suc i) id = omega arith

-- an id that is raised does not lower it
pub least_raised : (ids : List ℕ) (i id : ℕ) → get_or ids i 0 ≤ id → least_of ids ≤ least_of (set ids i id)
unfolding least_of
least_raised [] i id h = le_refl _
least_raised (a ∷ []) zero id h = h
least_raised (a ∷ []) (suc i) id h = le_refl _
least_raised (a ∷ b ∷ ids) zero id h = omega arith
least_raised (a ∷ b ∷ ids) (suc i) id h =
    omega (arith, least_raised (b ∷ ids) i id h, least_of_lem a (set (b ∷ ids) i id) (length_set_cons b ids i id))

pub least_below : (newest : ℕ) (ids : List ℕ) → Every (λ (a : ℕ). a ≤ newest) ids → least_of ids ≤ newest
unfolding least_of
least_below newest [] h = omega arith
least_below newest (a ∷ []) h = h.0
least_below newest (a ∷ b ∷ ids) h = omega (arith, h.0)

-- it is below each
pub least_each : (ids : List ℕ) → Every (λ (a : ℕ). least_of ids ≤ a) ids
unfolding least_of
least_each [] = tt
least_each (a ∷ []) = (le_refl _, tt)
least_each (a ∷ b ∷ ids) =
    let rest : Every (λ (x : ℕ). least_of (b ∷ ids) ≤ x) (b ∷ ids) = least_each (b ∷ ids) in
    (omega arith, every_to (b ∷ ids) (λ x (h : least_of (b ∷ ids) ≤ x). let g : min a (least_of (b ∷ ids)) ≤ x = omega arith in g) rest)

-- ---- what is held

-- no display is ahead of the newest stable id, and no more results are held than there are places
pub record HeldFor (newest : ℕ) (ids : List ℕ) : Type 0 where
  pub below : Every (λ (a : ℕ). a ≤ newest) ids
  pub few : newest ≤ least_of ids + held_results

abbrev pub HeldIn : Node → Type 0
HeldIn n = HeldFor n.checkpoint.number n.acknowledged

module _ (s : Settings) (n : Node) (order : n.c ≤ n.p) (level : n.p ≡ n.c → n.operator.number ≡ n.checkpoint.number) (v : HeldIn n) where
  stable_held : n.p ≡ n.c → lacks_places s n Rule.WorkStable ≡ false → HeldIn (act s n Rule.WorkStable).node
  unfolding act lacks_places free_places given_up_to worked
  stable_held q e =
      let count : (worked s letter_s n.c n).operator.number ≡ n.operator.number + length (worked s letter_s n.c n).records =
      work_number s letter_s n.c (in_bucket s.bucket n.c (kept_of n.lines)) n.operator in
      let same : n.operator.number ≡ n.checkpoint.number = level q in
      let room : length (worked s letter_s n.c n).records ≤ held_results - (n.checkpoint.number - least_of n.acknowledged) =
      omega (arith, ltb-false, leb-false) in
      let low : least_of n.acknowledged ≤ n.checkpoint.number = least_below n.checkpoint.number n.acknowledged v.below in
      record {
        below = every_to n.acknowledged (λ a (h : a ≤ n.checkpoint.number). let g : a ≤ (worked s letter_s n.c n).operator.number = omega (arith, count, same) in g) v.below;
        few = omega (arith, count, same, room, low, v.few);
      }

  withdraw_held : HeldIn (act s n Rule.Withdraw).node
  unfolding act
  withdraw_held = v

  end_held : HeldIn (act s n Rule.EndCorrection).node
  unfolding act
  end_held = v

  tentative_held : HeldIn (act s n Rule.WorkTentative).node
  unfolding act
  tentative_held = v

  idle_held : HeldIn (act s n Rule.Idle).node
  unfolding act
  idle_held = v

  step_held : (now : ArrivalTick) → lacks_places s n (rule_of s n now) ≡ false → HeldIn (act s n (rule_of s n now)).node
  unfolding rule_of
  step_held now =
      rule_cases (is_stable_bucket s n.c n.lines) (ltb n.c n.p) (is_correcting n.phase) (some_overdue s n.p now n.lines)
      (λ (rule : Rule). lacks_places s n rule ≡ false → HeldIn (act s n rule).node) (λ _ _ _. withdraw_held)
      (λ a b e. let h : n.p ≤ n.c = ltb-false _ _ b in stable_held (omega (arith, order)) e)
      (λ _ _ _. end_held) (λ _ _ _ _. tentative_held) (λ _ _ _. idle_held)

  done_held : (k : Call) (kind : Kind) → is_step kind && lacks_places s n (rule_of s n k.now) ≡ false → HeldIn (done s n k kind).node
  unfolding done is_step uses input
  done_held k Kind.S e = v
  done_held k Kind.T e = v
  done_held k Kind.B e = v
  done_held k Kind.U e = v
  done_held k Kind.R e = v
  done_held k Kind.P e = step_held k.now e

  -- a journal call
  pub outcome_held : (k : Call) → HeldIn (outcome_of s n k).node
  unfolding outcome_of accepted
  outcome_held k =
      (elim (eqb (answer_to s n k) 0) as
      (λ b.
      eqb (answer_to s n k) 0 ≡ b →
      HeldIn (cond b (accepted k.now (done s n k (kind_of k.kind))) (record { node = n; records = [] })).node) [
        | true ↦ λ e. done_held k (kind_of k.kind) (passed s n k (eqb-true _ _ e)).places
        | false ↦ λ e. v
      ])
      refl

-- ---- an acknowledgement

-- what an accepted one passed
pub record AcknowledgementFits (s : Settings) (n : Node) (display id : ℕ) : Type 0 where
  pub first : 1 ≤ display
  pub last : display ≤ s.displays
  pub raises : last_of n.acknowledged display ≤ id
  pub known : id ≤ n.checkpoint.number

pub neither : (a b : Bool) → a || b ≡ false → (a ≡ false) × (b ≡ false)
neither true b e = absurd (true≢false e)
neither false b e = (refl, e)

module _ (s : Settings) (n : Node) (display id : ℕ) where
  pub acknowledgement_fits : answer_to_acknowledgement s n display id ≡ 0 → AcknowledgementFits s n display id
  unfolding answer_to_acknowledgement wrong_display wrong_acknowledgement numbered fails_with all_of
  acknowledgement_fits e =
      let passes = passes_each _ refl e in
      let is = and_parts (leb 1 display) (leb display s.displays) (not-false _ (passes 16)) in
      let id_fits = neither (ltb id (last_of n.acknowledged display)) (ltb n.checkpoint.number id) (passes 17) in
      record {
        first = leb-true _ _ is.0;
        last = leb-true _ _ is.1;
        raises = ltb-false _ _ id_fits.0;
        known = ltb-false _ _ id_fits.1;
      }

  -- a claim of its own: one that is so is accepted
  pub acknowledgement_accepted : AcknowledgementFits s n display id → answer_to_acknowledgement s n display id ≡ 0
  unfolding answer_to_acknowledgement wrong_display wrong_acknowledgement first_failed
  acknowledgement_accepted v =
      rw (
        le-leb 1 display v.first,
        le-leb display s.displays v.last,
        le-ltb id (last_of n.acknowledged display) v.raises,
        le-ltb n.checkpoint.number id v.known,
      )

  -- what all have acknowledged does not fall
  pub acknowledged_raises : given_up_to n ≤ given_up_to (acknowledged_by s n display id)
  unfolding given_up_to acknowledged_by acknowledged_after acknowledging last_of
  acknowledged_raises =
      (elim (eqb (answer_to_acknowledgement s n display id) 0) as
      (λ b. eqb (answer_to_acknowledgement s n display id) 0 ≡ b → least_of n.acknowledged ≤ least_of (cond b (set n.acknowledged (display - 1) id) n.acknowledged)) [
        | true ↦ λ e. least_raised n.acknowledged (display - 1) id (acknowledgement_fits (eqb-true _ _ e)).raises
        | false ↦ λ e. le_refl _
      ])
      refl

  pub acknowledged_held : HeldIn n → HeldIn (acknowledged_by s n display id)
  unfolding acknowledged_by acknowledged_after acknowledging last_of
  acknowledged_held v =
      (elim (eqb (answer_to_acknowledgement s n display id) 0) as
      (λ b. eqb (answer_to_acknowledgement s n display id) 0 ≡ b → HeldFor n.checkpoint.number (cond b (set n.acknowledged (display - 1) id) n.acknowledged)) [
        | true ↦ λ e.
            let f = acknowledgement_fits (eqb-true _ _ e) in
            record {
              below = every_set (λ (a : ℕ). a ≤ n.checkpoint.number) n.acknowledged (display - 1) id f.known v.below;
              few = omega (arith, v.few, least_raised n.acknowledged (display - 1) id f.raises);
            }
        | false ↦ λ e. v
      ])
      refl

-- ---- a fetch

-- what an accepted one passed
pub record FetchFits (s : Settings) (n : Node) (display from : ℕ) : Type 0 where
  pub first : 1 ≤ display
  pub last : display ≤ s.displays
  pub held : given_up_to n < from
  pub near : from ≤ suc n.checkpoint.number

module _ (s : Settings) (n : Node) (display from : ℕ) where
  pub fetch_fits : answer_to_fetch s n display from ≡ 0 → FetchFits s n display from
  unfolding answer_to_fetch wrong_display wrong_fetch numbered fails_with all_of
  fetch_fits e =
      let passes = passes_each _ refl e in
      let is = and_parts (leb 1 display) (leb display s.displays) (not-false _ (passes 16)) in
      let inside = neither (leb from (given_up_to n)) (ltb (suc n.checkpoint.number) from) (passes 17) in
      record {
        first = leb-true _ _ is.0;
        last = leb-true _ _ is.1;
        held = leb-false _ _ inside.0;
        near = ltb-false _ _ inside.1;
      }

  -- a claim of its own, as for an acknowledgement
  pub fetch_accepted : FetchFits s n display from → answer_to_fetch s n display from ≡ 0
  unfolding answer_to_fetch wrong_display wrong_fetch first_failed
  fetch_accepted v =
      rw (
        le-leb 1 display v.first,
        le-leb display s.displays v.last,
        lt-leb from (given_up_to n) v.held,
        le-ltb (suc n.checkpoint.number) from v.near,
      )
