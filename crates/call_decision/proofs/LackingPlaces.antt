-- Whether a step lacks places: no rule but the second can, and not even that one where as many places are free as there are meters, since
-- a window gives a result for each of them at most.
use Prim.Native.Nat.{ℕ, ◌-◌, ◌≤◌}
use mathlib.Core.Path.{◌≡◌, refl, sym, ◌∙◌, ap, ap₂}
use mathlib.Core.Bool.{Bool, true, false, ◌&&◌}
use native.Mathlib.Omega.{arith}
use borrow.Author.Tests.{le-ltb}
use lib.Dec.{ltb}
use lib.ListN.{length, take}
use lib.Seq.{length-take-le}
use Rattle.settings.specs.Limits.{max_displays}
use Rattle.clock.specs.declared.ArrivalTick.{ArrivalTick}
use Rattle.journal.specs.Kinds.{letter_s}
use Rattle.store.specs.Columns.{Columns}
use Rattle.retransmission.specs.Sizes.{held_results}
use Rattle.operator.specs.Meters.{meter_count}
use Rattle.protocol.specs.declared.Rule.{Rule}
use Rattle.protocol.specs.Rules.{rule_of, worked}
use Rattle.protocol.specs.Kinds.{Kind, is_step}
use Rattle.protocol.specs.Displays.{least_of, given_up_to, free_places, lacks_places}
use Rattle.node.specs.Held.{Held}
use Rattle.node.specs.View.{view}
use Rattle.node.specs.Shape.{state_in_shape, displays_ok}
use Rattle.node.proofs.Limits.{Limits, limits_hold}
use Rattle.node.proofs.Shape.{DisplayShape, state_facts}
use Rattle.call_acknowledgements.proofs.Near.{least_near}
use Rattle.step_work.proofs.Given.{few_results}

-- ---- what the displays have acknowledged, of a state in shape

pub record Acknowledged (st : Held) : Type 0 where
  pub room : st.settings.displays ≤ max_displays
  pub some : 1 ≤ length (take st.settings.displays st.acknowledged)
  pub known : least_of (take st.settings.displays st.acknowledged) ≤ st.checkpoint.number
  pub near : st.checkpoint.number - least_of (take st.settings.displays st.acknowledged) ≤ held_results

pub acknowledged :
    (st : Held) (x : Columns) → length st.acknowledged ≡ max_displays → state_in_shape st x ≡ true → displays_ok st ≡ true →
    Acknowledged st
unfolding displays_ok
acknowledged st x size shape displays =
    let ids = take st.settings.displays st.acknowledged in
    let limits : Limits st.settings = limits_hold st.settings (state_facts st x shape).limits in
    let some : 1 ≤ length ids =
    omega (arith, length-take-le st.settings.displays st.acknowledged (omega (arith, limits, size)), limits) in
    let near : DisplayShape st.checkpoint.number (least_of ids) = least_near st.checkpoint.number ids some displays in
    record { room = limits.displays; some = some; known = near.known; near = omega (arith, near.near) }

-- ---- the free places

-- as the code counts them
abbrev pub free_in : Held → ℕ
free_in st = held_results - (st.checkpoint.number - least_of (take st.settings.displays st.acknowledged))

module _ (st : Held) (x : Columns) where
  free_places_lem : free_places (view st x) ≡ free_in st
  unfolding free_places given_up_to view
  free_places_lem = refl

  pub room_left :
      length st.operator.meters ≡ meter_count → meter_count ≤ free_in st → (r : Rule) →
      lacks_places st.settings (view st x) r ≡ false
  unfolding lacks_places view
  room_left all room Rule.Withdraw = refl
  room_left all room Rule.WorkStable =
      le-ltb (free_places (view st x)) (length (worked st.settings letter_s st.c (view st x)).records)
      (omega (arith, few_results st x letter_s st.c all, free_places_lem, room))
  room_left all room Rule.EndCorrection = refl
  room_left all room Rule.WorkTentative = refl
  room_left all room Rule.Idle = refl

  -- a rule that is not the second
  pub other_rule : (r : Rule) → (r ≡ Rule.WorkStable → ⊥) → lacks_places st.settings (view st x) r ≡ false
  unfolding lacks_places
  other_rule Rule.Withdraw h = refl
  other_rule Rule.WorkStable h = absurd (h refl)
  other_rule Rule.EndCorrection h = refl
  other_rule Rule.WorkTentative h = refl
  other_rule Rule.Idle h = refl

  -- and the second
  pub stable_rule :
      (free results : ℕ) → free ≡ free_in st → results ≡ length (worked st.settings letter_s st.c (view st x)).records →
      lacks_places st.settings (view st x) Rule.WorkStable ≡ ltb free results
  unfolding lacks_places view
  stable_rule free results e f = rw (e, f, free_places_lem)

  -- a step lacks places as its rule does
  pub by_rule :
      (kind : Kind) (tick : ArrivalTick) (r : Rule) → is_step kind ≡ true → r ≡ rule_of st.settings (view st x) tick →
      (b : Bool) → lacks_places st.settings (view st x) r ≡ b →
      b ≡ is_step kind && lacks_places st.settings (view st x) (rule_of st.settings (view st x) tick)
  by_rule kind tick r step e b lacks = sym (ap₂ ◌&&◌ step (ap (lacks_places st.settings (view st x)) (sym e) ∙ lacks))
