-- Ids near the newest stable one: all of them, exactly if the greatest is not above it and the least not more than 512 below it.
use Prim.Native.Nat.{ℕ, ◌+◌, ◌-◌, ◌≤◌, ◌<◌, min}
use mathlib.Core.Path.{◌≡◌, refl, sym, ◌∙◌, ap}
use mathlib.Core.Bool.{Bool, true, false, ◌&&◌, and-true, and-false}
use mathlib.Core.List.{List, [], ◌∷◌}
use native.Mathlib.Omega.{arith}
use borrow.Author.Tests.{le-leb, lt-leb}
use lib.Dec.{leb}
use lib.ListN.{length}
use Rattle.store.specs.Lists.{all_of}
use Rattle.store.proofs.Choices.{and_parts}
use Rattle.retransmission.specs.Sizes.{held_results}
use Rattle.protocol.specs.Displays.{least_of}
use Rattle.protocol.proofs.Tests.{leb_min}
use Rattle.node.specs.Shape.{display_ok}
use Rattle.node.proofs.Shape.{DisplayShape, display_shape}
use Rattle.call_acknowledgements.specs.SpanOf.{greatest_of}
use Rattle.call_acknowledgements.proofs.Highest.{all_at_most}

and_crossed : (a b c d : Bool) → (a && b) && (c && d) ≡ (a && c) && (b && d)
and_crossed true true c d = refl
and_crossed true false c d = sym (and-false c)
and_crossed false b c d = refl

-- the two sides of the test, each for all ids at once
near_sides :
    (newest : ℕ) (ids : List ℕ) → 0 < length ids →
    all_of (display_ok newest) ids ≡ all_of (λ (id : ℕ). leb id newest) ids && leb newest (least_of ids + held_results)
unfolding all_of least_of display_ok
near_sides newest [] l = absurd (omega arith)
near_sides newest (a ∷ []) l =
    and-true (leb a newest && leb newest (a + held_results)) ∙
    ap (λ (b : Bool). b && leb newest (a + held_results)) (sym (and-true (leb a newest)))
near_sides newest (a ∷ b ∷ ids) l =
    let rest = least_of (b ∷ ids) in
    let own = leb a newest && leb newest (a + held_results) in
    let lower : min (a + held_results) (rest + held_results) ≡ min a rest + held_results = omega arith in
    ap (◌&&◌ own) (near_sides newest (b ∷ ids) (omega arith)) ∙
    and_crossed (leb a newest) (leb newest (a + held_results)) (all_of (λ (id : ℕ). leb id newest) (b ∷ ids))
    (leb newest (rest + held_results)) ∙
    ap (◌&&◌ (leb a newest && all_of (λ (id : ℕ). leb id newest) (b ∷ ids)))
    (sym (leb_min newest (a + held_results) (rest + held_results)) ∙ ap (leb newest) lower)

-- the same by the least and the greatest id
module _ (newest : ℕ) (ids : List ℕ) (some : 0 < length ids) where
  sides : all_of (display_ok newest) ids ≡ leb (greatest_of ids) newest && leb newest (least_of ids + held_results)
  sides = near_sides newest ids some ∙ ap (λ (b : Bool). b && leb newest (least_of ids + held_results)) (all_at_most newest ids)

  pub ahead_fails : newest < greatest_of ids → all_of (display_ok newest) ids ≡ false
  ahead_fails h = sides ∙ rw (lt-leb (greatest_of ids) newest h)

  pub far_fails : greatest_of ids ≤ newest → held_results < newest - least_of ids → all_of (display_ok newest) ids ≡ false
  far_fails known h = sides ∙ rw (le-leb (greatest_of ids) newest known, lt-leb newest (least_of ids + held_results) (omega arith))

  pub near_passes : greatest_of ids ≤ newest → newest - least_of ids ≤ held_results → all_of (display_ok newest) ids ≡ true
  near_passes known near = sides ∙ rw (le-leb (greatest_of ids) newest known, le-leb newest (least_of ids + held_results) (omega arith))

pub least_below_greatest : (ids : List ℕ) → 0 < length ids → least_of ids ≤ greatest_of ids
unfolding least_of greatest_of
least_below_greatest [] l = absurd (omega arith)
least_below_greatest (a ∷ []) l = omega arith
least_below_greatest (a ∷ b ∷ ids) l = omega arith

-- where all are near, so is the least of them
pub least_near : (newest : ℕ) (ids : List ℕ) → 0 < length ids → all_of (display_ok newest) ids ≡ true → DisplayShape newest (least_of ids)
unfolding all_of least_of
least_near newest [] l e = absurd (omega arith)
least_near newest (a ∷ []) l e = display_shape newest a (and_parts (display_ok newest a) true e).0
least_near newest (a ∷ b ∷ ids) l e =
    let parts = and_parts (display_ok newest a) (all_of (display_ok newest) (b ∷ ids)) e in
    let own = display_shape newest a parts.0 in
    let rest = least_near newest (b ∷ ids) (omega arith) parts.1 in
    record { known = omega (arith, own.known); near = omega (arith, own.near, rest.near) }
