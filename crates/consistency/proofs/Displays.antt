-- What a display's call leaves, on any box: of the state all but the displays' last ids, and the store of readings; a fetch leaves the
-- whole box.
use Prim.Native.Nat.{ℕ}
use mathlib.Core.Path.{◌≡◌, refl, ap}
use mathlib.Core.Bool.{true, false}
use mathlib.Core.List.{List}
use borrow.Author.Tests.{eqb-true, eqb-false}
use lib.Dec.{eqb}
use Rattle.node.specs.Held.{Held}
use Rattle.node.specs.View.{Lent, with_acknowledged}
use Rattle.node.specs.Calls.{Called}
use Rattle.node.specs.Displays.{acknowledged_on}
use Rattle.node.proofs.Displays.{refused_acknowledgement, accepted_acknowledgement, fetch_leaves}
use Rattle.consistency.specs.Runs.{Box, Input, called, left}

-- a call that leaves all but these
pub record Aside (st : Held) (x : Lent) (r : Called) : Type 0 where
  pub state : r.state ≡ with_acknowledged r.state.acknowledged st
  pub readings : r.lent.readings ≡ x.readings

pub acknowledgement_aside : (st : Held) (x : Lent) (display id : ℕ) (area : List ℕ) → Aside st x (acknowledged_on st x display id area)
acknowledgement_aside st x display id area =
    (elim (eqb (acknowledged_on st x display id area).answer 0) as
    (λ a. eqb (acknowledged_on st x display id area).answer 0 ≡ a → Aside st x (acknowledged_on st x display id area)) [
      | true ↦ λ q.
          let v = accepted_acknowledgement st x display id area (eqb-true _ _ q) in
          record { state = rw v.leaves; readings = ap (λ (r : Called). r.lent.readings) v.leaves }
      | false ↦ λ q.
          let same = refused_acknowledgement st x display id area (eqb-false _ _ q) in
          record { state = rw same.state; readings = ap (λ (y : Lent). y.readings) same.lent }
    ])
    refl

pub fetched_same : (b : Box) (display from : ℕ) (area : List ℕ) → left b (Input.fetch display from area) ≡ b
unfolding left called
fetched_same b display from area =
    let same = fetch_leaves b.state b.lent display from area in
    λ i. record { state = same.0 i; lent = same.1 i }
