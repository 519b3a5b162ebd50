-- No call that a text makes gives more records than 65, and they lie within the area: an acknowledgement gives none, a fetch 64 at most.
use Prim.Native.Nat.{ℕ, zero, suc}
use mathlib.Core.Path.{◌≡◌, refl}
use mathlib.Core.Bool.{Bool, true, false, cond}
use mathlib.Core.List.{List}
use native.Mathlib.Omega.{arith}
use borrow.Author.Tests.{eqb-true, eqb-false}
use lib.Dec.{eqb}
use lib.ListN.{length}
use Rattle.std.specs.Prelude.{Option, Some, None}
use Rattle.commands.specs.declared.Command.{Command}
use Rattle.commands.specs.ReadLine.{command_of}
use Rattle.settings.specs.Limits.{max_displays}
use Rattle.operator.specs.Meters.{meter_count}
use Rattle.protocol.specs.Displays.{fetch_count}
use Rattle.node.specs.Held.{Held}
use Rattle.node.specs.View.{Lent}
use Rattle.node.specs.Calls.{Called, called_on}
use Rattle.node.specs.Displays.{acknowledged_on, fetched_on}
use Rattle.node.proofs.Displays.{refused_acknowledgement, accepted_acknowledgement, refused_fetch, accepted_fetch}
use Rattle.node.proofs.Few.{Fewest, called_few}
use Rattle.playback_dispatch.specs.Dispatch.{is_behind, caught_up, all_caught_up, followed, commanded, dispatched}

-- the displays change no answer
caught_up_few : (area : List ℕ) (n : ℕ) (q : Called) → Fewest area q → Fewest area (all_caught_up n q)
unfolding all_caught_up caught_up
caught_up_few area zero q few = few
caught_up_few area (suc n) q few =
    let r = all_caught_up n q in
    let now : Fewest area r = caught_up_few area n q few in
    let a = acknowledged_on r.state r.lent (suc n) r.state.checkpoint.number r.area in
    elim (is_behind r.state n) as
    (λ b. Fewest area (cond b (record { answer = r.answer; records = r.records; state = a.state; lent = a.lent; area = r.area }) r)) [
      | true ↦ now
      | false ↦ now
    ]

module _ (st : Held) (x : Lent) (area : List ℕ) where
  acknowledgement_few : (display id : ℕ) → Fewest area (acknowledged_on st x display id area)
  acknowledgement_few display id =
      let q = acknowledged_on st x display id area in
      (elim (eqb q.answer 0) as (λ b. eqb q.answer 0 ≡ b → Fewest area q) [
        | true ↦ λ e. rw (accepted_acknowledgement st x display id area (eqb-true _ _ e)).leaves (omega arith, omega arith)
        | false ↦ λ e. rw (refused_acknowledgement st x display id area (eqb-false _ _ e)).records (omega arith, omega arith)
      ])
      refl

  fetch_few : (display from : ℕ) → Fewest area (fetched_on st x display from area)
  unfolding fetch_count
  fetch_few display from =
      let q = fetched_on st x display from area in
      (elim (eqb q.answer 0) as (λ b. eqb q.answer 0 ≡ b → Fewest area q) [
        | true ↦ λ e.
            let v = accepted_fetch st x display from area (eqb-true _ _ e) in
            rw v.leaves (omega arith, omega (arith, v.host.bytes))
        | false ↦ λ e. rw (refused_fetch st x display from area (eqb-false _ _ e)).records (omega arith, omega arith)
      ])
      refl

  module _ (text : List ℕ) (acknowledging : Bool) (meters : length st.operator.meters ≡ meter_count) where
    followed_few : Fewest area (followed acknowledging st x text area)
    unfolding followed
    followed_few =
        let few : Fewest area (called_on st x text area) = called_few st x text area meters in
        elim acknowledging as
        (λ b. Fewest area (cond b (all_caught_up max_displays (called_on st x text area)) (called_on st x text area))) [
          | true ↦ caught_up_few area max_displays _ few
          | false ↦ few
        ]

    commanded_few : (command : Option Command) → Fewest area (commanded command acknowledging st x text area)
    unfolding commanded
    commanded_few (Some (Command.Acknowledge display id)) = acknowledgement_few display id
    commanded_few (Some (Command.Fetch display id)) = fetch_few display id
    commanded_few None = followed_few

    pub dispatched_few : (mixed : Bool) → Fewest area (dispatched mixed acknowledging st x text area)
    unfolding dispatched
    dispatched_few mixed =
        elim mixed as
        (λ b. Fewest area (cond b (commanded (command_of text) acknowledging st x text area) (followed acknowledging st x text area))) [
          | true ↦ commanded_few (command_of text)
          | false ↦ followed_few
        ]
