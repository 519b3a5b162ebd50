-- A step's stable results laid at their places in the send-back store: as many of the records laid down as the numbering of stable results
-- moved on.
use Prim.Native.Nat.{ℕ, ◌+◌, ◌*◌, ◌≤◌, ◌<◌, ◌^◌}
use mathlib.Core.Path.{◌≡◌, sym, ◌∙◌, ap}
use mathlib.Core.List.{List, ◌++◌, map, append_assoc}
use native.Mathlib.Omega.{arith}
use lib.ListN.{length, drop, length-append}
use Rattle.area.specs.Laid.{in_front}
use Rattle.clock.specs.declared.ArrivalTick.{ArrivalTick}
use Rattle.record.specs.declared.Record.{Record}
use Rattle.record.specs.Sizes.{record_bytes}
use Rattle.record.specs.Layout.{bytes_of, all_bytes}
use Rattle.record.proofs.AllBytes.{all_bytes_append}
use Rattle.store.specs.Columns.{Columns}
use Rattle.operator.specs.Meters.{meter_count}
use Rattle.retransmission.specs.Places.{pieces, places_of, with_places, holding, held_over}
use Rattle.retransmission.proofs.Pieces.{pieces_all_bytes}
use Rattle.protocol.specs.Rules.{Outcome, rule_of, act}
use Rattle.protocol.specs.Undos.{stable_records}
use Rattle.protocol.specs.Demand.{itself}
use Rattle.protocol.proofs.StepResults.{Gives, step_gives}
use Rattle.node.specs.Held.{Held}
use Rattle.node.specs.Sizes.{area_bytes}
use Rattle.node.specs.View.{view, put_state}
use Rattle.node.proofs.Shape.{StateShape}
use Rattle.node.proofs.Few.{act_few}
use Rattle.node.proofs.Sent.{holding_held}

module _ (st : Held) (x : Columns) (shape : StateShape st x) (tick : ArrivalTick) where
  abbrev pub done : Outcome
  done = act st.settings (view st x) (rule_of st.settings (view st x) tick)

  abbrev pub stables : List Record
  stables = stable_records itself done.records

  gives : Gives (view st x) done
  unfolding view
  gives = step_gives st.settings (view st x) shape.buckets.order shape.numbers.level tick

  -- the numbering of stable results moves on by as many
  pub number_moves : (next : Held) → next ≡ put_state st done.node → next.checkpoint.number ≡ st.checkpoint.number + length stables
  unfolding put_state view
  number_moves next e = ap (λ (q : Held). q.checkpoint.number) e ∙ gives.newest

  -- they lie in the area, and their numbers fit
  pub results_fit :
      length st.operator.meters ≡ meter_count → (area : List ℕ) → area_bytes ≤ length area →
      (length stables * record_bytes ≤ length area) × (st.checkpoint.number + length stables < 2 ^ 64)
  unfolding view
  results_fit meters area room =
      let few = act_few st.settings (view st x) meters (rule_of st.settings (view st x) tick) in
      let all : length done.records ≡ length stables + length gives.rest =
      ap length gives.first ∙ length-append stables gives.rest in
      (omega (arith, few, all), omega (arith, few, all, shape.numbers.stable, shape.buckets.order, shape.buckets.last))

  -- the first of the records laid down are these results, and to hold them is to hold what the step gives
  pub results_held :
      (sent area area' : List ℕ) (n : ℕ) → area' ≡ in_front (all_bytes done.records) area → n ≡ length stables →
      with_places sent (held_over (places_of sent) st.checkpoint.number (pieces n area')) ≡
      with_places sent (holding (places_of sent) done.records)
  unfolding in_front stable_records view
  results_held sent area area' n laid count =
      let behind = drop (length (all_bytes done.records)) area in
      let split : all_bytes done.records ++ behind ≡ all_bytes stables ++ (all_bytes gives.rest ++ behind) =
      ap (λ (rs : List Record). all_bytes rs ++ behind) gives.first ∙
      ap (λ (bytes : List ℕ). bytes ++ behind) (all_bytes_append stables gives.rest) ∙
      append_assoc (all_bytes stables) (all_bytes gives.rest) behind in
      let found : pieces n area' ≡ map bytes_of stables =
      ap (λ (m : ℕ). pieces m area') count ∙ ap (pieces (length stables)) (laid ∙ split) ∙
      pieces_all_bytes stables (all_bytes gives.rest ++ behind) in
      ap (with_places sent)
      (ap (held_over (places_of sent) st.checkpoint.number) found ∙
      sym (holding_held (places_of sent) st.checkpoint.number done.records gives.numbered))
