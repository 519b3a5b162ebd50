-- No call gives more records than 65, whatever the state: an operator has 64 meters, and a bucket's work gives a result for each at most
-- and a boundary. By the rule of the step.
use mathlib.Core.Path.{◌≡◌}
use mathlib.Core.Bool.{true, false, cond}
use mathlib.Core.List.{List, [], ◌∷◌}
use Prim.Native.Nat.{ℕ, ◌*◌, ◌≤◌}
use native.Mathlib.Omega.{arith}
use lib.Dec.{eqb}
use lib.ListN.{length, length-append}
use Rattle.clock.specs.Buckets.{bucket_end}
use Rattle.clock.specs.Windows.{closes_window}
use Rattle.settings.specs.declared.Settings.{Settings}
use Rattle.journal.specs.declared.Call.{Call}
use Rattle.journal.specs.Kinds.{letter_s, letter_t, letter_b}
use Rattle.record.specs.Sizes.{record_bytes}
use Rattle.store.specs.Order.{in_bucket}
use Rattle.operator.specs.Meters.{meter_count}
use Rattle.record.specs.Markers.{marker}
use Rattle.protocol.specs.Kinds.{Kind, kind_of, uses, is_step}
use Rattle.protocol.specs.Node.{Node, kept_of}
use Rattle.protocol.specs.declared.Rule.{Rule}
use Rattle.protocol.specs.declared.Rule.TheVariants as Rule
use Rattle.protocol.specs.Rules.{rule_of, boundary_at, worked, act}
use Rattle.protocol.specs.Refusals.{answer_to}
use Rattle.protocol.specs.Calls.{input, done, accepted, outcome_of}
use Rattle.node.specs.Held.{Held}
use Rattle.node.specs.Sizes.{records_per_call}
use Rattle.node.specs.View.{Lent, view}
use Rattle.node.specs.Calls.{Called, called_on}
use Rattle.node.proofs.Results.{length_work}
use Rattle.node.proofs.Calls.{Untouched, AcceptedOn, either_way}

boundary_few : (s : Settings) (j : ℕ) → length (boundary_at s j) ≤ 1
unfolding boundary_at
boundary_few s j =
    elim (closes_window s.window j) as
    (λ b. length (cond b (marker letter_b 0 (record { 0 = bucket_end s.bucket j }) ∷ []) []) ≤ 1) [
      | true ↦ omega arith
      | false ↦ omega arith
    ]

module _ (s : Settings) (n : Node) (meters : length n.operator.meters ≡ meter_count) where
  pub worked_few : (kind j : ℕ) → length (worked s kind j n).records ≤ meter_count
  unfolding worked
  worked_few kind j = length_work s kind j (in_bucket s.bucket j (kept_of n.lines)) n.operator meters

  pub act_few : (rule : Rule) → length (act s n rule).records ≤ records_per_call
  unfolding act
  act_few Rule.Withdraw = omega arith
  act_few Rule.WorkStable =
      rw (length-append (worked s letter_s n.c n).records (boundary_at s n.c))
      (omega (arith, worked_few letter_s n.c, boundary_few s n.c))
  act_few Rule.EndCorrection = omega arith
  act_few Rule.WorkTentative = omega (arith, worked_few letter_t n.p)
  act_few Rule.Idle = omega arith

  done_few : (k : Call) (kind : Kind) → length (done s n k kind).records ≤ records_per_call
  unfolding done is_step uses input
  done_few k Kind.S = omega arith
  done_few k Kind.T = omega arith
  done_few k Kind.B = omega arith
  done_few k Kind.U = omega arith
  done_few k Kind.R = omega arith
  done_few k Kind.P = act_few (rule_of s n k.now)

  outcome_few : (k : Call) → length (outcome_of s n k).records ≤ records_per_call
  unfolding outcome_of accepted
  outcome_few k =
      elim (eqb (answer_to s n k) 0) as
      (λ b. length (cond b (accepted k.now (done s n k (kind_of k.kind))) (record { node = n; records = [] })).records ≤ records_per_call) [
        | true ↦ done_few k (kind_of k.kind)
        | false ↦ omega arith
      ]

-- the records of a call are no more than 65, and lie within the area
abbrev pub Fewest : List ℕ → Called → Type 0
Fewest area q = (q.records ≤ records_per_call) × (q.records * record_bytes ≤ length area)

module _ (st : Held) (x : Lent) (text area : List ℕ) (meters : length st.operator.meters ≡ meter_count) where
  view_few : (k : Call) → length (outcome_of st.settings (view st x.readings) k).records ≤ records_per_call
  unfolding view
  view_few k = outcome_few st.settings (view st x.readings) meters k

  pub called_few : ((called_on st x text area).records ≤ records_per_call) × ((called_on st x text area).records * record_bytes ≤ length area)
  called_few =
      either_way st x text area (Fewest area)
      (λ (u : Untouched st x area (called_on st x text area)). rw u.records (omega arith, omega arith))
      (λ (a : AcceptedOn st x text area). rw a.leaves (omega (arith, view_few a.call), omega (arith, view_few a.call, a.host.bytes)))
