-- What is held after every list of calls: by the invariant, and since each call keeps what is held within the places.
use Prim.Native.Nat.{ℕ, zero, suc, ◌+◌, ◌/◌, ◌-◌, ◌≤◌, ◌<◌}
use mathlib.Core.Path.{◌≡◌, refl, sym, ◌∙◌, ap, subst}
use mathlib.Core.Bool.{true, false, cond, true≢false}
use mathlib.Core.List.{List, [], ◌∷◌}
use native.Mathlib.Omega.{arith}
use native.Mathlib.Nat.{le_refl}
use lib.Dec.{ltb, eqb}
use lib.ListN.{length, replicate, length-append}
use borrow.Author.Tests.{ltb-false, ltb-true, leb-true}
use Rattle.clock.specs.declared.ArrivalTick.{ArrivalTick}
use Rattle.settings.specs.declared.Settings.{Settings}
use Rattle.journal.specs.declared.Call.{Call}
use Rattle.journal.specs.Kinds.{letter_s}
use Rattle.store.specs.Lists.{Every}
use Rattle.operator.specs.Meters.{Operator, fresh}
use Rattle.retransmission.specs.Sizes.{held_results}
use Rattle.protocol.specs.Kinds.{Kind, kind_of, uses, is_step}
use Rattle.protocol.specs.Node.{Node, opened, is_stable_bucket}
use Rattle.protocol.specs.declared.Rule.{Rule}
use Rattle.protocol.specs.declared.Rule.TheVariants as Rule
use Rattle.protocol.specs.Rules.{is_correcting, some_overdue, rule_of, worked, act}
use Rattle.protocol.specs.Refusals.{answer_to}
use Rattle.protocol.specs.Displays.{least_of, given_up_to, free_places, lacks_places, answer_to_acknowledgement}
use Rattle.protocol.specs.Calls.{outcome_of, input, done, accepted, acknowledged_after, acknowledged_by}
use Rattle.protocol.specs.Monitor.{least_boundary, stable_buckets}
use Rattle.protocol.specs.FailureFree.{failure_free}
use Rattle.protocol.specs.Runs.{Event, Trace, start, next, after}
use Rattle.protocol.specs.Demand.{stable_results}
use Rattle.protocol.specs.SentBack.{HeldTrace, TraceSentBack}
use Rattle.protocol.proofs.Rules.{rule_cases, stable_least, same_least}
use Rattle.protocol.proofs.Acceptance.{refused_15}
use Rattle.protocol.proofs.Counts.{failure_free_count, failure_free_consecutive}
use Rattle.protocol.proofs.Displays.{HeldIn, least_below, outcome_held, acknowledged_held}
use Rattle.protocol.proofs.Invariant.{Invariant, worked_free, next_kept}
use Rattle.protocol.proofs.Opening.{at_opening}

-- ---- the displays' ids are the calls'

act_acknowledged : (s : Settings) (n : Node) (rule : Rule) → (act s n rule).node.acknowledged ≡ n.acknowledged
unfolding act
act_acknowledged s n Rule.Withdraw = refl
act_acknowledged s n Rule.WorkStable = refl
act_acknowledged s n Rule.EndCorrection = refl
act_acknowledged s n Rule.WorkTentative = refl
act_acknowledged s n Rule.Idle = refl

done_acknowledged : (s : Settings) (n : Node) (k : Call) (kind : Kind) → (done s n k kind).node.acknowledged ≡ n.acknowledged
unfolding done is_step uses input
done_acknowledged s n k Kind.S = refl
done_acknowledged s n k Kind.T = refl
done_acknowledged s n k Kind.B = refl
done_acknowledged s n k Kind.U = refl
done_acknowledged s n k Kind.R = refl
done_acknowledged s n k Kind.P = act_acknowledged s n (rule_of s n k.now)

-- a journal call leaves them
pub outcome_acknowledged : (s : Settings) (n : Node) (k : Call) → (outcome_of s n k).node.acknowledged ≡ n.acknowledged
unfolding outcome_of accepted
outcome_acknowledged s n k =
    elim (eqb (answer_to s n k) 0) as
    (λ b. (cond b (accepted k.now (done s n k (kind_of k.kind))) (record { node = n; records = [] })).node.acknowledged ≡ n.acknowledged) [
      | true ↦ done_acknowledged s n k (kind_of k.kind)
      | false ↦ refl
    ]

-- ---- what every list keeps

pub record Kept (s : Settings) (t : Trace) : Type 0 where
  pub invariant : Invariant s t
  pub same : t.node.acknowledged ≡ t.acknowledged
  pub held : HeldIn t.node

-- where no tentative work is out, the numbering is the checkpoint's
level_number :
    (s : Settings) (t : Trace) → Invariant s t → t.node.p ≡ t.node.c → t.node.operator.number ≡ t.node.checkpoint.number
level_number s t v e = ap (λ (o : Operator). o.number) (v.output.level (sym e)).0

next_same :
    (s : Settings) (t : Trace) (e : Event) → t.node.acknowledged ≡ t.acknowledged →
    (next s t e).node.acknowledged ≡ (next s t e).acknowledged
unfolding next acknowledged_by
next_same s t Event.turned_away h = h
next_same s t (Event.journal k) h = outcome_acknowledged s t.node k ∙ h
next_same s t (Event.acknowledge display id) h =
    ap (λ (ids : List ℕ). acknowledged_after ids display id (eqb (answer_to_acknowledgement s t.node display id) 0)) h

next_held : (s : Settings) (t : Trace) (e : Event) → Invariant s t → HeldIn t.node → HeldIn (next s t e).node
unfolding next
next_held s t Event.turned_away v h = h
next_held s t (Event.journal k) v h = outcome_held s t.node v.order (level_number s t v) h k
next_held s t (Event.acknowledge display id) v h = acknowledged_held s t.node display id h

pub next_all : (s : Settings) → 0 < s.bucket → (t : Trace) (e : Event) → Kept s t → Kept s (next s t e)
next_all s room t e v =
    record {
      invariant = next_kept s room t v.invariant e;
      same = next_same s t e v.same;
      held = next_held s t e v.invariant v.held;
    }

after_all : (s : Settings) → 0 < s.bucket → (es : List Event) (t : Trace) → Kept s t → Kept s (after s t es)
unfolding after
after_all s room [] t v = v
after_all s room (e ∷ es) t v = after_all s room es (next s t e) (next_all s room t e v)

zeros_below : (n : ℕ) → Every (λ (a : ℕ). a ≤ 0) (replicate n 0)
zeros_below zero = tt
zeros_below (suc n) = (le_refl 0, zeros_below n)

pub opened_held : (s : Settings) → HeldIn (opened s)
unfolding opened fresh
opened_held s = record { below = zeros_below s.displays; few = omega arith }

pub start_all : (s : Settings) → 0 < s.lines → Kept s (start s)
unfolding start opened
start_all s h = record { invariant = at_opening s h; same = refl; held = opened_held s }

pub kept_after : (s : Settings) → 0 < s.bucket → 0 < s.lines → (es : List Event) → Kept s (after s (start s) es)
kept_after s room h es = after_all s room es (start s) (start_all s h)

-- ---- what that says

module _ (s : Settings) (room : 0 < s.bucket) (t : Trace) (v : Kept s t) where
  pub newest_count : t.node.checkpoint.number ≡ length (stable_results s t)
  unfolding stable_results
  newest_count =
      ap (λ (o : Operator). o.number) v.invariant.output.at_checkpoint ∙
      ap (λ (n : ℕ). (failure_free s t.stables n).operator.number) v.invariant.same_c ∙
      failure_free_count s t.stables t.monitor.d

  abbrev Full : Type 0
  Full =
      (t.monitor.d < stable_buckets s t.monitor) × (t.monitor.t ≡ t.monitor.d) ×
      (least_of t.acknowledged + held_results < length (failure_free s t.stables (suc t.monitor.d)).records)

  stable_full :
      is_stable_bucket s t.node.c t.node.lines ≡ true → ltb t.node.c t.node.p ≡ false →
      lacks_places s t.node Rule.WorkStable ≡ true → Full
  unfolding lacks_places free_places given_up_to stable_buckets stable_results
  stable_full a b e =
      let i = v.invariant in
      let level : t.node.p ≡ t.node.c = (let h : t.node.p ≤ t.node.c = ltb-false _ _ b in omega (arith, i.order)) in
      let free : ℕ = held_results - (t.node.checkpoint.number - least_of t.node.acknowledged) in
      let few : free < length (worked s letter_s t.node.c t.node).records = omega (arith, ltb-true, leb-true) in
      let all : length (failure_free s t.stables (suc t.node.c)).records ≡ length (failure_free s t.stables t.node.c).records + length (worked s letter_s t.node.c t.node).records =
      ap length (worked_free s room t i a level) ∙ length-append (failure_free s t.stables t.node.c).records (worked s letter_s t.node.c t.node).records in
      let count : t.node.checkpoint.number ≡ length (failure_free s t.stables t.node.c).records =
      ap (λ (o : Operator). o.number) i.output.at_checkpoint ∙ failure_free_count s t.stables t.node.c in
      let more : least_of t.node.acknowledged + held_results < length (failure_free s t.stables (suc t.node.c)).records = omega (arith, few, all, count, least_below t.node.checkpoint.number t.node.acknowledged v.held.below) in (
        subst (λ (n : ℕ). n < least_boundary t.monitor.lines / s.bucket) i.same_c
            (subst (λ (b : ℕ). t.node.c < b / s.bucket) (same_least s t.node.c i.lines)
            (ltb-true _ _ (sym (stable_least s t.node.c t.node.lines room i.some) ∙ a))),
        sym i.same_p ∙ level ∙ i.same_c,
        subst (λ (n : ℕ). least_of t.acknowledged + held_results < length (failure_free s t.stables (suc n)).records) i.same_c
            (subst (λ (ids : List ℕ). least_of ids + held_results < length (failure_free s t.stables (suc t.node.c)).records) v.same more),
      )

  lacking_full : (now : ArrivalTick) → lacks_places s t.node (rule_of s t.node now) ≡ true → Full
  unfolding rule_of lacks_places
  lacking_full now =
      let n = t.node in
      rule_cases (is_stable_bucket s n.c n.lines) (ltb n.c n.p) (is_correcting n.phase) (some_overdue s n.p now n.lines)
      (λ (rule : Rule). lacks_places s n rule ≡ true → Full) (λ _ _ e. absurd (true≢false (sym e))) (λ a b e. stable_full a b e)
      (λ _ _ e. absurd (true≢false (sym e))) (λ _ _ _ e. absurd (true≢false (sym e))) (λ _ _ e. absurd (true≢false (sym e)))

  refused_full : (k : Call) → answer_to s t.node k ≡ 15 → (kind_of k.kind ≡ Kind.P) × Full
  refused_full k e = let r = (refused_15 s t.node k).0 e in (r.0, lacking_full k.now r.2)

  pub held_after : HeldTrace s t
  unfolding stable_results
  held_after =
      record {
        acknowledged = v.same;
        numbered = failure_free_consecutive s t.stables t.monitor.d;
        newest = newest_count;
        some =
            subst (λ (ids : List ℕ). least_of ids ≤ length (failure_free s t.stables t.monitor.d).records) v.same
            (subst (λ (m : ℕ). least_of t.node.acknowledged ≤ m) newest_count
            (least_below t.node.checkpoint.number t.node.acknowledged v.held.below));
        few =
            subst (λ (ids : List ℕ). length (failure_free s t.stables t.monitor.d).records ≤ least_of ids + held_results) v.same
            (subst (λ (m : ℕ). m ≤ least_of t.node.acknowledged + held_results) newest_count v.held.few);
        full = λ k e. let r = refused_full k e in (r.0, r.1.0, r.1.1, r.1.2);
      }

pub sent_back : TraceSentBack
sent_back = record { held = λ s room h es. held_after s room (after s (start s) es) (kept_after s room h es) }
