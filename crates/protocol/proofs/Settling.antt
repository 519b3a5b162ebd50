-- How many steps settle a node: every accepted step takes exactly one off the steps that it needs, as long as it needs one. So nothing is
-- left to work and the node is not correcting exactly where no step is needed; with k buckets left, k + 2 steps are always enough.
use Prim.Native.Nat.{ℕ, zero, suc, ◌+◌, ◌-◌, ◌/◌, ◌≤◌, ◌<◌, min}
use mathlib.Core.Path.{◌≡◌, refl, sym, ◌∙◌, ap, ap₂}
use mathlib.Core.Bool.{Bool, true, false, true≢false}
use mathlib.Core.Logic.{◌↔◌}
use mathlib.Core.List.{List, [], ◌∷◌, map}
use native.Mathlib.Omega.{arith}
use native.Mathlib.Nat.{le_refl}
use lib.Dec.{ltb}
use lib.ListN.{length}
use borrow.Author.Tests.{ltb-false, ltb-true, le-ltb}
use Rattle.clock.specs.declared.ArrivalTick.{ArrivalTick}
use Rattle.settings.specs.declared.Settings.{Settings}
use Rattle.journal.specs.declared.Call.{Call}
use Rattle.protocol.specs.Kinds.{Kind, kind_of, uses, is_step}
use Rattle.protocol.specs.Node.{Line, Node, is_stable_bucket}
use Rattle.protocol.specs.declared.Rule.{Rule}
use Rattle.protocol.specs.Rules.{is_correcting, rule_of, without, act}
use Rattle.protocol.specs.Refusals.{answer_to}
use Rattle.protocol.specs.Calls.{done, accepted, outcome_of, acknowledged_by}
use Rattle.protocol.specs.Monitor.{stable_buckets, left_to_work}
use Rattle.protocol.specs.Undos.{done_due}
use Rattle.protocol.specs.Runs.{Event, Trace, next}
use Rattle.protocol.specs.StepCount.{steps_needed, least_boundary_of, buckets_left}
use Rattle.protocol.specs.Demand.{itself, TraceSteps, rest, step, aside}
use Rattle.protocol.proofs.Rules.{rule_cases, stable_least, same_least}
use Rattle.protocol.proofs.Invariant.{Invariant, next_kept}

-- ---- the count

-- none is needed exactly where nothing is left and the box is not correcting
pub none_needed : (k : ℕ) (out correcting : Bool) → (steps_needed k out correcting ≡ 0) ↔ ((k ≡ 0) × (correcting ≡ false))
unfolding steps_needed
none_needed zero out true = (λ e. absurd (omega arith), λ h. absurd (true≢false h.1))
none_needed zero out false = (λ e. (refl, refl), λ h. refl)
none_needed (suc k) out correcting = (λ e. absurd (omega arith), λ h. absurd (omega (arith, h.0)))

-- no box is both ahead and correcting, so that two are the most beyond the buckets
at_most : (k : ℕ) (out correcting : Bool) → (correcting ≡ true → out ≡ false) → steps_needed k out correcting ≤ k + 2
unfolding steps_needed
at_most zero out true h = omega arith
at_most zero out false h = omega arith
at_most (suc k) true true h = absurd (true≢false (h refl))
at_most (suc k) true false h = omega arith
at_most (suc k) false true h = omega arith
at_most (suc k) false false h = omega arith

-- what a rule leaves needs one step less, or none as before
module _ (correcting : Bool) where
  less_withdrawn : (k : ℕ) → 0 < k → correcting ≡ false → steps_needed k false true ≡ steps_needed k true correcting - 1
  unfolding steps_needed
  less_withdrawn zero h e = absurd (omega arith)
  less_withdrawn (suc k) h e = rw e (omega arith)

  less_worked : (j k : ℕ) → k ≡ suc j → steps_needed j false correcting ≡ steps_needed k false correcting - 1
  unfolding steps_needed
  less_worked zero k e = rw e (omega arith)
  less_worked (suc j) k e = rw e (omega arith)

  less_ended : (out : Bool) (k : ℕ) → k ≡ 0 → correcting ≡ true → steps_needed k out false ≡ steps_needed k out correcting - 1
  unfolding steps_needed
  less_ended out k e f = rw (e, f) refl

  none_less :
      (out now still : Bool) (k : ℕ) → k ≡ 0 → correcting ≡ false → still ≡ false → steps_needed k now still ≡ steps_needed k out correcting - 1
  unfolding steps_needed
  none_less out now still k e f g = rw (e, f, g) refl

-- ---- one step

-- the steps that a node needs; tentative work is out where p is above c
unfoldable pub steps_ahead : Settings → Node → ℕ
steps_ahead s n = steps_needed (buckets_left s n) (ltb n.c n.p) (is_correcting n.phase)

-- what a step counts on: some bucket length, some line, and no tentative work out in a correction
pub record Level (s : Settings) (n : Node) : Type 0 where
  pub bucket : 0 < s.bucket
  pub lines : 0 < length n.lines
  pub level : is_correcting n.phase ≡ true → n.p ≡ n.c

-- readings that leave take no boundary with them
least_without : (s : Settings) (j : ℕ) (ls : List Line) → least_boundary_of (map (without s j) ls) ≡ least_boundary_of ls
unfolding least_boundary_of without
least_without s j [] = refl
least_without s j (l ∷ []) = refl
least_without s j (l ∷ m ∷ ls) = ap (min l.boundary.0) (least_without s j (m ∷ ls))

module _ (s : Settings) (n : Node) (v : Level s n) where
  -- by the test of rules 1 and 2
  some_left : is_stable_bucket s n.c n.lines ≡ true → n.c < least_boundary_of n.lines / s.bucket
  some_left e = ltb-true _ _ (sym (stable_least s n.c n.lines v.bucket v.lines) ∙ e)

  none_left_lem : is_stable_bucket s n.c n.lines ≡ false → least_boundary_of n.lines / s.bucket ≤ n.c
  none_left_lem e = ltb-false _ _ (sym (stable_least s n.c n.lines v.bucket v.lines) ∙ e)

  not_correcting : n.c < n.p → (b : Bool) → is_correcting n.phase ≡ b → b ≡ false
  not_correcting h true e = absurd (omega (arith, v.level e))
  not_correcting h false e = refl

  none_out : is_correcting n.phase ≡ true → ltb n.c n.p ≡ false
  none_out e = le-ltb n.c n.p (omega (arith, v.level e))

  rule_takes_one : (now : ArrivalTick) → steps_ahead s (act s n (rule_of s n now)).node ≡ steps_ahead s n - 1
  unfolding rule_of steps_ahead buckets_left act is_correcting
  rule_takes_one now =
      let out = ltb n.c n.p in
      let correcting = is_correcting n.phase in
      rule_cases _ _ _ _ (λ (q : Rule). steps_ahead s (act s n q).node ≡ steps_ahead s n - 1)
      (λ a b.
      rw (b, le-ltb n.c n.c (le_refl n.c))
      (less_withdrawn correcting _ (omega (arith, some_left a)) (not_correcting (ltb-true _ _ b) correcting refl)))
      (λ a b.
      rw (b, le-ltb (suc n.c) (suc n.p) (omega (arith, ltb-false n.c n.p b)), least_without s n.c n.lines)
      (less_worked correcting _ _ (omega (arith, some_left a))))
      (λ a m. less_ended correcting out _ (omega (arith, none_left_lem a)) m)
      (λ a m d. none_less correcting out _ _ _ (omega (arith, none_left_lem a)) m refl)
      (λ a m. none_less correcting out _ _ _ (omega (arith, none_left_lem a)) m m)

  -- an accepted step
  pub step_takes_one :
      (k : Call) → kind_of k.kind ≡ Kind.P → answer_to s n k ≡ 0 → steps_ahead s (outcome_of s n k).node ≡ steps_ahead s n - 1
  unfolding outcome_of done accepted is_step uses steps_ahead buckets_left
  step_takes_one k e a = rw (a, e) (rule_takes_one k.now)

-- ---- from the opening on

module _ (s : Settings) (room : 0 < s.bucket) where
  invariant_level : {t : Trace} → Invariant s t → Level s t.node
  invariant_level v = record { bucket = room; lines = v.some; level = v.level }

  -- what the monitor has left to work, the node has
  pub left_same : {t : Trace} → Invariant s t → left_to_work s t.monitor ≡ buckets_left s t.node
  unfolding left_to_work stable_buckets buckets_left
  left_same {t} v = sym (ap₂ (λ (m c : ℕ). m / s.bucket - c) (same_least s t.node.c v.lines) v.same_c)

  steps_take :
      {n : ℕ} {t u : Trace} → TraceSteps s t n u → Invariant s t → Invariant s u × (steps_ahead s u.node ≡ steps_ahead s t.node - n)
  unfolding next acknowledged_by steps_ahead buckets_left
  steps_take rest v = (v, omega arith)
  steps_take {u} (step {t = t} {n = n} k e a q) v =
      let r : Invariant s u × (steps_ahead s u.node ≡ steps_ahead s (next s t (Event.journal k)).node - n) =
      steps_take q (next_kept s room t v (Event.journal k)) in
      let h : steps_ahead s (next s t (Event.journal k)).node ≡ steps_ahead s t.node - 1 =
      step_takes_one s t.node (invariant_level v) k e a in
      (r.0, omega (arith, r.1, h))
  steps_take (aside {t = t} display id q) v = steps_take q (next_kept s room t v (Event.acknowledge display id))

  pub left_and_two : {t : Trace} → Invariant s t → steps_ahead s t.node ≤ left_to_work s t.monitor + 2
  unfolding steps_ahead
  left_and_two {t} v =
      rw (left_same v)
      (at_most (buckets_left s t.node) (ltb t.node.c t.node.p) (is_correcting t.node.phase)
      (none_out s t.node (invariant_level v)))

  pub settled :
      {n : ℕ} (t u : Trace) → Invariant s t → TraceSteps s t n u → steps_ahead s t.node ≤ n →
      (left_to_work s u.monitor ≡ 0) × (done_due itself false u.output ≡ false)
  unfolding steps_ahead
  settled {n} t u v q enough =
      let r : Invariant s u × (steps_ahead s u.node ≡ steps_ahead s t.node - n) = steps_take q v in
      let needed = none_needed (buckets_left s u.node) (ltb u.node.c u.node.p) (is_correcting u.node.phase) in
      let none = needed.0 (omega (arith, enough, r.1)) in
      (left_same r.0 ∙ none.0, r.0.output.due ∙ none.1)
