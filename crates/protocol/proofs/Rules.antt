-- The node and the monitor choose the same rule: bucket c is stable where c is below the least boundary divided by the bucket length, and
-- an overdue reading of bucket p or later is kept, since p is at or above c.
use Prim.Native.Nat.{ℕ, suc, ◌+◌, ◌*◌, ◌/◌, ◌≤◌, ◌<◌, min}
use mathlib.Core.Path.{◌≡◌, refl, sym, ◌∙◌, ap, ap₂}
use mathlib.Core.Bool.{Bool, true, false, cond, ◌&&◌, ◌||◌, and-true}
use mathlib.Core.List.{List, [], ◌∷◌, map}
use native.Mathlib.Omega.{arith}
use native.Mathlib.Nat.{le-div_iff_mul-le, not-suc-le-zero}
use lib.Dec.{leb, ltb}
use lib.ListN.{length}
use borrow.Author.Tests.{leb-true, le-leb}
use Rattle.clock.specs.declared.ReadingTime.{ReadingTime}
use Rattle.clock.specs.declared.ArrivalTick.{ArrivalTick}
use Rattle.clock.specs.Buckets.{bucket_of, bucket_end, finishes}
use Rattle.clock.specs.Hold.{is_due}
use Rattle.settings.specs.declared.Settings.{Settings}
use Rattle.store.specs.declared.Reading.{Reading}
use Rattle.store.specs.Lists.{Every, some_of, all_of}
use Rattle.store.proofs.Choices.{and_parts}
use Rattle.store.proofs.Pairs.{every_any}
use Rattle.store.proofs.Keeping.{some_map}
use Rattle.protocol.specs.Node.{Line, Node, is_stable_bucket}
use Rattle.protocol.specs.declared.Rule.{Rule}
use Rattle.protocol.specs.declared.Rule.TheVariants as Rule
use Rattle.protocol.specs.Rules.{first_rule, is_correcting, is_overdue, some_overdue, rule_of}
use Rattle.protocol.specs.StepCount.{least_boundary_of}
use Rattle.protocol.specs.Monitor.{LineMonitor, Monitor, least_boundary, stable_buckets, entry_due, any_due, observe_step}
use Rattle.protocol.proofs.Tests.{both_ways, leb_min}
use Rattle.protocol.proofs.Lists.{some_kept}
use Rattle.protocol.proofs.Places.{Each, done, more}
use Rattle.protocol.proofs.Lines.{is_from, entry_of_reading, Agrees}

-- the rule that the monitor's tests give, and what it does to the monitor
unfoldable pub monitor_rule : Settings → Monitor → ArrivalTick → Rule
monitor_rule s y now = first_rule (ltb y.d (stable_buckets s y)) (ltb y.d y.t) y.mark (any_due s y.t now y.lines)

unfoldable pub monitor_act : Monitor → Rule → Monitor
monitor_act y Rule.Withdraw = record { d = y.d; t = y.d; mark = true; lines = y.lines }
monitor_act y Rule.WorkStable = record { d = suc y.d; t = suc y.d; mark = y.mark; lines = y.lines }
monitor_act y Rule.EndCorrection = record { d = y.d; t = y.t; mark = false; lines = y.lines }
monitor_act y Rule.WorkTentative = record { d = y.d; t = suc y.t; mark = y.mark; lines = y.lines }
monitor_act y Rule.Idle = y

-- the five cases of a step, with what the tests were
pub rule_cases :
    (a b m d : Bool) (G : Rule → Type 0) → (a ≡ true → b ≡ true → G Rule.Withdraw) → (a ≡ true → b ≡ false → G Rule.WorkStable) →
    (a ≡ false → m ≡ true → G Rule.EndCorrection) → (a ≡ false → m ≡ false → d ≡ true → G Rule.WorkTentative) →
    (a ≡ false → m ≡ false → G Rule.Idle) → G (first_rule a b m d)
unfolding first_rule
rule_cases true true m d G u f k t i = u refl refl
rule_cases true false m d G u f k t i = f refl refl
rule_cases false b true d G u f k t i = k refl refl
rule_cases false b false true G u f k t i = t refl refl refl
rule_cases false b false false G u f k t i = i refl refl

-- the monitor's own chain of tests is the node's chain of rules
by_tests :
    (y : Monitor) (a b m d : Bool) →
    cond a (cond b (monitor_act y Rule.Withdraw) (monitor_act y Rule.WorkStable)) (cond m (monitor_act y Rule.EndCorrection) (cond d (monitor_act y Rule.WorkTentative) (monitor_act y Rule.Idle))) ≡ monitor_act y (first_rule a b m d)
unfolding first_rule
by_tests y true true m d = refl
by_tests y true false m d = refl
by_tests y false b true d = refl
by_tests y false b false true = refl
by_tests y false b false false = refl

pub monitor_step : (s : Settings) (y : Monitor) (now : ArrivalTick) → observe_step s y now ≡ monitor_act y (monitor_rule s y now)
unfolding observe_step monitor_act monitor_rule
monitor_step s y now = by_tests y (ltb y.d (stable_buckets s y)) (ltb y.d y.t) y.mark (any_due s y.t now y.lines)

-- ---- the least boundary

-- a number at or below every line's boundary is at or below the least
pub all_least : (x : ℕ) (ls : List Line) → 0 < length ls → all_of (λ (l : Line). leb x l.boundary.0) ls ≡ leb x (least_boundary_of ls)
unfolding all_of least_boundary_of
all_least x [] h = absurd (not-suc-le-zero h)
all_least x (l ∷ []) h = and-true (leb x l.boundary.0)
all_least x (l ∷ m ∷ ls) h =
    ap (◌&&◌ (leb x l.boundary.0)) (all_least x (m ∷ ls) (omega arith)) ∙ sym (leb_min x l.boundary.0 (least_boundary_of (m ∷ ls)))

-- so bucket c is stable where it is below the least boundary divided by the bucket length
pub stable_least :
    (s : Settings) (c : ℕ) (ls : List Line) → 0 < s.bucket → 0 < length ls → is_stable_bucket s c ls ≡ ltb c (least_boundary_of ls / s.bucket)
unfolding is_stable_bucket finishes bucket_end
stable_least s c ls room h =
    all_least (c * s.bucket + s.bucket) ls h ∙
    both_ways (leb (c * s.bucket + s.bucket) (least_boundary_of ls)) (ltb c (least_boundary_of ls / s.bucket))
    (λ e.
    let h : c * s.bucket + s.bucket ≤ least_boundary_of ls = leb-true _ _ e in
    let low : suc c * s.bucket ≤ least_boundary_of ls = omega arith in
    le-leb _ _ ((le-div_iff_mul-le room).1 low))
    (λ e.
    let low : suc c * s.bucket ≤ least_boundary_of ls = (le-div_iff_mul-le room).0 (leb-true _ _ e) in
    le-leb (c * s.bucket + s.bucket) (least_boundary_of ls) (omega arith))

-- ---- the node and the monitor

module _ (s : Settings) (c : ℕ) where
  -- they have the same least boundary
  pub same_least :
      {ls : List Line} {gs : List LineMonitor} {zs : List (List Reading)} → Each (Agrees s c) ls gs zs →
      least_boundary_of ls ≡ least_boundary gs
  unfolding least_boundary_of least_boundary
  same_least done = refl
  same_least (more r done) = ap (λ (b : ReadingTime). b.0) r.boundary
  same_least (more r (more q rs)) = ap₂ min (ap (λ (b : ReadingTime). b.0) r.boundary) (same_least (more q rs))

  overdue_from :
      (p : ℕ) (now : ArrivalTick) → c ≤ p → (rs : List Reading) →
      Every (λ (r : Reading). is_overdue s p now r ≡ true → is_from s.bucket c r ≡ true) rs
  unfolding is_overdue is_from
  overdue_from p now h rs =
      every_any _ rs
      (λ r e.
      let g : p ≤ bucket_of s.bucket r.time = leb-true _ _ (and_parts _ _ e).0 in
      le-leb c (bucket_of s.bucket r.time) (omega arith))

  entries_due :
      (p : ℕ) (now : ArrivalTick) (rs : List Reading) → some_of (entry_due s p now) (map entry_of_reading rs) ≡ some_of (is_overdue s p now) rs
  unfolding entry_due is_overdue entry_of_reading bucket_of is_due
  entries_due p now rs = some_map entry_of_reading (entry_due s p now) rs

  -- an overdue reading of bucket p or later is kept
  pub overdue_kept :
      {ls : List Line} {gs : List LineMonitor} {zs : List (List Reading)} (p : ℕ) (now : ArrivalTick) → c ≤ p → Each (Agrees s c) ls gs zs →
      some_overdue s p now ls ≡ any_due s p now gs
  unfolding some_of some_overdue any_due
  overdue_kept p now h done = refl
  overdue_kept p now h (more {b = g} r rs) =
      ap₂ ◌||◌
      (ap (some_of (is_overdue s p now)) r.kept ∙
      some_kept (is_overdue s p now) (is_from s.bucket c) r.all (overdue_from p now h r.all) ∙
      sym (entries_due p now r.all) ∙
      ap (some_of (entry_due s p now)) (sym r.entries))
      (overdue_kept p now h rs)

pub same_rule :
    (s : Settings) → 0 < s.bucket → (n : Node) (y : Monitor) (zs : List (List Reading)) (now : ArrivalTick) → 0 < length n.lines →
    n.c ≡ y.d → n.p ≡ y.t → is_correcting n.phase ≡ y.mark → n.c ≤ n.p → Each (Agrees s n.c) n.lines y.lines zs →
    rule_of s n now ≡ monitor_rule s y now
unfolding rule_of monitor_rule stable_buckets
same_rule s room n y zs now h same_c same_p same_mark order v =
    rw (
      stable_least s n.c n.lines room h,
      same_least s n.c v,
      overdue_kept s n.c n.p now order v,
      same_mark,
      same_c,
      same_p,
    )
