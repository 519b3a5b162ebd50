-- Demand 3 on the node's meaning. A clean output is what the invariant says of the output; two nodes with none left to work have worked the
-- same buckets, since both worked all below the least boundary; and the steps left settle within the buckets and two.
use Prim.Native.Nat.{ℕ, ◌*◌, ◌/◌, ◌≤◌, ◌<◌, min}
use mathlib.Core.Path.{◌≡◌, refl, sym, ◌∙◌, ap, subst}
use mathlib.Core.Bool.{true}
use mathlib.Core.List.{List, [], ◌∷◌, ◌++◌, map}
use native.Mathlib.Omega.{arith}
use native.Mathlib.Nat.{le-div_iff_mul-le}
use lib.Dec.{leb}
use borrow.Author.Tests.{leb-true, le-leb}
use Rattle.clock.specs.declared.ReadingTime.{ReadingTime}
use Rattle.settings.specs.declared.Settings.{Settings}
use Rattle.journal.specs.Kinds.{letter_s, letter_t}
use Rattle.record.specs.declared.Record.{Record}
use Rattle.record.specs.Kinds.{is_stable, is_tentative}
use Rattle.store.specs.declared.Reading.{Reading}
use Rattle.store.specs.Lists.{all_of}
use Rattle.store.proofs.Pairs.{every_to}
use Rattle.operator.specs.Work.{Worked}
use Rattle.protocol.specs.Node.{Line}
use Rattle.protocol.specs.Monitor.{LineMonitor, least_boundary, stable_buckets, left_to_work}
use Rattle.protocol.specs.StepCount.{least_boundary_of}
use Rattle.protocol.specs.FailureFree.{failure_free}
use Rattle.protocol.specs.Undos.{applied, struck, stable_records}
use Rattle.protocol.specs.Runs.{Trace, start, after}
use Rattle.protocol.specs.Demand.{stable_results, itself, CleanTrace, boundaries, sent, TraceDemand3}
use Rattle.protocol.proofs.Places.{Each, done, more}
use Rattle.protocol.proofs.Lines.{Agrees}
use Rattle.protocol.proofs.Rules.{all_least, same_least}
use Rattle.protocol.proofs.Numbers.{Numbered, failure_free_numbered}
use Rattle.protocol.proofs.FailureFree.{failure_free_without}
use Rattle.protocol.proofs.Invariant.{Invariant}
use Rattle.protocol.proofs.Opening.{invariant}
use Rattle.protocol.proofs.Settling.{left_and_two, settled}

-- the buckets worked are below the least boundary

all_past :
    (s : Settings) (c : ℕ) {ls : List Line} {gs : List LineMonitor} {zs : List (List Reading)} → Each (Agrees s c) ls gs zs →
    all_of (λ (l : Line). leb (c * s.bucket) l.boundary.0) ls ≡ true
unfolding all_of
all_past s c done = refl
all_past s c (more {a = l} r rs) = rw (le-leb (c * s.bucket) l.boundary.0 r.past, all_past s c rs)

worked_stable : (s : Settings) → 0 < s.bucket → (t : Trace) → Invariant s t → t.monitor.d ≤ stable_buckets s t.monitor
unfolding stable_buckets
worked_stable s room t v =
    let low : t.node.c * s.bucket ≤ least_boundary_of t.node.lines =
    leb-true _ _ (sym (all_least (t.node.c * s.bucket) t.node.lines v.some) ∙ all_past s t.node.c v.lines) in
    subst (λ n. n ≤ least_boundary t.monitor.lines / s.bucket) v.same_c
    ((le-div_iff_mul-le room).1 (subst (λ n. t.node.c * s.bucket ≤ n) (same_least s t.node.c v.lines) low))

-- clean

stable_letter : (r : Record) → r.kind ≡ letter_s → is_stable r.kind ≡ true
unfolding is_stable
stable_letter r e = ap is_stable e

tentative_letter : (r : Record) → r.kind ≡ letter_t → is_tentative r.kind ≡ true
unfolding is_tentative
tentative_letter r e = ap is_tentative e

pub came : (s : Settings) (t : Trace) → Invariant s t → stable_records itself t.output ≡ stable_results s t
unfolding stable_results
came s t v = v.output.as_they_came ∙ ap (λ n. (failure_free s t.stables n).records) v.same_c

clean_after : (s : Settings) → 0 < s.bucket → (t : Trace) → Invariant s t → CleanTrace s t
unfolding stable_results
clean_after s room t v =
    record {
      tentative = v.output.tentative;
      undone =
          subst (λ n. applied itself [] t.output ≡ (failure_free s t.stables n).records ++ v.output.tentative) v.same_c
          v.output.undone;
      all_stable =
          every_to (failure_free s t.stables t.monitor.d).records
          (λ r (b : Numbered letter_s 0 (failure_free s t.stables t.monitor.d).operator.number r). stable_letter r b.kind)
          (failure_free_numbered s t.stables t.monitor.d);
      all_tentative =
          every_to v.output.tentative
          (λ r (b : Numbered letter_t t.node.checkpoint.number t.node.operator.number r). tentative_letter r b.kind)
          v.output.numbers;
      never_struck = every_to (struck itself [] t.output) (λ r e. tentative_letter r e) v.output.strikes;
      as_they_came = came s t v;
      worked = worked_stable s room t v;
    }

-- two nodes

least : List ReadingTime → ℕ
least [] = 0
least (b ∷ []) = b.0
least (b ∷ c ∷ bs) = min b.0 (least (c ∷ bs))

least_boundaries : (gs : List LineMonitor) → least_boundary gs ≡ least (map (λ (g : LineMonitor). g.boundary) gs)
unfolding least_boundary least
least_boundaries [] = refl
least_boundaries (g ∷ []) = refl
least_boundaries (g ∷ h ∷ gs) = ap (min g.boundary.0) (least_boundaries (h ∷ gs))

all_worked :
    (s : Settings) → 0 < s.bucket → (t : Trace) → Invariant s t → left_to_work s t.monitor ≡ 0 →
    t.monitor.d ≡ least (boundaries t) / s.bucket
unfolding left_to_work boundaries stable_buckets
all_worked s room t v e =
    let none : t.monitor.d ≡ least_boundary t.monitor.lines / s.bucket = omega (arith, worked_stable s room t v) in
    none ∙ ap (λ n. n / s.bucket) (least_boundaries t.monitor.lines)

of_sent : (s : Settings) (t : Trace) → stable_results s t ≡ (failure_free s (sent t) t.monitor.d).records
unfolding stable_results sent
of_sent s t = ap (λ (w : Worked). w.records) (sym (failure_free_without s t.stables t.monitor.d))

same_results :
    (s : Settings) → 0 < s.bucket → (t u : Trace) → Invariant s t → Invariant s u → sent t ≡ sent u → boundaries t ≡ boundaries u →
    left_to_work s t.monitor ≡ 0 → left_to_work s u.monitor ≡ 0 → stable_results s t ≡ stable_results s u
same_results s room t u v w same_sent same-boundaries et eu =
    let same : t.monitor.d ≡ u.monitor.d =
    all_worked s room t v et ∙ ap (λ (bs : List ReadingTime). least bs / s.bucket) same-boundaries ∙ sym (all_worked s room u w eu) in
    of_sent s t ∙ ap (λ n. (failure_free s (sent t) n).records) same ∙
    ap (λ ls. (failure_free s ls u.monitor.d).records) same_sent ∙ sym (of_sent s u)

pub demand3 : TraceDemand3
demand3 =
    record {
      clean = λ s room h es. clean_after s room (after s (start s) es) (invariant s room h es);
      replicas =
          λ s room h es fs same_sent same-boundaries et eu.
          came s (after s (start s) es) (invariant s room h es) ∙
          same_results s room (after s (start s) es) (after s (start s) fs) (invariant s room h es) (invariant s room h fs) same_sent same-boundaries et eu ∙
          sym (came s (after s (start s) fs) (invariant s room h fs));
      settles =
          λ s room h es t q.
          settled s room (after s (start s) es) t (invariant s room h es) q (left_and_two s room (invariant s room h es));
    }
