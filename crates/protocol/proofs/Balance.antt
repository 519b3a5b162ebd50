-- The balance of a node by any measure of readings: of the accepted stable readings those below bucket c are in the stable results and in
-- the window open at the checkpoint, since these are the failure-free run's; those from it on are kept.
use Prim.Native.Nat.{ℕ, ◌<◌}
use mathlib.Core.Path.{◌≡◌, refl, sym, ◌∙◌, ap, ap₂}
use mathlib.Core.List.{List, ◌++◌, flatten}
use lib.Dec.{eqb}
use Rattle.settings.specs.declared.Settings.{Settings}
use Rattle.journal.specs.Kinds.{letter_s}
use Rattle.record.specs.declared.Record.{Record}
use Rattle.record.specs.Kinds.{is_stable}
use Rattle.store.specs.declared.Reading.{Reading}
use Rattle.store.specs.Lists.{keep}
use Rattle.store.proofs.Choices.{and_parts}
use Rattle.store.proofs.Pairs.{every_any}
use Rattle.store.proofs.Keeping.{keep_append}
use Rattle.store.proofs.Amounts.{total_of}
use Rattle.operator.specs.Meters.{Operator, meter_count}
use Rattle.operator.proofs.Adding.{meter_of}
use Rattle.operator.proofs.Measures.{Measure, reports, brought, reported_of}
use Rattle.protocol.specs.Node.{Line, kept_of}
use Rattle.protocol.specs.Monitor.{LineMonitor}
use Rattle.protocol.specs.FailureFree.{failure_free}
use Rattle.protocol.specs.Undos.{stable_records}
use Rattle.protocol.specs.Runs.{Trace}
use Rattle.protocol.specs.Demand.{itself}
use Rattle.protocol.proofs.Lists.{keep_swap, keep_implied}
use Rattle.protocol.proofs.Places.{Each, done, more}
use Rattle.protocol.proofs.Lines.{is_from, is_stable_reading, Agrees}
use Rattle.protocol.proofs.Invariant.{Invariant}
use Rattle.protocol.proofs.FailureFreeTotals.{brought_parts, run_total}

-- the stable readings kept are the accepted ones of bucket c or later
kept_stables :
    (s : Settings) (c : ℕ) {ls : List Line} {gs : List LineMonitor} {zs : List (List Reading)} → Each (Agrees s c) ls gs zs →
    keep is_stable_reading (flatten (kept_of ls)) ≡ keep (is_from s.bucket c) (flatten zs)
unfolding kept_of flatten keep
kept_stables s c done = refl
kept_stables s c (more {a = l} {c = rs} {xs = ls} {zs = zs} v rest) =
    keep_append is_stable_reading l.kept (flatten (kept_of ls)) ∙
    ap₂ ◌++◌ (of_line v) (kept_stables s c rest) ∙
    sym (keep_append (is_from s.bucket c) rs (flatten zs))
  where
    of_line : {g : LineMonitor} → Agrees s c l g rs → keep is_stable_reading l.kept ≡ keep (is_from s.bucket c) rs
    of_line v =
        ap (keep is_stable_reading) v.kept ∙ keep_swap is_stable_reading (is_from s.bucket c) v.all ∙
        ap (keep (is_from s.bucket c)) v.stable

-- what is reported under the letter S is in the stable records
stable_reports : (i : ℕ) (rs : List Record) → keep (reports letter_s i) (stable_records itself rs) ≡ keep (reports letter_s i) rs
unfolding stable_records is_stable
stable_reports i rs =
    keep_implied (reports letter_s i) (λ (r : Record). is_stable r.kind) rs
    (every_any _ rs (λ r e. (and_parts (eqb r.kind letter_s) (eqb r.meter i) e).0))

module _ {M : Type 0} (m : Measure M) (s : Settings) (i : ℕ) (inside : i < meter_count) (t : Trace) (v : Invariant s t) where
  abbrev plus : M → M → M
  plus = m.amounts.plus

  pub balanced :
      brought m s i (flatten t.stables) ≡
      plus (reported_of m letter_s i t.output)
      (plus (m.of_meter (meter_of t.node.checkpoint i)) (brought m s i (keep is_stable_reading (flatten (kept_of t.node.lines)))))
  balanced =
      let c : ℕ = t.node.c in
      let results : List Record = (failure_free s t.stables c).records in
      let paid : reported_of m letter_s i results ≡ reported_of m letter_s i t.output =
      ap (reported_of m letter_s i) (sym v.output.as_they_came) ∙
      ap (total_of m.amounts m.of_result) (stable_reports i t.output) in
      brought_parts m s i s.bucket c (flatten t.stables) ∙
      ap₂ plus
      (sym (run_total m s i inside t.stables c).amount ∙
      ap₂ plus paid (ap (λ (o : Operator). m.of_meter (meter_of o i)) (sym v.output.at_checkpoint)))
      (ap (brought m s i) (sym (kept_stables s c v.lines))) ∙
      m.amounts.plus_assoc _ _ _
