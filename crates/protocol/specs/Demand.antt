-- Demand 3 on the node's meaning.
use Rattle.std.specs.Prelude.{ℕ, zero, suc, ◌+◌, ◌≤◌, ◌<◌, ◌≡◌, true, false, List, [], ◌++◌, map}
use Rattle.clock.specs.declared.ReadingTime.{ReadingTime}
use Rattle.settings.specs.declared.Settings.{Settings}
use Rattle.journal.specs.declared.Call.{Call}
use Rattle.record.specs.declared.Record.{Record}
use Rattle.record.specs.Kinds.{is_stable, is_tentative}
use Rattle.store.specs.declared.Reading.{Reading}
use Rattle.store.specs.Lists.{Every}
use Rattle.protocol.specs.Kinds.{Kind, kind_of}
use Rattle.protocol.specs.Refusals.{answer_to}
use Rattle.protocol.specs.Monitor.{LineMonitor, stable_buckets, left_to_work}
use Rattle.protocol.specs.FailureFree.{without_arrival, failure_free}
use Rattle.protocol.specs.Undos.{applied, struck, stable_records, done_due}
use Rattle.protocol.specs.Runs.{Event, Trace, start, next, after}

-- the results of the failure-free run through exactly the buckets that the monitor has as worked
unfoldable pub stable_results : Settings → Trace → List Record
stable_results s t = (failure_free s t.stables t.monitor.d).records

-- a record is read as itself
abbrev pub itself : Record → Record
itself r = r

-- the output with its undos applied is the failure-free results and then tentative ones; only tentative ones were struck; the stable
-- records as they came are the failure-free results too
pub record CleanTrace (s : Settings) (t : Trace) : Type 0 where
  pub tentative : List Record
  pub undone : applied itself [] t.output ≡ stable_results s t ++ tentative
  pub all_stable : Every (λ (r : Record). is_stable r.kind ≡ true) (stable_results s t)
  pub all_tentative : Every (λ (r : Record). is_tentative r.kind ≡ true) tentative
  pub never_struck : Every (λ (r : Record). is_tentative r.kind ≡ true) (struck itself [] t.output)
  pub as_they_came : stable_records itself t.output ≡ stable_results s t
  pub worked : t.monitor.d ≤ stable_buckets s t.monitor

unfoldable pub boundaries : Trace → List ReadingTime
boundaries t = map (λ (g : LineMonitor). g.boundary) t.monitor.lines

unfoldable pub sent : Trace → List (List Reading)
sent t = map (map without_arrival) t.stables

-- so many steps, none refused; between them displays may acknowledge
pub data TraceSteps (s : Settings) : Trace → ℕ → Trace → Type 0 where
  rest : {t : Trace} → TraceSteps s t zero t
  step :
      {t u : Trace} {n : ℕ} (k : Call) → kind_of k.kind ≡ Kind.P → answer_to s t.node k ≡ 0 →
      TraceSteps s (next s t (Event.journal k)) n u → TraceSteps s t (suc n) u
  aside : {t u : Trace} {n : ℕ} (display id : ℕ) → TraceSteps s (next s t (Event.acknowledge display id)) n u → TraceSteps s t n u

pub record TraceDemand3 : Type 0 where
  -- after any list: clean
  pub clean : (s : Settings) → 0 < s.bucket → 0 < s.lines → (es : List Event) → CleanTrace s (after s (start s) es)
  -- two nodes with the same settings, sent readings and greatest boundaries, none left to work: the same stable records
  pub replicas :
      (s : Settings) → 0 < s.bucket → 0 < s.lines → (es fs : List Event) →
      sent (after s (start s) es) ≡ sent (after s (start s) fs) →
      boundaries (after s (start s) es) ≡ boundaries (after s (start s) fs) →
      left_to_work s (after s (start s) es).monitor ≡ 0 →
      left_to_work s (after s (start s) fs).monitor ≡ 0 →
      stable_records itself (after s (start s) es).output ≡ stable_records itself (after s (start s) fs).output
  -- with k left to work, k + 2 steps leave none and no R due
  pub settles :
      (s : Settings) → 0 < s.bucket → 0 < s.lines → (es : List Event) (t : Trace) →
      TraceSteps s (after s (start s) es) (left_to_work s (after s (start s) es).monitor + 2) t →
      (left_to_work s t.monitor ≡ 0) × (done_due itself false t.output ≡ false)
