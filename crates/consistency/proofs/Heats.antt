-- Heat adds up, and is a measure of readings: what a meter holds grows by what a reading brings, and a result reports it. By it the
-- statement's words are those of the run on the meaning.
use Prim.Native.Nat.{ℕ}
use mathlib.Core.Path.{◌≡◌, refl, ◌∙◌, ap}
use mathlib.Core.List.{List, map}
use native.Mathlib.Omega.{arith}
use lib.IntN.{ℤ, +ℤ_idr, +ℤ_assoc, +ℤ_comm}
use Rattle.settings.specs.declared.Settings.{Settings}
use Rattle.journal.specs.Kinds.{letter_s}
use Rattle.record.specs.declared.Record.{Record}
use Rattle.store.specs.declared.Reading.{Reading}
use Rattle.store.specs.Lists.{keep}
use Rattle.store.proofs.Amounts.{CommutativeMonoid}
use Rattle.operator_meter.specs.Values.{no_meter, with_value}
use Rattle.operator.specs.Results.{result_of}
use Rattle.operator.proofs.Measures.{Measure, brought, reported_of}
use Rattle.consistency.specs.Runs.{Input, record_in}
use Rattle.consistency.specs.Demand.{Handed, is_opened, settings_in, output_of}
use Rattle.consistency.specs.Balance.{Heat, no_heat, plus, heat_of, of_reading, of_meter, of_result, counts_for, pays_for, paid_heat}
use Rattle.consistency.proofs.Undos.{records_read}
use Rattle.consistency.proofs.Opened.{trace_of, mirrors}

pub same_heat : {n m : ℕ} {v w : ℤ} → n ≡ m → v ≡ w → ◌≡◌ {A = Heat} (record { count = n; sum = v }) (record { count = m; sum = w })
same_heat e g = λ i. record { count = e i; sum = g i }

unfoldable pub heat_monoid : CommutativeMonoid Heat
unfolding no_heat plus
heat_monoid =
    record {
      none = no_heat;
      plus = plus;
      plus_none = λ a. same_heat (omega arith) (+ℤ_idr a.sum);
      plus_assoc = λ a b c. same_heat (omega arith) (+ℤ_assoc a.sum b.sum c.sum);
      plus_comm = λ a b. same_heat (omega arith) (+ℤ_comm a.sum b.sum);
    }

unfoldable pub heat_measure : Measure Heat
unfolding heat_monoid no_heat plus of_reading of_meter of_result no_meter with_value result_of
heat_measure =
    record {
      amounts = heat_monoid;
      of_reading = of_reading;
      of_meter = of_meter;
      of_result = of_result;
      blank = refl;
      added = λ r m. refl;
      reported = λ kind start i number m. refl;
    }

-- the statement's words are the measure's
pub readings_heat : (s : Settings) (i : ℕ) (rs : List Reading) → heat_of of_reading (keep (counts_for s i) rs) ≡ brought heat_measure s i rs
unfolding heat_of counts_for heat_measure heat_monoid
readings_heat s i rs = refl

results_heat : (i : ℕ) (rs : List Record) → heat_of of_result (keep (pays_for i) rs) ≡ reported_of heat_measure letter_s i rs
unfolding heat_of pays_for heat_measure heat_monoid
results_heat i rs = refl

-- what was paid, from an opening on, is what the records of the run on the meaning report
pub paid_reported :
    (h : Handed) → is_opened h → (is : List Input) (i : ℕ) →
    paid_heat h is i ≡ reported_of heat_measure letter_s i (trace_of (settings_in h) h is).output
unfolding paid_heat
paid_reported h e is i =
    let run = mirrors h e is in
    results_heat i (map record_in (output_of h is)) ∙
    ap (reported_of heat_measure letter_s i) (ap (map record_in) run.laid ∙ records_read (trace_of (settings_in h) h is).output run.decode)
