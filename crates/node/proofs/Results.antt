-- The results of a window, and records without one, are within a record's widths and of a kind that records have; a window gives no more
-- results than there are meters.
use Prim.Native.Nat.{ℕ, suc, ◌+◌, ◌≤◌, ◌<◌, ◌^◌}
use mathlib.Core.Path.{◌≡◌}
use mathlib.Core.Bool.{true, false, cond}
use mathlib.Core.List.{List, [], ◌∷◌}
use native.Mathlib.Omega.{arith}
use lib.ListN.{length}
use Rattle.clock.specs.declared.ReadingTime.{ReadingTime}
use Rattle.clock.specs.Windows.{closes_window, window_start}
use Rattle.signed.proofs.Mean.{mean_fits}
use Rattle.settings.specs.declared.Settings.{Settings}
use Rattle.record.specs.declared.Record.{Record}
use Rattle.record.specs.Within.{Within}
use Rattle.record.specs.Kinds.{is_record}
use Rattle.store.specs.Order.{Placed}
use Rattle.store.specs.Lists.{Every}
use Rattle.operator_meter.specs.declared.Meter.{Meter}
use Rattle.operator.specs.Meters.{Operator, meter_count, add_all}
use Rattle.record.specs.Markers.{marker}
use Rattle.operator_meter.specs.Values.{has_result}
use Rattle.operator.specs.Results.{result_of, results}
use Rattle.operator.specs.Work.{window_results, close, work}
use Rattle.store.proofs.Pairs.{every_both}
use Rattle.operator.proofs.Adding.{add_all_number, add_all_length}
use Rattle.operator.proofs.Results.{results_most}
use Rattle.operator_meter.proofs.Sums.{range_fits}
use Rattle.operator_meter.proofs.Bounds.{LastFits, Counted}
use Rattle.operator.proofs.Meters.{ValueFits, lasts_add_all, counted_add_all}
use Rattle.node.proofs.Fits.{OperatorFits}

-- a record whose bytes are read back
abbrev pub Readable : Record → Type 0
Readable r = Within r × (is_record r.kind ≡ true)

-- a meter whose result fits
abbrev GoodMeter : ℕ → Meter → Type 0
GoodMeter most m = Counted most m × LastFits m

module _ (kind : ℕ) (byte : kind < 2 ^ 8) (known : is_record kind ≡ true) where
  pub marker_readable : (id : ℕ) (time : ReadingTime) → id < 2 ^ 32 → time.0 < 2 ^ 32 → Readable (marker kind id time)
  unfolding marker
  marker_readable id time f g = (
    record {
      kind = byte;
      meter = omega arith;
      id = f;
      time = g;
      count = omega arith;
      sum = omega arith;
      mean = omega arith;
      last = omega arith;
    },
    known,
  )

  result_readable :
      (most : ℕ) → most < 2 ^ 32 → (start : ReadingTime) → start.0 < 2 ^ 32 → (i number : ℕ) → i < 2 ^ 8 → number < 2 ^ 32 →
      (m : Meter) → GoodMeter most m → Readable (result_of kind start i number m)
  unfolding result_of
  result_readable most few start f i number h g m v = (
    record {
      kind = byte;
      meter = h;
      id = g;
      time = f;
      count = omega (arith, v.0.count);
      sum = range_fits m.count m.sum (omega (arith, v.0.count)) v.0.range;
      mean = (mean_fits m.sum m.count v.0.range).sfits;
      last = v.1;
    },
    known,
  )

  results_readable :
      (most : ℕ) → most < 2 ^ 32 → (start : ReadingTime) → start.0 < 2 ^ 32 → (i number : ℕ) (ms : List Meter) →
      i + length ms ≤ 2 ^ 8 → number + length ms < 2 ^ 32 → Every (GoodMeter most) ms → Every Readable (results kind start i number ms)
  unfolding results
  results_readable most few start f i number [] h g v = tt
  results_readable most few start f i number (m ∷ ms) h g v =
      elim (has_result m) as
      (λ b.
      Every Readable
      (cond b
      (result_of kind start i (suc number) m ∷ results kind start (suc i) (suc number) ms)
      (results kind start (suc i) number ms))) [
        | true ↦ (
          result_readable most few start f i (suc number) (omega arith) (omega arith) m v.0,
          results_readable most few start f (suc i) (suc number) ms (omega arith) (omega arith) v.1,
        )
        | false ↦ results_readable most few start f (suc i) number ms (omega arith) (omega arith) v.1
      ]

-- ---- a bucket's work

pub length_work :
    (s : Settings) (kind j : ℕ) (rs : List Placed) (o : Operator) → length o.meters ≡ meter_count →
    length (work s kind j rs o).records ≤ meter_count
unfolding work close window_results
length_work s kind j rs o full =
    elim (closes_window s.window j) as
    (λ b. length (cond b (close s kind j (add_all s o rs)) (record { operator = add_all s o rs; records = [] })).records ≤ meter_count) [
      | true ↦
          omega (
            arith,
            results_most kind (record { 0 = window_start s.bucket s.window j }) 0 (add_all s o rs).number (add_all s o rs).meters,
            add_all_length s o rs,
          )
      | false ↦ omega arith
    ]

module _ (s : Settings) (kind j : ℕ) (rs : List Placed) (o : Operator) (fits : OperatorFits o) where
  pub work_readable :
      kind < 2 ^ 8 → is_record kind ≡ true → window_start s.bucket s.window j < 2 ^ 32 → (most : ℕ) →
      Every (Counted most) o.meters → most + length rs < 2 ^ 32 → Every ValueFits rs → o.number + meter_count < 2 ^ 32 →
      Every Readable (work s kind j rs o).records
  unfolding work close window_results
  work_readable byte known start most counted few values number =
      elim (closes_window s.window j) as
      (λ b. Every Readable (cond b (close s kind j (add_all s o rs)) (record { operator = add_all s o rs; records = [] })).records) [
        | true ↦
            results_readable kind byte known (most + length rs) few (record { 0 = window_start s.bucket s.window j }) start 0
            (add_all s o rs).number (add_all s o rs).meters
            (omega (arith, add_all_length s o rs, fits.meters))
            (omega (arith, add_all_length s o rs, fits.meters, add_all_number s o rs))
            (every_both (Counted (most + length rs)) LastFits (add_all s o rs).meters (counted_add_all s most o rs values counted) (lasts_add_all s o rs values fits.lasts))
        | false ↦ tt
      ]
