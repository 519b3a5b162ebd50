-- A window closed, and a bucket worked: the meters are cleared, readings come first, and the numbering goes on by the number of records.
use Prim.Native.Nat.{ℕ, ◌+◌, ◌<◌}
use mathlib.Core.Path.{◌≡◌, ap}
use mathlib.Core.Bool.{true, false, cond}
use mathlib.Core.List.{List, []}
use native.Mathlib.Omega.{arith}
use lib.ListN.{length, length-replicate, get_or-replicate}
use Rattle.clock.specs.Windows.{closes_window}
use Rattle.settings.specs.declared.Settings.{Settings}
use Rattle.store.specs.Order.{Placed}
use Rattle.operator.specs.Meters.{Operator, meter_count, clear, add_all}
use Rattle.operator_meter.specs.Values.{no_meter}
use Rattle.operator.specs.Work.{window_results, close, work}
use Rattle.operator.proofs.Adding.{meter_of, add_all_number}
use Rattle.operator.proofs.Results.{givers, results_length}

-- a cleared operator has all its meters, without values
pub cleared_length : (o : Operator) → length (clear o).meters ≡ meter_count
unfolding clear
cleared_length o = length-replicate meter_count no_meter

pub cleared_meter : (o : Operator) (i : ℕ) → i < meter_count → meter_of (clear o) i ≡ no_meter
unfolding clear meter_of
cleared_meter o i h = get_or-replicate meter_count i no_meter no_meter h

module _ (s : Settings) (kind j : ℕ) (o : Operator) where
  pub window_results_length : length (window_results s kind j o) ≡ givers o.meters
  unfolding window_results
  window_results_length = results_length kind _ 0 o.number o.meters

module _ (s : Settings) (kind j : ℕ) (rs : List Placed) (o : Operator) where
  pub work_closes : closes_window s.window j ≡ true → work s kind j rs o ≡ close s kind j (add_all s o rs)
  unfolding work
  work_closes e = rw e

  pub work_goes_on : closes_window s.window j ≡ false → work s kind j rs o ≡ record { operator = add_all s o rs; records = [] }
  unfolding work
  work_goes_on e = rw e

  -- the numbering goes on by the number of records
  pub work_number : (work s kind j rs o).operator.number ≡ o.number + length (work s kind j rs o).records
  unfolding work close
  work_number =
      elim (closes_window s.window j) as
      (λ b.
      (cond b (close s kind j (add_all s o rs)) (record { operator = add_all s o rs; records = [] })).operator.number ≡
      o.number + length (cond b (close s kind j (add_all s o rs)) (record { operator = add_all s o rs; records = [] })).records) [
        | true ↦ ap (λ (n : ℕ). n + length (window_results s kind j (add_all s o rs))) (add_all_number s o rs)
        | false ↦ omega (arith, add_all_number s o rs)
      ]
