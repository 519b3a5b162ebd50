-- A bucket's work (document 01, section 'Buckets and the operator').
use Rattle.std.specs.Prelude.{ℕ, ◌+◌, cond, List, [], length}
use Rattle.clock.specs.Windows.{closes_window, window_start}
use Rattle.settings.specs.declared.Settings.{Settings}
use Rattle.record.specs.declared.Record.{Record}
use Rattle.store.specs.Order.{Placed}
use Rattle.operator.specs.Meters.{Operator, clear, add_all}
use Rattle.operator.specs.Results.{results}

-- the operator after some work, and the records given
pub record Worked : Type 0 where
  pub operator : Operator
  pub records : List Record

-- the results of the window that bucket j closes
unfoldable pub window_results : Settings → ℕ → ℕ → Operator → List Record
window_results s kind j o =
    results kind (record { 0 = window_start s.bucket s.window j }) 0 o.number o.meters

-- the window closed: its results, the numbering behind them, the meters cleared
unfoldable pub close : Settings → ℕ → ℕ → Operator → Worked
close s kind j o =
    record {
      operator = record { meters = (clear o).meters; number = o.number + length (window_results s kind j o) };
      records = window_results s kind j o;
    }

-- bucket j worked with these readings: they are added, and a window that it closes is
unfoldable pub work : Settings → ℕ → ℕ → List Placed → Operator → Worked
work s kind j rs o =
    cond (closes_window s.window j)
    (close s kind j (add_all s o rs))
    (record { operator = add_all s o rs; records = [] })
