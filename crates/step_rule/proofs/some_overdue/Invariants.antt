-- There is a head for each line that there can be, and what is found so far, with the test of the lines left, stays the same.
use Rattle.std.proofs.Common.{◌≡◌, true, ◌*◌, ◌^◌, ◌≤◌, ◌<◌, length}
use Rattle.settings.specs.Limits.{max_lines}
use Rattle.store.specs.Sizes.{readings_per_line}
use Rattle.store.specs.Columns.{Columns, store_length, rows}
use Rattle.node.proofs.EachLine.{SomeLineSoFar}
use Rattle.step_rule.proofs.Overdue.{keeps_overdue}
use Rattle.step_rule.proofs.some_overdue.Given as goal

abbrev pub invariant-loop-i : goal.invariant-loop-i
invariant-loop-i l =
    let s = l.state.settings in
    record {
      heads : length l.state.heads ≡ max_lines;
      so_far : (x : Columns) → x.times ≡ l.readings.times.now → x.arrivals ≡ l.readings.arrivals.now →
          s.lines * readings_per_line ≤ store_length x →
          SomeLineSoFar (keeps_overdue s l.state.p l.tick) s.lines l.state.heads (rows x (s.lines * readings_per_line)) l.found l.i;
      start : l.found ≡ true → l.state.p * s.bucket < 2 ^ 32;
    }
