-- The loop takes the lines one by one, and what is left comes to the same; there is a head for each line that there can be, and the same
-- slices stay lent.
use Rattle.std.proofs.Common.{◌≡◌, length}
use Rattle.settings.specs.Limits.{max_lines}
use Rattle.store.specs.Lent.{columns, SameLoans}
use Rattle.step_stable.proofs.Removed.{Removing}
use Rattle.step_stable.proofs.remove.Given as goal

abbrev pub invariant-loop-i : goal.invariant-loop-i
invariant-loop-i l =
    record {
      removing : Removing l.s l.j l.fn.heads (columns l.fn.readings) l.heads (columns l.readings) l.i;
      heads : length l.heads ≡ max_lines;
      loans : SameLoans l.fn.readings l.readings;
    }
