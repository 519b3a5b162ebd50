-- Run by run, the readings that stay of those that are left make the same store.
use Rattle.std.proofs.Common.{◌-◌, ◌≤◌}
use Rattle.store.specs.Columns.{store_length}
use Rattle.store.specs.Lent.{columns, SameLoans}
use Rattle.store_removal.proofs.Removed.{Removing}
use Rattle.store_removal.proofs.remove_bucket.Given as goal

abbrev pub invariant-loop-from : goal.invariant-loop-from
invariant-loop-from l = record {
  same_loans : SameLoans l.initial.store l.store;
  room : l.end ≤ store_length (columns l.store);
  removing : Removing l.bucket l.j (columns l.initial.store) l.base l.end (columns l.store) l.to l.from;
}

abbrev pub decreases-loop-from : goal.decreases-loop-from
decreases-loop-from l = l.end - l.from
