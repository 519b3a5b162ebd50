-- The loop of `decimal::read_wide`: the digits from `at` on are taken in.
use Rattle.std.proofs.Common.{◌-◌, ◌<◌, ◌≤◌, length}
use Rattle.decimal.proofs.Scanned.{Scanned}
use Rattle.decimal.proofs.read_wide.Given as goal

abbrev pub invariant-loop-value : goal.invariant-loop-value
invariant-loop-value l = Scanned l.s l.at l.end l.value × (l.at ≤ l.end) × (l.at < l.end → l.end ≤ length l.s)

abbrev pub decreases-loop-value : goal.decreases-loop-value
decreases-loop-value l = length l.s - l.end
