-- The loop of `decimal::read_number`: the digits from `at` on are taken in, and none that was is the text's last byte.
use Rattle.std.proofs.Common.{◌-◌, ◌<◌, ◌≤◌, length}
use Rattle.decimal.proofs.Scanned.{Scanned}
use Rattle.decimal.proofs.read_number.Given as goal

abbrev pub invariant-loop-value : goal.invariant-loop-value
invariant-loop-value l = Scanned l.s l.at l.i l.value × (l.at < l.i) × (l.i < length l.s) × (l.value ≤ l.most)

abbrev pub decreases-loop-value : goal.decreases-loop-value
decreases-loop-value l = length l.s - l.i
