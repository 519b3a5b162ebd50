-- There is a head for each line that there can be; what is found so far, with the test of the lines left, stays the same; and a line's
-- boundary bounds the end of a bucket that it finishes.
use Rattle.std.proofs.Common.{◌≡◌, ◌*◌, length}
use Rattle.clock.specs.Buckets.{finishes}
use Rattle.settings.specs.Limits.{max_lines}
use Rattle.store.specs.Sizes.{readings_per_line}
use Rattle.store.specs.Columns.{Columns, rows}
use Rattle.protocol.specs.Node.{Line}
use Rattle.node.proofs.EachLine.{AllLinesSoFar}
use Rattle.step_rule.proofs.StableEnd.{EndWithin}
use Rattle.step_rule.proofs.is_stable.Given as goal

abbrev pub invariant-loop-i : goal.invariant-loop-i
invariant-loop-i l =
    let s = l.s in
    record {
      heads : length l.heads ≡ max_lines;
      so_far : (x : Columns) →
          AllLinesSoFar (λ (one : Line). finishes s.bucket one.boundary l.j) s.lines l.heads (rows x (s.lines * readings_per_line))
          l.stable l.i;
      end : EndWithin s.bucket l.j l.stable l.i;
    }
