-- `step_rule::is_stable` meets its contract: what is found so far, with the test of the lines left, stays the same; and a line's boundary
-- bounds the end of a bucket that it finishes.
use Rattle.std.proofs.Common.{◌≡◌, ◌*◌, ◌+◌, ◌≤◌, ◌<◌, ◌∙◌, length, get_or, arith, rules}
use Rattle.clock.specs.Buckets.{finishes}
use Rattle.store.specs.Sizes.{readings_per_line}
use Rattle.store.specs.Columns.{rows}
use Rattle.protocol.specs.Node.{Line, no_line, is_stable_bucket}
use Rattle.node.specs.View.{view_line, head_of}
use Rattle.node.proofs.EachLine.{all_lines_turn, all_lines_end}
use Rattle.step_rule.proofs.StableEnd.{end_within_turn}
use Rattle.step_rule.proofs.is_stable.Goals as goal

pub loop-i-preserved : goal.loop-i-preserved
unfolding view_line head_of no_line
loop-i-preserved c =
    let s = c.args.s in
    let l = c.loop-i in
    let below : c.loop-i.i < c.args.s.lines = c.loop-i-test.true in
    let enough : c.args.s.lines ≤ length c.args.heads.now = omega (arith, l.invariant.heads, c.requires) in
    record {
      heads = l.invariant.heads;
      so_far = λ x.
          all_lines_turn (λ (one : Line). finishes s.bucket one.boundary c.args.j) s.lines c.args.heads.now
          (rows x (s.lines * readings_per_line)) enough l.stable l.i (l.invariant.so_far x) below _ c.is_finished-stable.ensures.value;
      end = end_within_turn s.bucket c.args.j l.stable c.is_finished-stable.result (l.i + 1) c.is_finished-stable.ensures.end;
    }

pub returns-clause-value : goal.returns-clause-value
unfolding is_stable_bucket
returns-clause-value c =
    let s = c.args.s in
    let l = c.loop-i in
    let enough : c.args.s.lines ≤ length c.args.heads.now = omega (arith, l.invariant.heads, c.requires) in
    λ x.
    all_lines_end (λ (one : Line). finishes s.bucket one.boundary c.args.j) s.lines c.args.heads.now
    (rows x (s.lines * readings_per_line)) enough l.stable l.i (l.invariant.so_far x) (omega arith)
