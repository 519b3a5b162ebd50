-- `step_rule::some_overdue` meets its contract: what is found so far, with the test of the lines left, stays the same.
use mathlib.Core.Path.{ap₂}
use Rattle.std.proofs.Common.{ℕ, List, ◌∙◌, ◌≡◌, ◌+◌, ◌-◌, ◌*◌, ◌≤◌, ◌<◌, length, get_or, take, drop, arith, rules}
use Rattle.store.specs.Sizes.{readings_per_line}
use Rattle.store.specs.Columns.{rows}
use Rattle.protocol.specs.Node.{no_line}
use Rattle.protocol.specs.Rules.{some_overdue}
use Rattle.node.specs.View.{head_of}
use Rattle.node.proofs.Lines.{small_at}
use Rattle.node.proofs.EachLine.{some_line_turn, some_line_end}
use Rattle.store_columns.specs.Tests.{some_of_both, is_late_due}
use Rattle.step_rule.proofs.Overdue.{keeps_overdue, line_overdue, part_share, either_starts}
use Rattle.step_rule.proofs.some_overdue.Goals as goal

pub slice_bounds-some_due-end : goal.slice_bounds-some_due-end
unfolding head_of no_line
slice_bounds-some_due-end c =
    let s = c.args.state.now in
    let l = c.loop-i in
    let below : c.loop-i.i < c.args.state.now.settings.lines = c.loop-i-test.true in
    let enough : c.args.state.now.settings.lines ≤ length c.args.state.now.heads = omega (arith, l.invariant.heads, c.requires.0) in
    -- line i keeps no more readings than its share has places
    let small : (get_or c.args.state.now.heads c.loop-i.i (head_of no_line)).kept ≤ readings_per_line =
    small_at s.settings.lines s.heads l.i c.requires.4 below enough in
    omega (arith, below, small, c.requires.2)

pub slice_bounds-some_due-end-in-loop-i : goal.slice_bounds-some_due-end-in-loop-i
unfolding head_of no_line
slice_bounds-some_due-end-in-loop-i c =
    let s = c.args.state.now in
    let l = c.loop-i in
    let below : c.loop-i.i < c.args.state.now.settings.lines = c.loop-i-test.true in
    let enough : c.args.state.now.settings.lines ≤ length c.args.state.now.heads = omega (arith, l.invariant.heads, c.requires.0) in
    -- line i keeps no more readings than its share has places
    let small : (get_or c.args.state.now.heads c.loop-i.i (head_of no_line)).kept ≤ readings_per_line =
    small_at s.settings.lines s.heads l.i c.requires.4 below enough in
    omega (arith, below, small, c.requires.3)

pub loop-i-preserved : goal.loop-i-preserved
unfolding head_of no_line
loop-i-preserved c =
    let s = c.args.state.now in
    let l = c.loop-i in
    let below : c.loop-i.i < c.args.state.now.settings.lines = c.loop-i-test.true in
    let enough : c.args.state.now.settings.lines ≤ length c.args.state.now.heads = omega (arith, l.invariant.heads, c.requires.0) in
    -- line i keeps no more readings than its share has places
    let small : (get_or c.args.state.now.heads c.loop-i.i (head_of no_line)).kept ≤ readings_per_line =
    small_at s.settings.lines s.heads l.i c.requires.4 below enough in
    let n : ℕ = (get_or c.args.state.now.heads c.loop-i.i (head_of no_line)).kept in
    let base : ℕ = l.i * readings_per_line in
    let late = is_late_due s.settings.bucket s.p s.settings.hold c.args.tick in
    record {
      heads = l.invariant.heads;
      so_far = λ x told told' room.
          some_line_turn (keeps_overdue s.settings s.p c.args.tick) s.settings.lines s.heads (rows x (s.settings.lines * readings_per_line))
          enough l.found l.i (l.invariant.so_far x told told' room) below _
          (line_overdue s.settings s.p c.args.tick x s.heads l.i c.args.readings.now.times.now c.args.readings.now.arrivals.now below small
          room told told' _ (c.some_due-found.ensures.value ∙ ap₂ (λ (ts rs : List ℕ). some_of_both late ts rs)
          (part_share base n c.args.readings.now.times.now) (part_share base n c.args.readings.now.arrivals.now)));
      start = either_starts l.found c.some_due-found.result l.invariant.start c.some_due-found.ensures.start;
    }

pub returns-clause-value : goal.returns-clause-value
unfolding some_overdue
returns-clause-value c =
    let s = c.args.state.now in
    let l = c.loop-i in
    let enough : c.args.state.now.settings.lines ≤ length c.args.state.now.heads = omega (arith, l.invariant.heads, c.requires.0) in
    λ x told told' room.
    some_line_end (keeps_overdue s.settings s.p c.args.tick) s.settings.lines s.heads (rows x (s.settings.lines * readings_per_line)) enough
    l.found l.i (l.invariant.so_far x told told' room) c.loop-i-test.false
