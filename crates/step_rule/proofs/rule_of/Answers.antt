-- `step_rule::rule_of` meets its contract: the tests in their order; what they need of the settings and the heads, their shape gives.
use Rattle.std.proofs.Common.{take, arith}
use Rattle.node.specs.Held.{held}
use Rattle.node.specs.View.{places, view}
use Rattle.node.proofs.Limits.{limits_hold}
use Rattle.step_rule.proofs.SmallHeads.{small_heads}
use Rattle.step_rule.proofs.InOrder.{withdraws, works_stable, ends_correction, works_tentative, idles}
use Rattle.step_rule.proofs.rule_of.Goals as goal

pub is_stable-requires : goal.is_stable-requires
is_stable-requires c = (limits_hold c.args.state.now.settings c.requires.0).lines

pub some_overdue-requires : goal.some_overdue-requires
some_overdue-requires c =
    let s = c.args.state.now in
    let limits = limits_hold s.settings c.requires.0 in (
      limits.lines,
      omega (arith, limits.least_bucket),
      c.requires.1,
      c.requires.2,
      small_heads (take s.settings.lines s.heads) c.requires.3,
    )

pub returns-then-state-clause-value : goal.returns-then-state-clause-value
unfolding view places
returns-then-state-clause-value c =
    let s = c.args.state.now in
    λ x told told' room.
    withdraws s.settings (view (held s) x) c.args.tick (c.is_stable.ensures.value x) c.if-is_stable.true c.if-state.true

pub returns-then-is_stable-clause-value : goal.returns-then-is_stable-clause-value
unfolding view places
returns-then-is_stable-clause-value c =
    let s = c.args.state.now in
    λ x told told' room.
    works_stable s.settings (view (held s) x) c.args.tick (c.is_stable.ensures.value x) c.if-is_stable.true c.if-state.false

pub returns-then-is_stable-clause-stable_end : goal.returns-then-is_stable-clause-stable_end
returns-then-is_stable-clause-stable_end c =
    let limits = limits_hold c.args.state.now.settings c.requires.0 in
    λ e. c.is_stable.ensures.j_bound c.if-is_stable.true (omega (arith, limits.some_lines))

pub returns-then-is_correcting-clause-value : goal.returns-then-is_correcting-clause-value
unfolding view places
returns-then-is_correcting-clause-value c =
    let s = c.args.state.now in
    λ x told told' room.
    ends_correction s.settings (view (held s) x) c.args.tick (c.is_stable.ensures.value x) c.if-is_stable.false c.is_correcting.ensures
    c.if-is_correcting.true

pub returns-then-some_overdue-clause-value : goal.returns-then-some_overdue-clause-value
unfolding view places
returns-then-some_overdue-clause-value c =
    let s = c.args.state.now in
    λ x told told' room.
    works_tentative s.settings (view (held s) x) c.args.tick (c.is_stable.ensures.value x) c.if-is_stable.false c.is_correcting.ensures
    c.if-is_correcting.false (c.some_overdue.ensures.value x told told' room) c.if-some_overdue.true

pub returns-then-some_overdue-clause-tentative_start : goal.returns-then-some_overdue-clause-tentative_start
returns-then-some_overdue-clause-tentative_start c = λ e. c.some_overdue.ensures.start c.if-some_overdue.true

pub returns-clause-value : goal.returns-clause-value
unfolding view places
returns-clause-value c =
    let s = c.args.state.now in
    λ x told told' room.
    idles s.settings (view (held s) x) c.args.tick (c.is_stable.ensures.value x) c.if-is_stable.false c.is_correcting.ensures
    c.if-is_correcting.false (c.some_overdue.ensures.value x told told' room) c.if-some_overdue.false
