-- The parts' tests, one after the other.
use Rattle.std.proofs.Common.{ap}
use mathlib.Core.Bool.{not}
use Rattle.node.specs.Held.{held}
use Rattle.node.specs.View.{places, view}
use Rattle.node.proofs.Limits.{limits_hold}
use Rattle.call_shape.proofs.Whole.{wrong_state, own_limits, wrong_lines, left_to_meters}
use Rattle.call_shape.proofs.is_in_shape.Goals as goal

pub returns-then-not-is_state_ok : goal.returns-then-not-is_state_ok
returns-then-not-is_state_ok c =
    λ x lent. wrong_state (held c.args.state.now) _ c.is_state_ok.ensures x (ap not c.if-not-is_state_ok.true)

pub are_lines_ok-requires : goal.are_lines_ok-requires
are_lines_ok-requires c =
    let s = c.args.state.now in
    let limits = own_limits (held s) _ c.is_state_ok.ensures (ap not c.if-not-is_state_ok.false) in
    ((limits_hold s.settings limits).lines, c.requires.0, c.requires.1, c.requires.2)

pub returns-then-not-are_lines_ok : goal.returns-then-not-are_lines_ok
unfolding places view
returns-then-not-are_lines_ok c =
    λ x lent.
    wrong_lines (held c.args.state.now) _ c.is_state_ok.ensures (ap not c.if-not-is_state_ok.false) x _ (c.are_lines_ok.ensures x lent)
    (ap not c.if-not-are_lines_ok.true)

pub returns : goal.returns
unfolding places view
returns c =
    λ x lent.
    left_to_meters (held c.args.state.now) _ c.is_state_ok.ensures (ap not c.if-not-is_state_ok.false) x _ (c.are_lines_ok.ensures x lent)
    (ap not c.if-not-are_lines_ok.false) _ c.are_within_bounds.ensures
