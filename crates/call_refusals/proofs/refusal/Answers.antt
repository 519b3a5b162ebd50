-- The first half of the tests decides where one of them fails; else a step passes, and for every other kind the second half decides, on
-- the line that the call names.
use Rattle.std.proofs.Common.{◌≡◌, ◌-◌, ◌<◌, ◌≤◌, get_or, sym, ◌∙◌, rules, arith}
use Rattle.answer.specs.Refusals.{answer_of, number}
use Rattle.store.specs.Sizes.{readings_per_line}
use Rattle.protocol.specs.Kinds.{kind_of}
use Rattle.protocol.specs.Node.{no_line}
use Rattle.protocol.specs.Refusals.{named_line}
use Rattle.node.specs.Held.{held}
use Rattle.node.specs.View.{head_of, view}
use Rattle.call_refusals.proofs.Halves.{names_line, step_passes, answer_early, answer_late}
use Rattle.call_refusals.proofs.Lines.{kept_fits, viewed_line_stands}
use Rattle.call_refusals.proofs.refusal.Goals as goal

pub returns-in_err-call_refusal : goal.returns-in_err-call_refusal
returns-in_err-call_refusal c =
    let s = c.args.state.now in
    let k = c.args.k in
    let e = c.in_err-call_refusal.field-0.0 in
    let same : answer_of c.from_residual.result ≡ number e = search rules in
    λ x lent room.
    same ∙ answer_early s.settings s.clock (named_line (view (held s) x) k) k (kind_of k.kind) e c.in_err-call_refusal.ensures

pub returns-then-is_step : goal.returns-then-is_step
returns-then-is_step c =
    let s = c.args.state.now in
    let k = c.args.k in
    let none = sym c.in_ok-call_refusal.ensures in
    λ x lent room.
    let line = named_line (view (held s) x) k in
    sym (step_passes line k (kind_of k.kind) (sym c.is_step.ensures ∙ c.if-is_step.true)) ∙
    answer_late s.settings s.clock line k (kind_of k.kind) none

pub overflow_sub-i : goal.overflow_sub-i
overflow_sub-i c =
    let s = c.args.state.now in
    let k = c.args.k in
    (names_line s.settings s.clock k (kind_of k.kind) (sym c.in_ok-call_refusal.ensures) (sym c.is_step.ensures ∙ c.if-is_step.false)).0

pub bounds-state-i : goal.bounds-state-i
bounds-state-i c =
    let s = c.args.state.now in
    let k = c.args.k in
    let line =
    names_line s.settings s.clock k (kind_of k.kind) (sym c.in_ok-call_refusal.ensures) (sym c.is_step.ensures ∙ c.if-is_step.false) in
    omega (arith, line, c.requires.0)

pub line_refusal-requires : goal.line_refusal-requires
unfolding head_of no_line
line_refusal-requires c =
    let s = c.args.state.now in
    let k = c.args.k in
    let line =
    names_line s.settings s.clock k (kind_of k.kind) (sym c.in_ok-call_refusal.ensures) (sym c.is_step.ensures ∙ c.if-is_step.false) in
    let below : c.args.k.line - 1 < c.args.state.now.settings.lines = omega (arith, line) in
    let small : (get_or c.args.state.now.heads (c.args.k.line - 1) (head_of no_line)).kept ≤ readings_per_line =
    kept_fits (held s) (k.line - 1) (head_of no_line) c.requires.2 below (search rules) c.requires.0 in
    omega (arith, small, below, c.requires.1)

pub returns : goal.returns
unfolding view named_line
returns c =
    let s = c.args.state.now in
    let k = c.args.k in
    let none = sym c.in_ok-call_refusal.ensures in
    let line = names_line s.settings s.clock k (kind_of k.kind) none (sym c.is_step.ensures ∙ c.if-is_step.false) in
    let below : c.args.k.line - 1 < c.args.state.now.settings.lines = omega (arith, line) in
    λ x lent room.
    let named = named_line (view (held s) x) k in
    c.line_refusal.ensures named (viewed_line_stands (held s) (k.line - 1) _ c.requires.2 below (search rules) c.requires.0 x room lent) ∙
    answer_late s.settings s.clock named k (kind_of k.kind) none
