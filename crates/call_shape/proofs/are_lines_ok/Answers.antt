-- `call_shape::are_lines_ok` meets its contract: a line that fails fails them all, and behind the last one all have passed.
use Rattle.std.proofs.Common.{sym, ◌∙◌, arith, rules}
use Rattle.call_shape.proofs.LinesInShape.{small_head, lines_wrong_head, lines_wrong_share, lines_turn, lines_end}
use Rattle.call_shape.proofs.are_lines_ok.Goals as goal

pub returns-then-not-is_head_ok : goal.returns-then-not-is_head_ok
returns-then-not-is_head_ok c =
    let s = c.args.state.now in
    let l = c.loop-i in
    λ x lent.
    lines_wrong_head s.settings.lines s.heads c.args.readings l.i l.invariant x lent (search rules) c.requires.0 c.loop-i-test.true _
    (sym c.is_head_ok.ensures ∙ c.if-not-is_head_ok.true)

pub is_share_ok-requires : goal.is_share_ok-requires
is_share_ok-requires c =
    let small = small_head _ (sym c.is_head_ok.ensures ∙ c.if-not-is_head_ok.false) in
    (small, omega (arith, small), omega (arith, small), omega (arith, small))

pub returns-then-not-is_share_ok : goal.returns-then-not-is_share_ok
returns-then-not-is_share_ok c =
    let s = c.args.state.now in
    let l = c.loop-i in
    λ x lent.
    lines_wrong_share s.settings.lines s.heads c.args.readings l.i l.invariant x lent (search rules) c.requires.0 c.loop-i-test.true _
    (sym c.is_head_ok.ensures ∙ c.if-not-is_head_ok.false) _ c.is_share_ok.ensures c.if-not-is_share_ok.true

pub loop-i-preserved : goal.loop-i-preserved
loop-i-preserved c =
    let s = c.args.state.now in
    let l = c.loop-i in
    λ x lent.
    lines_turn s.settings.lines s.heads c.args.readings l.i l.invariant x lent (search rules) c.requires.0 c.loop-i-test.true _
    (sym c.is_head_ok.ensures ∙ c.if-not-is_head_ok.false) _ c.is_share_ok.ensures c.if-not-is_share_ok.false

pub returns : goal.returns
returns c =
    let s = c.args.state.now in
    let l = c.loop-i in
    λ x lent. lines_end s.settings.lines s.heads c.args.readings l.i l.invariant x lent c.loop-i-test.false
