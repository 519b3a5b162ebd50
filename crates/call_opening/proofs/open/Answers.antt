-- Each way out is the law of what the text was read as.
use Rattle.std.proofs.Common.{◌≡◌, false, sym, ◌∙◌, arith, rules}
use lib.Seq.{length-take-le}
use Rattle.answer.specs.Refusals.{answer_of, number}
use Rattle.retransmission.specs.Sizes.{held_bytes}
use Rattle.node.specs.Held.{held}
use Rattle.node.specs.View.{Lent, lent}
use Rattle.node.specs.Opening.{is_short}
use Rattle.node.proofs.Opening.{not_short}
use Rattle.call_opening.proofs.Openings.{measured, front_filled, opening_refused, opening_short, opening_done}
use Rattle.call_opening.proofs.open.Goals as goal

pub returns-in_err-s-clause-opened : goal.returns-in_err-s-clause-opened
returns-in_err-s-clause-opened c =
    let a = c.args in
    let e = c.in_err-s.field-0.0 in
    let same : answer_of c.from_residual.result ≡ number e = search rules in
    rw same
    (opening_refused (held a.state.now) (lent a.stores.now) a.text.now e (sym c.read_settings.ensures.value ∙ c.in_err-s.was))

pub returns-then-is_short-stores-clause-opened : goal.returns-then-is_short-stores-clause-opened
returns-then-is_short-stores-clause-opened c =
    let a = c.args in
    let s = c.in_ok-s.s in
    opening_short (held a.state.now) (lent a.stores.now) a.text.now s (sym c.read_settings.ensures.value ∙ c.in_ok-s.was)
    (measured s.lines (lent a.stores.now) c.is_short.result c.view.ensures c.is_short.ensures ∙ c.if-is_short-stores.true)

pub zero-requires : goal.zero-requires
zero-requires c =
    let x : Lent = lent c.args.stores.now in
    let s = c.in_ok-s.s in
    let long =
    not_short s.lines x (measured s.lines x c.is_short.result c.view.ensures c.is_short.ensures ∙ c.if-is_short-stores.false) in
    (omega arith, omega (arith, long.0))

pub slice_bounds-fill-end : goal.slice_bounds-fill-end
slice_bounds-fill-end c =
    let x : Lent = lent c.args.stores.now in
    let s = c.in_ok-s.s in
    let long =
    not_short s.lines x (measured s.lines x c.is_short.result c.view.ensures c.is_short.ensures ∙ c.if-is_short-stores.false) in
    omega (arith, long.1, length-take-le held_bytes x.sent long.1)

pub returns-clause-opened : goal.returns-clause-opened
returns-clause-opened c =
    let a = c.args in
    let x : Lent = lent a.stores.now in
    let s = c.in_ok-s.s in
    let enough : is_short s.lines x ≡ false =
    measured s.lines x c.is_short.result c.view.ensures c.is_short.ensures ∙ c.if-is_short-stores.false in
    let long = not_short s.lines x enough in
    opening_done (held a.state.now) x a.text.now s (sym c.read_settings.ensures.value ∙ c.in_ok-s.was) enough
    {fresh = held c.fresh_state.result} c.fresh_state.ensures c.zero.ensures.zeroes
    (front_filled x.sent c.fill.new.self held_bytes long.1 (search rules))
