-- Empty meters are within their bounds.
use Rattle.std.proofs.Common.{◌&&◌, sym, ◌∙◌, ap₂}
use Rattle.operator_bounds.proofs.Places.{empty_within}
use Rattle.operator_bounds.proofs.are_within_bounds.Goals as goal

pub returns-then-are_meters_empty : goal.returns-then-are_meters_empty
returns-then-are_meters_empty c =
    let (operator, checkpoint) =
    empty_within c.args.operator.now c.args.checkpoint.now c.counts_over-over.result c.counts_over-over.ensures
    (sym c.are_meters_empty.ensures ∙ c.if-are_meters_empty.true) in
    sym (ap₂ ◌&&◌ operator checkpoint)
