-- Few counts and small sums are within their bounds.
use Rattle.std.proofs.Common.{sym, ◌∙◌}
use Rattle.operator_bounds.proofs.SmallSums.{small_within}
use Rattle.operator_bounds.proofs.is_each_ok.Goals as goal

pub returns-then-are_sums_small : goal.returns-then-are_sums_small
returns-then-are_sums_small c =
    sym (small_within c.args.o.now (c.requires c.if-few.true) (sym c.are_sums_small.ensures ∙ c.if-are_sums_small.true))
