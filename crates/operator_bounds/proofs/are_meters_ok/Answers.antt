-- The operator's meters are tested, and the checkpoint's unless they are the same.
use Rattle.std.proofs.Common.{◌&&◌, sym, ◌∙◌, ap₂, ltb-true}
use Rattle.operator_meter.specs.Bounds.{count_limit}
use Rattle.operator_bounds.proofs.Places.{equal_within}
use Rattle.operator_bounds.proofs.SmallSums.{counts_few}
use Rattle.operator_bounds.proofs.are_meters_ok.Goals as goal

pub is_each_ok-requires : goal.is_each_ok-requires
is_each_ok-requires c = λ h. (counts_few c.args.operator.now c.args.checkpoint.now c.args.over c.requires (ltb-true c.args.over count_limit h)).0

pub returns-then-are_meters_equal : goal.returns-then-are_meters_equal
returns-then-are_meters_equal c =
    let same = equal_within c.args.operator.now c.args.checkpoint.now (sym c.are_meters_equal.ensures ∙ c.if-are_meters_equal.true) in
    let ok = sym c.is_each_ok.ensures ∙ c.if-not-is_each_ok.false in
    sym (ap₂ ◌&&◌ ok (sym same ∙ ok))

pub is_each_ok-requires-2 : goal.is_each_ok-requires-2
is_each_ok-requires-2 c = λ h. (counts_few c.args.operator.now c.args.checkpoint.now c.args.over c.requires (ltb-true c.args.over count_limit h)).1
