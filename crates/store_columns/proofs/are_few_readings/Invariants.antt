use Rattle.std.proofs.Common.{◌≡◌, ◌&&◌, nat_lt, length}
use Rattle.store_columns.specs.Tests.{are_right}
use Rattle.store_columns.proofs.are_few_readings.Given as goal

-- what is told so far, together with the test of what is left, stays the same
abbrev pub invariant-loop-kind : goal.invariant-loop-kind
invariant-loop-kind l =
    let kinds = l.kind-iterator.a.rest.now in
    let meters = l.kind-iterator.b.rest.now in
    (length kinds ≡ length meters)
    × (((nat_lt l.less 2 && nat_lt l.any l.limit) && are_right l.limit kinds meters) ≡ are_right l.limit l.kinds l.meters)
