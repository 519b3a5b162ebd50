use Rattle.std.proofs.Common.{◌≡◌, ◌&&◌, length}
use Rattle.std.specs.List.{concat}
use Rattle.store_columns.specs.Tests.{are_zero, are_right}
use Rattle.store_columns.proofs.are_readings.Given as goal

-- what is told so far, together with the test of the blocks that are left, stays the same
abbrev pub invariant-loop-block : goal.invariant-loop-block
invariant-loop-block l =
    let blocks = l.block-iterator.a.rest.now in
    let meter_blocks = l.block-iterator.b.rest.now in
    (length blocks ≡ length meter_blocks)
    × ((are_zero l.wrong && are_right l.limit (concat blocks) (concat meter_blocks)) ≡ are_right l.limit l.kinds l.meters)
