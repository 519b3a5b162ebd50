-- The parts are those of the law on one meter's word.
use Rattle.std.proofs.Common.{arith, to_z-of_z}
use Rattle.operator_bounds.proofs.OneMeter.{beyond_told}
use Rattle.operator_bounds.proofs.beyond.Goals as goal

pub returns : goal.returns
returns c =
    λ last.
    let left = c.wrapping_sub_u64-left.result in
    let above = c.wrapping_add_u64-above_lowest.result in
    let below = c.wrapping_sub_u64-below_highest.result in
    beyond_told c.args.count c.to_word-bits.result left above below c.args.sum last c.ranges.count.fits c.ranges.sum.sfits
    (rw (to_z-of_z c.ranges.sum) at c.to_word-bits.ensures)
    (omega arith)
    (omega arith)
    (omega arith)
    (omega arith)
    (omega arith)
