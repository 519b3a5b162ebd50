-- The parts are those of the law on small sums.
use Rattle.std.proofs.Common.{arith, to_z-of_z}
use Rattle.operator_bounds.proofs.SmallSums.{half_told}
use Rattle.operator_bounds.proofs.beyond_half.Goals as goal

pub returns : goal.returns
returns c =
    half_told c.args.count c.to_word-bits.result c.wrapping_add_u64.result c.wrapping_sub_u64.result (omega arith) (omega arith) c.args.sum
    c.ranges.sum.sfits (rw (to_z-of_z c.ranges.sum) at c.to_word-bits.ensures) (omega arith) (omega arith)
