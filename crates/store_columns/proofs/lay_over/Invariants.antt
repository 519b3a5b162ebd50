use Rattle.std.proofs.Common.{◌≡◌, ◌&&◌, take}
use Rattle.store_columns.specs.Tests.{are_zero, are_right}
use Rattle.store_columns.proofs.lay_over.Given as goal

-- the bits of k readings have been laid
abbrev pub invariant-loop-k : goal.invariant-loop-k
invariant-loop-k l = are_zero l.words ≡ (are_zero l.initial.words && are_right l.limit (take l.k l.kinds) (take l.k l.meters))
