use Rattle.std.proofs.Common.{◌≡◌, nat_eq, take}
use Rattle.store_columns.specs.Tests.{are_zero}
use Rattle.store_columns.proofs.are_all_zero.Given as goal

abbrev pub invariant-loop-word : goal.invariant-loop-word
invariant-loop-word l = nat_eq l.any 0 ≡ are_zero (take l.word-index l.words)
