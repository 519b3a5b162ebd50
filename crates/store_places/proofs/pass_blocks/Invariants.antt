use Rattle.std.proofs.Common.{◌≡◌, ◌*◌, false, take}
use Rattle.store.specs.Lists.{some_of}
use Rattle.store_places.specs.Places.{is_from_to}
use Rattle.store_places.proofs.pass_blocks.Given as goal

abbrev pub invariant-loop-block : goal.invariant-loop-block
invariant-loop-block l = (l.passed ≡ l.block-index * 16) × (some_of (is_from_to l.first l.last) (take l.passed l.times) ≡ false)
