use Rattle.std.proofs.Common.{◌-◌, ◌*◌, ◌/◌, length, take, drop}
use Rattle.std.specs.List.{concat}
use Rattle.store_columns.specs.Steps.{AreSmallBack, AreSmallSteps}
use Rattle.store_columns.proofs.steps_back.Given as goal

-- the last block has been laid, and so many of the whole ones that where those left are small, all are
abbrev pub invariant-loop-block : goal.invariant-loop-block
invariant-loop-block l =
    let n = length l.ids in
    let whole = n / 8 * 8 in
    AreSmallBack l.words →
    AreSmallSteps (drop (n - 8) l.ids) (drop (n - 8) l.nexts)
    × (AreSmallSteps (concat l.block-iterator.a.rest.now) (concat l.block-iterator.b.rest.now) → AreSmallSteps (take whole l.ids) (take whole l.nexts))
