-- `store_removal::move_run` meets its contract: a run moved in every column is its rows written further down.
use Rattle.std.proofs.Common.{arith}
use Rattle.store_removal.proofs.Moved.{moved_rows, unmoved_rows}
use Rattle.store_removal.proofs.move_run.Goals as goal

pub returns-then-to-from-clause-moved : goal.returns-then-to-from-clause-moved
returns-then-to-from-clause-moved c =
    moved_rows _ c.args.from c.args.to c.args.n c.requires.1 c.move_down.ensures c.move_down-then-to-from.ensures
    c.move_down-then-to-from-2.ensures c.move_down-then-to-from-3.ensures c.move_down-then-to-from-4.ensures c.move_down-then-to-from-5.ensures

pub returns-else-to-from-clause-moved : goal.returns-else-to-from-clause-moved
returns-else-to-from-clause-moved c = unmoved_rows _ c.args.from c.args.to c.args.n (omega arith)
