use Rattle.std.proofs.Common.{◌-◌, length, sym, arith}
use Rattle.store_columns.proofs.SmallSteps.{small_steps_rise}
use Rattle.store_columns.proofs.ids_rise.Goals as goal

pub returns-then-steps_back-ge-SMALL_STEPS_BACK : goal.returns-then-steps_back-ge-SMALL_STEPS_BACK
returns-then-steps_back-ge-SMALL_STEPS_BACK c =
    let ids = c.args.ids.now in
    sym
    (small_steps_rise ids (length ids - 1) c.requires (omega arith) c.if-ids-last.true (c.steps_back.ensures c.if-steps_back-ge-SMALL_STEPS_BACK.true))
