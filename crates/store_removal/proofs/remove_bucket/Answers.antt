-- `store_removal::remove_bucket` meets its contract: run by run, the readings that stay of those that are left make the same store.
use Rattle.std.proofs.Common.{◌+◌, ◌<◌, refl, arith, rules}
use Rattle.store_removal.proofs.Removed.{room_yet, next_on, removing_turn, removed_count, removed_rows}
use Rattle.store_removal.proofs.remove_bucket.Goals as goal

pub loop-from-smaller : goal.loop-from-smaller
loop-from-smaller c =
    let a = c.args in
    let run = c.next_run-until in
    let on : c.loop-from.from < run.result.1 =
    next_on a.bucket a.j _ a.base (a.base + a.n) _ _ _ c.loop-from.invariant.removing c.loop-from.invariant.room
    run.result.0 run.result.1 run.ensures.within run.ensures.until run.ensures.next c.loop-from-test.true in
    omega arith

pub loop-from-preserved : goal.loop-from-preserved
loop-from-preserved c =
    let a = c.args in
    let run = c.next_run-until in
    let removing =
    removing_turn a.bucket a.j _ a.base (a.base + a.n) _ _ _ c.loop-from.invariant.removing c.loop-from.invariant.room
    run.result.0 run.result.1 run.ensures.within run.ensures.until run.ensures.next _ c.move_run.ensures.moved in
    record {
      same_loans = search rules;
      room = room_yet a.bucket a.j _ a.base (a.base + a.n) _ _ _ removing c.requires.3;
      removing = removing;
    }

pub overflow_sub-result : goal.overflow_sub-result
overflow_sub-result c =
    let a = c.args in
    omega (arith, removed_count a.bucket a.j _ a.base (a.base + a.n) _ _ _ c.loop-from.invariant.removing a.n refl c.loop-from-test.false)

pub returns-clause-kept : goal.returns-clause-kept
returns-clause-kept c =
    let a = c.args in
    let v = c.loop-from.invariant.removing in (
      omega (arith, removed_count a.bucket a.j _ a.base (a.base + a.n) _ _ _ v a.n refl c.loop-from-test.false),
      removed_rows a.bucket a.j _ a.base (a.base + a.n) _ _ _ v a.n refl c.loop-from-test.false _ c.zero.ensures.zeroes,
    )
