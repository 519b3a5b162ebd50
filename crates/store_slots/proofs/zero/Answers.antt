-- `store_slots::zero` meets its contract: the part that is filled is a run of zeroed places.
use Rattle.std.proofs.Common.{◌≡◌, ◌-◌, ◌∙◌, ap, replicate, arith, rules}
use Rattle.store.specs.Columns.{zeroed}
use borrow.Rule.Slice.PartMut.{put_mid}
use Rattle.store_slots.proofs.Zeroing.{filled, zeroed_all}
use Rattle.store_slots.proofs.zero.Goals as goal

pub returns-clause-slots_after : goal.returns-clause-slots_after
unfolding zeroed
returns-clause-slots_after c =
    let a = c.args in
    let k = a.to - a.from in
    let part : c.fill.new.self ≡ replicate k zeroed = search rules in
    ap (put_mid a.from k a.slots.now) part ∙ filled a.from a.to a.slots.now zeroed (omega arith) (omega arith) ∙
    zeroed_all a.from a.to a.slots.now (omega arith) (omega arith)
