-- The word of the place's meter is laid over those before.
use Rattle.std.proofs.Common.{rules, arith, length, add-one, pos, w64, SFits, to_z-of_z}
use Rattle.std.proofs.lemmas.List.{length_push}
use Rattle.std.proofs.lemmas.Slice.Zip.{zip_turn, zip_end}
use Rattle.operator_meter.specs.Bounds.{meter_ok}
use Rattle.operator.specs.Loaded.{operator_of}
use Rattle.operator.proofs.Loaded.{length_meters}
use Rattle.operator_bounds.specs.Places.{sum_in}
use Rattle.operator_bounds.proofs.Turns.{so_far_end}
use Rattle.operator_bounds.proofs.OneMeter.{meter_turn}
use Rattle.operator_bounds.proofs.is_each_within_bounds.Goals as goal

pub loop-n-preserved : goal.loop-n-preserved
loop-n-preserved c =
    let o = c.args.o.now in
    let here =
    zip_turn (o.counts) (o.sums) c.loop-n.yielded c.into_iter-n-iterator.result c.loop-n.n-iterator c.next.new.self c.next.result
    (search rules) (search rules) c.loop-n.yielded_by (c.in-Some.n, c.in-Some.sum) c.in-Some.is c.next.ensures.steps in
    let more = length_push c.loop-n.yielded (c.in-Some.n, c.in-Some.sum) in
    let at = length c.loop-n.yielded in
    let f : SFits w64 (sum_in o at) = search rules in
    let told = rw (here.2 0, here.3 (pos 0), to_z-of_z f) at c.beyond-all.ensures in
    rw (more, add-one at) (meter_turn o c.loop-n.all c.beyond-all.result at (omega (arith, here.0)) told c.loop-n.invariant)

pub returns : goal.returns
returns c =
    let o = c.args.o.now in
    let all =
    zip_end o.counts o.sums c.loop-n.yielded c.into_iter-n-iterator.result c.loop-n.n-iterator c.next.new.self c.next.result
    (search rules) (search rules) c.loop-n.yielded_by c.in-None.is c.next.ensures.steps in
    so_far_end meter_ok (operator_of o).meters _ (length c.loop-n.yielded) (omega (arith, length_meters o.counts o.sums o.lasts, all))
    c.loop-n.invariant
