-- The place's sum is small, or the word's highest bit is set.
use Rattle.std.proofs.Common.{rules, refl, length, add-one, pos, w64, SFits, to_z-of_z}
use Rattle.std.proofs.lemmas.List.{length_push}
use Rattle.std.proofs.lemmas.Slice.Zip.{zip_turn}
use Rattle.operator_bounds.specs.Places.{all_below, sum_in}
use Rattle.operator_bounds.proofs.SmallSums.{sums_small_turn}
use Rattle.operator_bounds.proofs.are_sums_small.Goals as goal

pub loop-count-init : goal.loop-count-init
unfolding all_below
loop-count-init c = refl

pub loop-count-preserved : goal.loop-count-preserved
loop-count-preserved c =
    let o = c.args.o.now in
    let here =
    zip_turn (o.counts) (o.sums) c.loop-count.yielded c.into_iter-count-iterator.result c.loop-count.count-iterator c.next.new.self c.next.result
    (search rules) (search rules) c.loop-count.yielded_by (c.in-Some.count, c.in-Some.sum) c.in-Some.is c.next.ensures.steps in
    let more = length_push c.loop-count.yielded (c.in-Some.count, c.in-Some.sum) in
    let at = length c.loop-count.yielded in
    let f : SFits w64 (sum_in o at) = search rules in
    let told = rw (here.2 0, here.3 (pos 0), to_z-of_z f) at c.beyond_half-all.ensures in
    rw (more, add-one at) (sums_small_turn o at c.loop-count.all c.beyond_half-all.result told c.loop-count.invariant)
