-- The place's counts are equal, or the word is no longer 0.
use Rattle.std.proofs.Common.{rules, refl, length, add-one}
use Rattle.std.proofs.lemmas.List.{length_push}
use Rattle.std.proofs.lemmas.Slice.Zip.{zip_turn}
use Rattle.operator_bounds.specs.Places.{all_below}
use Rattle.operator_bounds.proofs.Places.{counts_equal_turn}
use Rattle.operator_bounds.proofs.are_counts_equal.Goals as goal

pub loop-first-init : goal.loop-first-init
unfolding all_below
loop-first-init c = refl

pub loop-first-preserved : goal.loop-first-preserved
loop-first-preserved c =
    let o = c.args.operator.now in
    let p = c.args.checkpoint.now in
    let here =
    zip_turn (o.counts) (p.counts) c.loop-first.yielded c.into_iter-first-iterator.result c.loop-first.first-iterator c.next.new.self c.next.result
    (search rules) (search rules) c.loop-first.yielded_by (c.in-Some.first, c.in-Some.second) c.in-Some.is c.next.ensures.steps in
    let more = length_push c.loop-first.yielded (c.in-Some.first, c.in-Some.second) in
    let at = length c.loop-first.yielded in
    rw (more, add-one at, here.2 0, here.3 0) (counts_equal_turn o p at c.loop-first.apart c.loop-first.invariant)
