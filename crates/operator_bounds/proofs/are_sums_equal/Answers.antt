-- The place's sums are equal, or the word is no longer 0.
use Rattle.std.proofs.Common.{rules, refl, length, add-one, pos, w64, SFits, to_z-of_z}
use Rattle.std.proofs.lemmas.List.{length_push}
use Rattle.std.proofs.lemmas.Slice.Zip.{zip_turn}
use Rattle.operator_bounds.specs.Places.{all_below, sum_in}
use Rattle.operator_bounds.proofs.Places.{sums_equal_turn}
use Rattle.operator_bounds.proofs.are_sums_equal.Goals as goal

pub loop-first-init : goal.loop-first-init
unfolding all_below
loop-first-init c = refl

pub loop-first-preserved : goal.loop-first-preserved
loop-first-preserved c =
    let o = c.args.operator.now in
    let p = c.args.checkpoint.now in
    let here =
    zip_turn (o.sums) (p.sums) c.loop-first.yielded c.into_iter-first-iterator.result c.loop-first.first-iterator c.next.new.self c.next.result
    (search rules) (search rules) c.loop-first.yielded_by (c.in-Some.first, c.in-Some.second) c.in-Some.is c.next.ensures.steps in
    let more = length_push c.loop-first.yielded (c.in-Some.first, c.in-Some.second) in
    let at = length c.loop-first.yielded in
    let f : SFits w64 (sum_in o at) = search rules in
    let g : SFits w64 (sum_in p at) = search rules in
    let v = rw (here.2 (pos 0), to_z-of_z f) at c.to_word.ensures in
    let w = rw (here.3 (pos 0), to_z-of_z g) at c.to_word-in-loop-first.ensures in
    rw (more, add-one at) (sums_equal_turn o p at c.loop-first.apart _ _ (f.sfits, g.sfits, v, w) c.loop-first.invariant)
