use Rattle.std.proofs.Common.{◌≡◌, ℕ, ◌-◌, ◌*◌, ◌/◌, ◌⊎◌, ◌∷◌, take, drop, length, sym, ◌∙◌, arith, rules}
use Rattle.std.specs.List.{concat}
use Rattle.store_columns.proofs.Chunks.{joined}
use Rattle.store_columns.proofs.SmallSteps.{steps_append, steps_cover, steps_done}
use Rattle.store_columns.proofs.steps_back.Goals as goal

pub loop-block-init : goal.loop-block-init
loop-block-init c =
    let ids = c.args.ids.now in
    let nexts = c.args.nexts.now in
    let n : ℕ = length ids in
    let it = c.into_iter-block-iterator.result in
    let whole : concat it.a.rest.now ≡ take (n / 8 * 8) ids = (search rules) ∙ joined 8 (n / 8) ids in
    let nexts_whole : concat it.b.rest.now ≡ take (length nexts / 8 * 8) nexts = (search rules) ∙ joined 8 (length nexts / 8) nexts in
    let ends : c.in-Some-Some.last.now ≡ drop (n - 8) ids = search rules in
    let nexts_end : c.in-Some-Some.next_last.now ≡ drop (length nexts - 8) nexts = search rules in
    let same : length nexts ≡ n = sym c.requires in
    λ small. (
      (rw (ends, nexts_end, same) at ((c.lay_steps.ensures.laid small).1)),
      λ steps. (rw (whole, nexts_whole, same) at steps),
    )

pub loop-block-preserved : goal.loop-block-preserved
loop-block-preserved c =
    let before = c.loop-block.block-iterator in
    let after = c.next.new.self in
    let block = c.in-Some.block.now in
    let next_block = c.in-Some.next_block.now in
    let here : before.a.rest.now ≡ block ∷ after.a.rest.now = search rules in
    let there : before.b.rest.now ≡ next_block ∷ after.b.rest.now = search rules in
    let laid = c.lay_steps-in-loop-block.ensures in
    λ small.
    let (words, steps) = laid.laid small in
    let (last, so_far) = (rw (here, there) at c.loop-block.invariant) words in
    (last, λ rest. so_far (steps_append block next_block (concat after.a.rest.now) (concat after.b.rest.now) laid.as_long steps rest))

pub returns : goal.returns
returns c =
    let it = c.loop-block.block-iterator in
    let n : ℕ = length c.args.ids.now in
    let left : (length it.a.rest.now ≡ 0) ⊎ (length it.b.rest.now ≡ 0) = search rules in
    λ small.
    let (last, so_far) = c.loop-block.invariant (c.common_bits.ensures small) in
    steps_cover (n / 8 * 8) (n - 8) c.args.ids.now c.args.nexts.now (omega arith) (so_far (steps_done it.a.rest.now it.b.rest.now left)) last
