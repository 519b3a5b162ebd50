-- `store_columns::are_readings` meets its contract: the last block and the blocks of 16 before it cover the share, and a wrong bit in one of
-- them is a wrong reading.
use Rattle.std.proofs.Common.{◌≡◌, ℕ, ◌-◌, ◌*◌, ◌/◌, ◌⊎◌, ◌∷◌, Bool, false, ◌&&◌, take, drop, length, sym, ap, ◌∙◌, arith, rules}
use Rattle.std.specs.List.{concat}
use Rattle.store_columns.specs.Tests.{are_zero, are_right}
use Rattle.store_columns.proofs.Chunks.{joined}
use Rattle.store_columns.proofs.Readings.{no_bits, right_block, right_cover, right_done}
use Rattle.store_columns.proofs.are_readings.Goals as goal

pub loop-block-init : goal.loop-block-init
loop-block-init c =
    let kinds = c.args.kinds.now in
    let meters = c.args.meters.now in
    let n : ℕ = length kinds in
    let it = c.into_iter-block-iterator.result in
    let long : length it.a.rest.now ≡ n / 16 = search rules in
    let meters_long : length it.b.rest.now ≡ length meters / 16 = search rules in
    let whole : concat it.a.rest.now ≡ take (n / 16 * 16) kinds = (search rules) ∙ joined 16 (n / 16) kinds in
    let meters_whole : concat it.b.rest.now ≡ take (length meters / 16 * 16) meters = (search rules) ∙ joined 16 (length meters / 16) meters in
    let ends : c.in-Some-Some.last.now ≡ drop (n - 16) kinds = search rules in
    let meters_end : c.in-Some-Some.last_meters.now ≡ drop (length meters - 16) meters = search rules in
    let same : length meters ≡ n = sym c.requires.0 in
    let last : are_zero c.lay_over.new.words ≡ are_right c.args.limit (drop (n - 16) kinds) (drop (n - 16) meters) =
    (rw (no_bits, ends, meters_end, same) at c.lay_over.ensures) in (
      long ∙ sym (rw same at meters_long),
      rw (last, whole, (rw same at meters_whole)) (right_cover c.args.limit (n / 16 * 16) (n - 16) kinds meters (omega arith)),
    )

pub loop-block-preserved : goal.loop-block-preserved
loop-block-preserved c =
    let before = c.loop-block.block-iterator in
    let after = c.next.new.self in
    let block = c.in-Some.block.now in
    let meter_block = c.in-Some.meter_block.now in
    let here : before.a.rest.now ≡ block ∷ after.a.rest.now = search rules in
    let there : before.b.rest.now ≡ meter_block ∷ after.b.rest.now = search rules in
    let told = (rw (here, there) at c.loop-block.invariant) in (
      omega (arith, told.0),
      right_block c.args.limit (are_zero c.lay_over-in-loop-block.new.words) (are_zero c.loop-block.wrong) block meter_block after.a.rest.now after.b.rest.now
          c.lay_over-in-loop-block.ensures ∙ told.1,
    )

pub returns-then-not-are_all_zero : goal.returns-then-not-are_all_zero
returns-then-not-are_all_zero c =
    let before = c.loop-block.block-iterator in
    let after = c.next.new.self in
    let block = c.in-Some.block.now in
    let meter_block = c.in-Some.meter_block.now in
    let here : before.a.rest.now ≡ block ∷ after.a.rest.now = search rules in
    let there : before.b.rest.now ≡ meter_block ∷ after.b.rest.now = search rules in
    let told = (rw (here, there) at c.loop-block.invariant) in
    let laid = c.lay_over-in-loop-block in
    let wrong : are_zero laid.new.words ≡ false = sym c.are_all_zero.ensures ∙ c.if-not-are_all_zero.true in
    sym (ap (λ (b : Bool). b && are_right c.args.limit (concat after.a.rest.now) (concat after.b.rest.now)) wrong)
    ∙ right_block c.args.limit (are_zero laid.new.words) (are_zero c.loop-block.wrong) block meter_block after.a.rest.now after.b.rest.now laid.ensures
    ∙ told.1

pub returns : goal.returns
returns c =
    let it = c.loop-block.block-iterator in
    let left : (length it.a.rest.now ≡ 0) ⊎ (length it.b.rest.now ≡ 0) = search rules in
    c.are_all_zero-2.ensures
    ∙ sym (right_done c.args.limit (are_zero c.loop-block.wrong) it.a.rest.now it.b.rest.now c.loop-block.invariant.0 left)
    ∙ c.loop-block.invariant.1
