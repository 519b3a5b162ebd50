-- `retransmission::copy_out` meets its contract: each turn lays one record more behind those that are laid down.
use Rattle.std.proofs.Common.{◌≡◌, ◌∙◌, ap, arith}
use Rattle.area.specs.Laid.{in_front}
use Rattle.record.specs.Layout.{all_bytes}
use Rattle.retransmission.specs.Places.{places_of, held_behind}
use Rattle.retransmission.proofs.Fetching.{fetching_start, fetching_turn, fetching_end}
use Rattle.retransmission.proofs.copy_out.Goals as goal

pub loop-i-init : goal.loop-i-init
loop-i-init c = fetching_start c.args.sent.now c.args.from c.args.area.now

pub loop-i-preserved : goal.loop-i-preserved
loop-i-preserved c =
    let a = c.args in
    fetching_turn a.sent.now a.from a.area.now c.loop-i.area c.loop-i.i c.loop-i.invariant c.place_after.result c.place_after.ensures _
    c.lay_record.ensures

pub returns : goal.returns
returns c =
    let a = c.args in
    let all : c.loop-i.i ≡ a.n = omega arith in
    fetching_end a.sent.now a.from a.area.now c.loop-i.area c.loop-i.i c.loop-i.invariant (omega (arith, c.requires)) ∙
    ap (λ i. in_front (all_bytes (held_behind (places_of a.sent.now) a.from i)) a.area.now) all
