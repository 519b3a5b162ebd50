-- `retransmission::hold` meets its contract: each turn lays the area's next record at its place.
use Rattle.std.proofs.Common.{◌≡◌, ◌∙◌, ap, refl, sym, ◌*◌, ◌+◌, ◌-◌, ◌%◌, ℕ, List, [], set, get_or, take, drop, arith}
use native.Mathlib.Nat.{mod-lt}
use Rattle.record.specs.Sizes.{record_bytes}
use Rattle.retransmission.specs.Sizes.{held_results}
use Rattle.retransmission.specs.Places.{places_of, with_places, pieces}
use Rattle.retransmission.proofs.Stores.{part_place, whole_pieces, length_pieces, pieces_at}
use Rattle.retransmission.proofs.Laying.{laying_turn, laying_end}
use Rattle.retransmission.proofs.hold.Goals as goal

pub loop-i-preserved : goal.loop-i-preserved
loop-i-preserved c =
    let a = c.args in
    let l = c.loop-i in
    let p = (a.newest + l.i) % held_results in
    let size : l.i * record_bytes + record_bytes - l.i * record_bytes ≡ record_bytes = omega arith in
    let part : c.copy_from_slice.new.self ≡ get_or (pieces a.n a.area.now) l.i [] =
    c.copy_from_slice.ensures.after ∙ ap (λ (m : ℕ). take m (drop (l.i * record_bytes) a.area.now)) size ∙
    sym (pieces_at a.n l.i a.area.now (omega arith)) in
    laying_turn a.sent.now a.newest (pieces a.n a.area.now) (omega (arith, c.requires)) l.sent l.i l.invariant
    (whole_pieces a.n a.area.now c.requires.1) (omega (arith, length_pieces a.n a.area.now)) _ (l.i + 1) refl
    (part_place l.sent p c.place_after-to.result (c.place_after-to.result + record_bytes) c.copy_from_slice.new.self c.place_after-to.ensures refl
    (omega arith) (mod-lt (a.newest + l.i) (omega arith)) (omega (arith, c.requires, l.auto.sent)) ∙
    ap (λ (b : List ℕ). with_places l.sent (set (places_of l.sent) p b)) part)

pub returns : goal.returns
returns c =
    let a = c.args in
    laying_end a.sent.now a.newest (pieces a.n a.area.now) (omega (arith, c.requires)) c.loop-i.sent c.loop-i.i c.loop-i.invariant
    (omega (arith, length_pieces a.n a.area.now))
