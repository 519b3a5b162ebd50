-- `retransmission::give_up` meets its contract: each turn lays an empty piece at the next place.
use Rattle.std.proofs.Common.{◌≡◌, ◌∙◌, ap, refl, sym, ◌+◌, ◌-◌, ◌%◌, ℕ, ◌<◌, List, [], length, set, replicate, arith, rules}
use native.Mathlib.Nat.{mod-lt}
use Rattle.std.proofs.lemmas.List.{length-replicate, get_or-replicate}
use borrow.Rule.Slice.PartMut.{put_mid}
use Rattle.record.specs.Sizes.{record_bytes}
use Rattle.retransmission.specs.Sizes.{held_results}
use Rattle.retransmission.specs.Places.{places_of, with_places, empty_place}
use Rattle.retransmission.proofs.Stores.{part_place, whole_replicate}
use Rattle.retransmission.proofs.Laying.{laying_turn, laying_end, given_over}
use Rattle.retransmission.proofs.give_up.Goals as goal

pub loop-n-preserved : goal.loop-n-preserved
unfolding empty_place
loop-n-preserved c =
    let a = c.args in
    let l = c.loop-n in
    let k = a.to - a.from in
    let at = c.place_after-at.result in
    let i = l.n - a.from in
    let number : l.n ≡ a.from + i = omega arith in
    let more : i < k = omega arith in
    let next : l.n + 1 - a.from ≡ i + 1 = omega arith in
    let sized : length (empty_place) ≡ record_bytes = length-replicate {A = ℕ} record_bytes 0 in
    let part : c.fill.new.self ≡ empty_place = search rules in
    let laid : put_mid at (at + record_bytes - at) l.sent c.fill.new.self ≡ with_places l.sent (set (places_of l.sent) (l.n % held_results) empty_place) =
    part_place l.sent (l.n % held_results) at (at + record_bytes) c.fill.new.self c.place_after-at.ensures refl (ap length part ∙ sized)
    (mod-lt l.n (omega arith)) (omega (arith, c.requires, l.auto.sent)) ∙
    ap (λ (b : List ℕ). with_places l.sent (set (places_of l.sent) (l.n % held_results) b)) part in
    laying_turn a.sent.now a.from (replicate k empty_place) (omega (arith, c.requires)) l.sent i l.invariant
    (whole_replicate k empty_place sized) (omega (arith, length-replicate k empty_place)) _ (l.n + 1 - a.from) next
    (laid ∙ rw (get_or-replicate k i empty_place [] more, ← number) refl)

pub returns : goal.returns
returns c =
    let a = c.args in
    let k = a.to - a.from in
    laying_end a.sent.now a.from (replicate k empty_place) (omega (arith, c.requires)) c.loop-n.sent (c.loop-n.n - a.from) c.loop-n.invariant
    (omega (arith, length-replicate k empty_place)) ∙
    ap (with_places a.sent.now) (sym (given_over (places_of a.sent.now) a.from k))
