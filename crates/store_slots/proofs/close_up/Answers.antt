-- `store_slots::close_up` meets its contract: each turn of the loop takes one reading out of its place, asks the clock for its bucket and
-- puts it back if it stays, and the last leaves the slots with the share closed up.
use Rattle.std.proofs.Common.{◌≡◌, ◌∙◌, ap, ◌+◌, ◌-◌, ℕ, suc, Some, get_or, length, arith, rules, length-set}
use Rattle.store.specs.declared.Reading.{Reading}
use Rattle.store.specs.Columns.{zeroed}
use Rattle.store_slots.proofs.Closing.{kept, closed_run, kept_at_most, closed_none, count_none, turn_stays, turn_goes}
use Rattle.store_slots.proofs.Refusing.{is_other, other_told, same_told, has_share_lem, stay_count, closed_share}
use Rattle.store_slots.proofs.close_up.Goals as goal
use Rattle.store_slots.proofs.close_up.Goals.{then-bucket_of-j, else-bucket_of-j}

pub loop-at-init : goal.loop-at-init
loop-at-init c =
    let a = c.args in
    let none : a.base - a.base ≡ 0 = omega arith in
    rw none
    (omega (arith, count_none (is_other a.bucket a.j) zeroed a.base a.slots.now), closed_none (is_other a.bucket a.j) zeroed a.base a.slots.now)

pub offset_bounds-slots-to : goal.offset_bounds-slots-to
offset_bounds-slots-to c =
    let a = c.args in
    omega (arith, kept_at_most (is_other a.bucket a.j) zeroed a.base a.slots.now (c.loop-at.at - a.base), c.loop-at.invariant.0)

pub bounds-slots-to : goal.bounds-slots-to
bounds-slots-to c =
    let a = c.args in
    omega (
      arith,
      kept_at_most (is_other a.bucket a.j) zeroed a.base a.slots.now (c.loop-at.at - a.base),
      c.loop-at.invariant.0,
      length-set {A = Reading},
    )

pub overflow_add-to : goal.overflow_add-to
overflow_add-to c =
    let a = c.args in
    omega (arith, kept_at_most (is_other a.bucket a.j) zeroed a.base a.slots.now (c.loop-at.at - a.base), c.loop-at.invariant.0)

pub loop-at-preserved : goal.loop-at-preserved
unfolding zeroed
loop-at-preserved c =
    let a = c.args in
    let l = c.loop-at in
    let r : Reading = c.take-r.result in
    let i : ℕ = l.at - a.base in
    let here : l.at ≡ a.base + i = omega arith in
    let next : l.at + 1 - a.base ≡ suc i = omega arith in
    let out : r ≡ get_or l.slots l.at zeroed = search rules in
    let gone : c.take-r.new.dest ≡ zeroed = search rules in
    (elim c.if-bucket_of-j.branch [
      | then-bucket_of-j w ↦
          let (place, list) =
          turn_stays (is_other a.bucket a.j) zeroed a.base a.slots.now i l.at l.to (l.at + 1 - a.base) l.slots here next (omega arith)
          l.invariant.0 l.invariant.1 r c.take-r.new.dest out gone
          (other_told a.bucket a.j r c.bucket_of.result c.bucket_of.ensures w.if-bucket_of-j.true) in
          (w.to-is ∙ place, w.slots-is ∙ list)
      | else-bucket_of-j w ↦
          let (place, list) =
          turn_goes (is_other a.bucket a.j) zeroed a.base a.slots.now i l.at l.to (l.at + 1 - a.base) l.slots here next (omega arith)
          l.invariant.0 l.invariant.1 r c.take-r.new.dest out gone
          (same_told a.bucket a.j r c.bucket_of.result c.bucket_of.ensures w.if-bucket_of-j.false) in
          (w.to-is ∙ place, w.slots-is ∙ list)
    ])

pub returns-clause-value : goal.returns-clause-value
returns-clause-value c =
    let a = c.args in
    let count : ℕ → ℕ = λ i. length (kept (is_other a.bucket a.j) zeroed a.base a.slots.now i) in
    let all : c.loop-at.at - a.base ≡ a.n = omega arith in
    let stay : c.loop-at.to - a.base ≡ count a.n = omega (arith, c.loop-at.invariant.0, ap count all) in
    ap Some stay ∙
    stay_count a.base a.n a.bucket a.slots.now a.j (has_share_lem a.base a.n a.bucket a.slots.now (omega arith) (omega arith) (omega arith))

pub returns-clause-slots_after : goal.returns-clause-slots_after
returns-clause-slots_after c =
    let a = c.args in
    let all : c.loop-at.at - a.base ≡ a.n = omega arith in
    c.loop-at.invariant.1 ∙ ap (λ (i : ℕ). closed_run (is_other a.bucket a.j) zeroed a.base a.slots.now i) all ∙
    closed_share a.base a.n a.bucket a.slots.now a.j (has_share_lem a.base a.n a.bucket a.slots.now (omega arith) (omega arith) (omega arith))
