-- `decimal::fill_digits` meets its contract: laying down the digits that are left makes the whole number's text.
use Rattle.std.proofs.Common.{◌≡◌, ◌<◌, refl, ◌∙◌, length, arith}
use lib.ListN.{length-set}
use Rattle.area.specs.Laid.{laid}
use Rattle.decimal.specs.Decimal.{digits}
use Rattle.decimal.proofs.Digits.{digits_some, length_more, hundredth, length_pair}
use Rattle.decimal.proofs.Filled.{fill_digit, fill_pair, fill_first}
use Rattle.decimal.proofs.fill_digits.Goals as goal
use Rattle.decimal.proofs.fill_digits.Goals.{then-rest-gt9, else-rest-gt9}

-- behind the branch one digit is left
left :
    (c : goal.After-row_known-1) →
    (c.if-rest-gt9.rest < 10)
    × (length c.if-rest-gt9.out ≡ length c.args.out.now)
    × (laid c.if-rest-gt9.out c.args.at (digits c.if-rest-gt9.rest) ≡ laid c.args.out.now c.args.at (digits c.args.n))
left c =
    let l = c.loop-rest in
    elim c.if-rest-gt9.branch [
      | then-rest-gt9 w ↦ rw (w.out-is, w.rest-is) (
        omega arith,
        simp length-set l.invariant.3,
        fill_digit l.out c.args.at l.i l.rest (omega arith) (omega arith) l.invariant.1 ∙ l.invariant.4,
      )
      | else-rest-gt9 w ↦ rw (w.out-is, w.rest-is) (omega arith, l.invariant.3, l.invariant.4)
    ]

pub loop-rest-init : goal.loop-rest-init
loop-rest-init c = (omega arith, omega arith, omega arith, refl, refl)

-- in a turn two digits are taken, and in the branch behind the loop one
pub overflow_sub-i : goal.overflow_sub-i
overflow_sub-i c = omega (arith, length_pair c.loop-rest.rest (omega arith) (omega arith))

pub bounds-out-i : goal.bounds-out-i
bounds-out-i c = omega (arith, length_pair c.loop-rest.rest (omega arith) (omega arith))

pub bounds-out-i-in-loop-rest : goal.bounds-out-i-in-loop-rest
bounds-out-i-in-loop-rest c = simp length-set (omega (arith, length_pair c.loop-rest.rest (omega arith) (omega arith)))

pub loop-rest-preserved : goal.loop-rest-preserved
loop-rest-preserved c =
    let l = c.loop-rest in
    let tenths = hundredth l.rest in (
      omega arith,
      omega (arith, length_pair l.rest (omega arith) (omega arith)),
      omega arith,
      simp length-set l.invariant.3,
      fill_pair l.out c.args.at l.i l.rest (omega arith) (omega arith) l.invariant.1 (omega arith) (omega arith) ∙ l.invariant.4,
    )

pub overflow_sub-out : goal.overflow_sub-out
overflow_sub-out c = omega (arith, length_more c.loop-rest.rest (omega arith) (omega arith))

pub bounds-out-i-then-rest-gt9 : goal.bounds-out-i-then-rest-gt9
bounds-out-i-then-rest-gt9 c = omega (arith, length_more c.loop-rest.rest (omega arith) (omega arith))

pub bounds-out-at : goal.bounds-out-at
bounds-out-at c = omega (arith, (left c).1, c.requires.end_value, c.requires.end_in_bounds, digits_some c.args.n)

pub returns : goal.returns
returns c = fill_first c.if-rest-gt9.out c.args.at c.if-rest-gt9.rest (left c).0 ∙ (left c).2
