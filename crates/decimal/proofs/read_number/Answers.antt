-- `decimal::read_number` meets its contract: by the first digit and by those behind it, none of which is the text's last byte.
use Rattle.std.proofs.Common.{refl, sym, ◌∙◌, arith}
use Rattle.decimal.proofs.Runs.{digit_range}
use Rattle.decimal.proofs.Scanned.{scanned_digit}
use Rattle.decimal.proofs.FirstDigits.{
  digit_inside,
  number_none,
  first_digit,
  number_after_zero,
  number_zero,
  number_past_most,
  number_whole,
}
use Rattle.decimal.proofs.read_number.Goals as goal

pub returns-then-not-digit_at : goal.returns-then-not-digit_at
returns-then-not-digit_at c =
    let a = c.args in
    sym (number_none a.most a.s.now a.at (sym c.digit_at.ensures.value ∙ c.if-not-digit_at.true))

-- a 0 first
pub bounds-s-next : goal.bounds-s-next
bounds-s-next c =
    let d = c.digit_at.ensures in
    digit_inside c.args.s.now c.args.at c.requires (d.within c.if-not-digit_at.false) (sym d.value ∙ c.if-not-digit_at.false)

pub returns-then-is_digit : goal.returns-then-is_digit
returns-then-is_digit c =
    let a = c.args in
    let d = c.digit_at.ensures in
    sym (number_after_zero a.s.now a.at (d.within c.if-not-digit_at.false) (sym d.value ∙ c.if-not-digit_at.false) a.most c.if-s-at-eq48.true
    (sym c.is_digit.ensures ∙ c.if-is_digit.true))

pub returns-else-is_digit : goal.returns-else-is_digit
returns-else-is_digit c =
    let a = c.args in
    let d = c.digit_at.ensures in
    sym (number_zero a.s.now a.at (d.within c.if-not-digit_at.false) (sym d.value ∙ c.if-not-digit_at.false) a.most c.if-s-at-eq48.true
    (sym c.is_digit.ensures ∙ c.if-is_digit.false))

-- not a 0 first
pub overflow_sub-s : goal.overflow_sub-s
overflow_sub-s c = (digit_range _ (sym c.digit_at.ensures.value ∙ c.if-not-digit_at.false)).0

pub returns-then-from-value : goal.returns-then-from-value
returns-then-from-value c =
    let a = c.args in
    let d = c.digit_at.ensures in
    sym (number_past_most a.most _ _ _ _
    (first_digit a.s.now a.at (d.within c.if-not-digit_at.false) (sym d.value ∙ c.if-not-digit_at.false))
    (omega arith))

pub loop-value-init : goal.loop-value-init
loop-value-init c =
    let a = c.args in
    let inside = c.digit_at.ensures.within c.if-not-digit_at.false in
    let digit = sym c.digit_at.ensures.value ∙ c.if-not-digit_at.false in (
      rw c.from-value.ensures (first_digit a.s.now a.at inside digit),
      omega arith,
      digit_inside a.s.now a.at c.requires inside digit,
      omega arith,
    )

pub overflow_sub-s-in-loop-value : goal.overflow_sub-s-in-loop-value
overflow_sub-s-in-loop-value c = (digit_range _ (sym c.is_digit-in-loop-value.ensures ∙ c.loop-value-test.true)).0

pub returns-then-from-value-2 : goal.returns-then-from-value-2
returns-then-from-value-2 c =
    let l = c.loop-value in
    sym (number_past_most c.args.most _ _ _ _
    (scanned_digit _ _ _ _ l.invariant.0 _ l.invariant.2 (sym c.is_digit-in-loop-value.ensures ∙ c.loop-value-test.true) refl)
    (omega arith))

pub loop-value-preserved : goal.loop-value-preserved
loop-value-preserved c =
    let s = c.args.s.now in
    let l = c.loop-value in
    let digit = sym c.is_digit-in-loop-value.ensures ∙ c.loop-value-test.true in (
      scanned_digit _ _ _ _ l.invariant.0 _ l.invariant.2 digit (omega arith),
      omega arith,
      digit_inside s l.i c.requires l.invariant.2 digit,
      omega arith,
    )

pub returns : goal.returns
returns c =
    let a = c.args in
    let l = c.loop-value in
    sym (number_whole a.most a.s.now a.at l.i l.value l.invariant.0 l.invariant.1 c.if-s-at-eq48.false l.invariant.3
    (sym c.is_digit-in-loop-value.ensures ∙ c.loop-value-test.false))
