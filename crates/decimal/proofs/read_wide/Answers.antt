-- `decimal::read_wide` meets its contract: past 64 bits whatever follows, else by the tests on the digits that were read.
use Rattle.std.proofs.Common.{arith, sym, refl, ◌∙◌}
use Rattle.std.proofs.lemmas.Bool.Decides.{nat_tests}
use Rattle.decimal.proofs.Runs.{digit_range}
use Rattle.decimal.proofs.Scanned.{scanned_none, scanned_digit}
use Rattle.decimal.proofs.FirstDigits.{number_past_most, number_scanned}
use Rattle.decimal.proofs.read_wide.Goals as goal

pub loop-value-init : goal.loop-value-init
loop-value-init c = (scanned_none c.args.s.now c.args.at, omega arith, λ h. absurd (omega arith))

pub overflow_sub-s : goal.overflow_sub-s
overflow_sub-s c = (digit_range _ (sym c.digit_at.ensures.value ∙ c.loop-value-test.true)).0

pub loop-value-preserved : goal.loop-value-preserved
loop-value-preserved c =
    let l = c.loop-value in (
      scanned_digit _ _ _ _ l.invariant.0 _ (c.digit_at.ensures.within c.loop-value-test.true)
          (sym c.digit_at.ensures.value ∙ c.loop-value-test.true) (omega (arith, c.in_ok-value.ensures)),
      omega arith,
      λ h. omega (arith, c.digit_at.ensures.within c.loop-value-test.true),
    )

pub returns-in_err-value : goal.returns-in_err-value
returns-in_err-value c =
    let l = c.loop-value in
    c.from_residual.ensures
    ∙ sym (number_past_most c.args.most _ _ _ _
    (scanned_digit _ _ _ _ l.invariant.0 _ (c.digit_at.ensures.within c.loop-value-test.true)
    (sym c.digit_at.ensures.value ∙ c.loop-value-test.true) refl)
    (omega (arith, c.in_err-value.ensures)))

pub returns-then-count-eq0 : goal.returns-then-count-eq0
returns-then-count-eq0 c =
    let l = c.loop-value in
    let e = number_scanned c.args.most _ _ _ _ l.invariant.0 (sym c.digit_at.ensures.value ∙ c.loop-value-test.false) in
    grind (arith, nat_tests)

pub returns-then-count-gt1 : goal.returns-then-count-gt1
returns-then-count-gt1 c =
    let l = c.loop-value in
    let e = number_scanned c.args.most _ _ _ _ l.invariant.0 (sym c.digit_at.ensures.value ∙ c.loop-value-test.false) in
    grind (arith, nat_tests)

pub returns : goal.returns
returns c =
    let l = c.loop-value in
    let e = number_scanned c.args.most _ _ _ _ l.invariant.0 (sym c.digit_at.ensures.value ∙ c.loop-value-test.false) in
    grind (arith, nat_tests)
