-- `decimal::read_integer` meets its contract: one reading, from the place and up to the most that its sign gives.
use Rattle.std.proofs.Common.{sym, ◌∙◌, arith}
use Rattle.std.proofs.lemmas.Bool.Decides.{nat_tests}
use Rattle.decimal.proofs.Numbers.{number_most}
use Rattle.decimal.proofs.Integers.{integer_none, integer_some, most_either}
use Rattle.decimal.proofs.read_integer.Goals as goal

pub returns-in_err-m : goal.returns-in_err-m
returns-in_err-m c =
    let a = c.args in
    let m = c.minus_at-minus in
    c.from_residual.ensures
    ∙ integer_none a.s.now a.at m.result m.ensures (sym c.in_err-m.was ∙ c.read_number.ensures) (omega arith) (omega arith)

pub with_sign-requires : goal.with_sign-requires
with_sign-requires c =
    most_either c.minus_at-minus.result _ _ (omega arith) (number_most _ _ _ _ _ (sym c.read_number.ensures ∙ c.in_ok-m.was))

pub returns-then-m-eq0 : goal.returns-then-m-eq0
returns-then-m-eq0 c =
    let a = c.args in
    let m = c.minus_at-minus in
    let e = integer_some a.s.now a.at m.result _ _ m.ensures (sym c.in_ok-m.was ∙ c.read_number.ensures) (omega arith) (omega arith) in
    grind (arith, nat_tests)

pub returns : goal.returns
returns c =
    let a = c.args in
    let m = c.minus_at-minus in
    let e = integer_some a.s.now a.at m.result _ _ m.ensures (sym c.in_ok-m.was ∙ c.read_number.ensures) (omega arith) (omega arith) in
    grind (arith, nat_tests)
