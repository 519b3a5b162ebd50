-- `decimal::count_digits` meets its contract: by the powers of ten that the number lies between.
use Rattle.std.proofs.Common.{◌+◌, ◌<◌, ◌^◌, ap, sym, length, arith}
use native.Mathlib.Nat.{pow-suc}
use native.Mathlib.Numerals.{add-one}
use Rattle.decimal.proofs.Digits.{digits_one, digits_short, digits_long}
use Rattle.decimal.proofs.count_digits.Goals as goal

pub returns-then-n-eq0 : goal.returns-then-n-eq0
returns-then-n-eq0 c = sym (ap length (digits_one c.args.n (omega arith)))

pub returns-else-n-eq0 : goal.returns-else-n-eq0
returns-else-n-eq0 c =
    let k = c.ilog10.result in
    let p = c.ilog10.ensures in
    let top : c.args.n < 10 ^ (k + 1) = rw (add-one k, pow-suc 10 k) (omega (arith, p.next_power_gt)) in
    omega (
      arith,
      digits_long k c.args.n p.power_le (omega arith),
      digits_short (k + 1) c.args.n (omega arith) (omega (arith, p.bound)) top,
    )
