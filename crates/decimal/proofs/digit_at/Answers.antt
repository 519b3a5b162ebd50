-- `decimal::digit_at` meets its contract: no digit stands past the end.
use Rattle.std.proofs.lemmas.Bool.Decides.{nat_tests}
use Rattle.std.proofs.Common.{arith}
use Rattle.decimal.proofs.Scanned.{no_digit_past}
use Rattle.decimal.proofs.digit_at.Goals as goal

pub returns-else-at-s-clause-value : goal.returns-else-at-s-clause-value
returns-else-at-s-clause-value c = grind (arith, nat_tests, no_digit_past)
