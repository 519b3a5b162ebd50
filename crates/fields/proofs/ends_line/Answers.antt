-- `fields::ends_line` meets its contract: past the end stands no 0A.
use Rattle.std.proofs.Common.{arith}
use Rattle.std.proofs.lemmas.Bool.Decides.{nat_tests}
use Rattle.fields.proofs.Fields.{no_end_past}
use Rattle.fields.proofs.ends_line.Goals as goal

pub returns-else-at-s : goal.returns-else-at-s
returns-else-at-s c = grind (arith, nat_tests, no_end_past)
