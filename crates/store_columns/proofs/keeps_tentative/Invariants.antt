use Rattle.std.proofs.Common.{◌≡◌, nat_eq, take}
use Rattle.journal.specs.Kinds.{letter_t}
use Rattle.store.specs.Lists.{some_of}
use Rattle.store_columns.proofs.keeps_tentative.Given as goal

abbrev pub invariant-loop-kind : goal.invariant-loop-kind
invariant-loop-kind l = l.found ≡ some_of (λ kind. nat_eq kind letter_t) (take l.kind-index l.kinds)
