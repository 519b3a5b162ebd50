-- The loop of `decimal::fill_digits`: laying down the digits that are left makes the whole number's text.
use Rattle.std.proofs.Common.{◌≡◌, ◌+◌, ◌<◌, ◌≤◌, ◌^◌, length}
use Rattle.area.specs.Laid.{laid}
use Rattle.decimal.specs.Decimal.{digits}
use Rattle.decimal.proofs.fill_digits.Given as goal

abbrev pub invariant-loop-rest : goal.invariant-loop-rest
invariant-loop-rest l =
    (l.rest < 2 ^ 64)
    × (l.i ≡ l.at + length (digits l.rest))
    × (l.i ≤ length l.initial.out)
    × (length l.out ≡ length l.initial.out)
    × (laid l.out l.at (digits l.rest) ≡ laid l.initial.out l.at (digits l.n))

abbrev pub decreases-loop-rest : goal.decreases-loop-rest
decreases-loop-rest l = l.rest
