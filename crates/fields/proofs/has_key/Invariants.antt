-- The bytes up to i agree, so that the rest decides.
use Rattle.std.proofs.Common.{◌≡◌, ◌+◌, ◌≤◌, length, drop}
use Rattle.fields.specs.Field.{starts_with}
use Rattle.fields.proofs.has_key.Given as goal

abbrev pub invariant-loop-i : goal.invariant-loop-i
invariant-loop-i l =
    (l.i ≤ length l.key)
    × (l.at + length l.key ≤ length l.s)
    × (starts_with (drop l.i l.key) (drop (l.at + l.i) l.s) ≡ starts_with l.key (drop l.at l.s))
