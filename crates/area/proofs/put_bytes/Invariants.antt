-- The first i bytes are laid down.
use Rattle.std.proofs.Common.{◌≡◌, take}
use Rattle.area.specs.Laid.{laid}
use Rattle.area.proofs.put_bytes.Given as goal

abbrev pub invariant-loop-i : goal.invariant-loop-i
invariant-loop-i l = l.out ≡ laid l.initial.out l.at (take l.i l.bytes)
