-- What a display has acknowledged, by the ids of all that there is room for.
use Prim.Native.Nat.{ℕ, ◌-◌, ◌≤◌}
use mathlib.Core.Path.{◌≡◌}
use mathlib.Core.List.{List}
use native.Mathlib.Omega.{arith}
use lib.ListN.{take, get_or}
use lib.Seq.{get_or-take}
use Rattle.protocol.specs.Displays.{last_of}

pub last_known :
    (own ids : List ℕ) (displays display : ℕ) → own ≡ take displays ids → 1 ≤ display → display ≤ displays →
    last_of own display ≡ get_or ids (display - 1) 0
unfolding last_of
last_known own ids displays display e some h = rw (e, get_or-take displays ids (display - 1) 0 (omega arith))
