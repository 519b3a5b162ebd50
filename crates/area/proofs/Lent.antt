-- A part of an area, from a place to its end, lent to a writer that lays bytes in front of it, and come back.
use mathlib.Core.Path.{◌≡◌}
use mathlib.Core.List.{List, ◌++◌, append-nil, append_assoc}
use Prim.Native.Nat.{ℕ, ◌+◌, ◌-◌}
use native.Mathlib.Omega.{arith}
use lib.ListN.{length, take, drop, length-drop, drop_of_length-le}
use lib.Seq.{take_all, drop-drop}
use borrow.Rule.Slice.PartMut.{put_mid}
use Rattle.area.specs.Laid.{in_front}

-- the whole area: what stood before the part, the bytes, and what stood behind them
pub lent_in_front : (area bytes : List ℕ) (at : ℕ)
    → put_mid at (length area - at) area (in_front bytes (take (length area - at) (drop at area))) ≡ take at area ++ bytes ++ drop (at + length bytes) area
unfolding in_front
lent_in_front area bytes at =
    rw (
      take_all (length area - at) (drop at area) (omega (arith, length-drop at area)),
      drop_of_length-le (drop at area) {i = length area - at} (omega (arith, length-drop at area)),
      drop-drop (length bytes) at area,
      append-nil (bytes ++ drop (at + length bytes) area),
      append_assoc (take at area) bytes (drop (at + length bytes) area),
    )
