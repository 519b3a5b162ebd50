-- A part of an area, from a place to its end, lent to a writer of a text: it has room for what the area has room for there, and the text in
-- front of it is laid over the area.
use mathlib.Core.Path.{◌≡◌, sym, ap, ◌∙◌}
use mathlib.Core.List.{List}
use Prim.Native.Nat.{ℕ, ◌+◌, ◌-◌, ◌≤◌}
use native.Mathlib.Omega.{arith}
use lib.ListN.{length, take, drop, length-drop}
use lib.Seq.{sets-eq, length-take-le}
use borrow.Rule.Slice.PartMut.{put_mid}
use Rattle.area.specs.Laid.{laid}
use Rattle.area.proofs.Laid.{laid_front, laid_none}
use Rattle.area.proofs.Lent.{lent_in_front}

module _ (area text : List ℕ) (at : ℕ) (room : at + length text ≤ length area) where
  abbrev part : List ℕ
  part = take (length area - at) (drop at area)

  pub room_lent : length text ≤ length part
  room_lent = omega (arith, length-drop at area, length-take-le (length area - at) (drop at area) (omega (arith, length-drop at area)))

  pub lent_laid : put_mid at (length area - at) area (laid part 0 text) ≡ laid area at text
  unfolding laid
  lent_laid =
      ap (put_mid at (length area - at) area) (laid_front part text room_lent) ∙
      lent_in_front area text at ∙ sym (sets-eq text area at room)

pub ruleset lent = (room_lent, lent_laid, laid_none)
