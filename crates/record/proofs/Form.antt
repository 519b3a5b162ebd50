-- Bytes of a record's form pass the one test of the form.
use mathlib.Core.Path.{◌≡◌}
use mathlib.Core.Bool.{true}
use mathlib.Core.List.{List}
use Prim.Native.Nat.{ℕ}
use lib.ListN.{length, get_or}
use Rattle.record.specs.Kinds.{is_record}
use Rattle.record.specs.Decoded.{is_well_formed}

pub well_formed : (b : List ℕ) → length b ≡ 32 → is_record (get_or b 0 0) ≡ true → get_or b 2 0 ≡ 0 → get_or b 3 0 ≡ 0 → is_well_formed b ≡ true
unfolding is_well_formed
well_formed b size kind third fourth = rw (size, kind, third, fourth)
