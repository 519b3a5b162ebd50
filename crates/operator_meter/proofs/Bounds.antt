-- A meter within its bounds: count, sum and last value with one value more, and what the test says of them. By the sum's sign.
use Prim.Native.Nat.{ℕ, suc, ◌^◌, ◌<◌, ◌≤◌}
use mathlib.Core.Path.{◌≡◌}
use mathlib.Core.Bool.{true}
use mathlib.Core.List.{List}
use native.Mathlib.Omega.{arith}
use borrow.Author.Tests.{leb-true}
use lib.Dec.{leb}
use lib.IntN.{ℤ, pos, negsuc}
use lib.Signed.{mag}
use Rattle.signed.specs.Range.{InRange}
use Rattle.store.specs.Lists.{all_of, Every}
use Rattle.store.proofs.Choices.{and_parts}
use Rattle.store.proofs.Pairs.{every_to, every_passes}
use Rattle.operator_meter.specs.declared.Meter.{Meter}
use Rattle.operator_meter.specs.Values.{no_meter, with_value}
use Rattle.operator_meter.specs.Bounds.{count_limit, sum_ok, meter_ok}
use Rattle.operator_meter.proofs.Sums.{add_range}

-- the last value fits 32 bits
abbrev pub LastFits : Meter → Type 0
LastFits m = mag m.last < 2 ^ 31

-- at most n values, and a sum that so many can have
pub record Counted (n : ℕ) (m : Meter) : Type 0 where
  pub count : m.count ≤ n
  pub range : InRange m.sum m.count

pub no_last : LastFits no_meter
unfolding no_meter
no_last = omega arith

pub no_counted : (n : ℕ) → Counted n no_meter
unfolding no_meter
no_counted n = record { count = omega arith; range = omega arith }

pub counted_value : (n : ℕ) (v : ℤ) (m : Meter) → mag v < 2 ^ 31 → Counted n m → Counted (suc n) (with_value v m)
unfolding with_value
counted_value n v m f h = record { count = omega (arith, h.count); range = add_range m.count m.sum v h.range f }

pub last_value : (v : ℤ) (m : Meter) → mag v < 2 ^ 31 → LastFits (with_value v m)
unfolding with_value
last_value v m f = f

-- ---- the test of both

sum_ok_lem : (z : ℤ) (count : ℕ) → sum_ok z count ≡ true → InRange z count
unfolding sum_ok
sum_ok_lem (pos a) count e = leb-true _ _ e
sum_ok_lem (negsuc a) count e = leb-true _ _ e

pub meter_ok_lem : (m : Meter) → meter_ok m ≡ true → Counted count_limit m
unfolding meter_ok
meter_ok_lem m e =
    let h = and_parts (leb m.count count_limit) (sum_ok m.sum m.count) e in
    record { count = leb-true _ _ h.0; range = sum_ok_lem m.sum m.count h.1 }

pub meters_ok : (ms : List Meter) → all_of meter_ok ms ≡ true → Every (Counted count_limit) ms
meters_ok ms e = every_to ms meter_ok_lem (every_passes meter_ok ms e)
