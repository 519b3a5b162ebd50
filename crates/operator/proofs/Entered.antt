-- A reading entered in columns: its meter's sum and count in every case, its last value and newest time where no newer reading was met.
-- By the law that one meter set in the three columns is that meter set in the list.
use Prim.Native.Nat.{ℕ, ◌+◌, ◌≤◌, ◌<◌, ◌^◌}
use mathlib.Core.Path.{◌≡◌, sym, ◌∙◌, ap}
use mathlib.Core.List.{List}
use lib.IntN.{ℤ, pos, ◌+ℤ◌}
use lib.ListN.{get_or, set}
use lib.Seq.{set-get_or}
use native.Mathlib.Omega.{arith}
use borrow.Author.Tests.{le-leb, lt-leb}
use mir.Syntax.{w32, w64}
use mir.Val.{SFits, to_z, of_z}
use mir.Facts.{to_z-of_z, sfits_widen}
use Rattle.signed.specs.Range.{InRange}
use Rattle.store.specs.Lists.{Every}
use Rattle.store.proofs.Pairs.{every_at}
use Rattle.operator_meter.specs.declared.Meter.{Meter}
use Rattle.operator_meter.specs.Values.{no_meter, with_value}
use Rattle.operator_meter.proofs.Sums.{range_fits, add_range}
use Rattle.operator_meter.proofs.Bounds.{Counted, no_counted}
use Rattle.operator.specs.Meters.{meter_count}
use Rattle.operator.specs.declared.Operator.{Operator as Loaded}
use Rattle.operator.specs.Loaded.{meter_at, meters_of, operator_of}
use Rattle.operator.proofs.Loaded.{Long, meter_of, meter_laid}
use Rattle.operator.specs.Pass.{with_older_value, valued, entered, passing}

-- the operator with one value more in meter m, which makes its sum z, and with these last values
abbrev pub with_sum : Loaded → ℕ → ℤ → List ℤ → Loaded
with_sum o m z lasts =
    record {
      sums = set o.sums m z;
      counts = set o.counts m (get_or o.counts m 0 + 1);
      lasts = lasts;
      number = o.number;
    }

-- what is known of every meter is known of the one in the columns' place m
pub counted_at :
    (o : Loaded) (n m : ℕ) → m < meter_count → Every (Counted n) (operator_of o).meters →
    (get_or o.counts m 0 ≤ n) × InRange (get_or o.sums m (pos 0)) (get_or o.counts m 0)
unfolding meter_at
counted_at o n m h all =
    let g : Counted n (meter_at o.counts o.sums o.lasts m) =
    rw (meter_of o.counts o.sums o.lasts m h) at
    (every_at (Counted n) (meters_of o.counts o.sums o.lasts) m no_meter (no_counted n) all) in
    (g.count, g.range)

-- the sum of few values and one more, as the code makes it
pub sum_made :
    (z v : ℤ) (n : ℕ) → n < 2 ^ 16 → InRange z n → SFits w32 v →
    to_z w64 (of_z w64 (to_z w64 (of_z w64 z) +ℤ to_z w64 (of_z w64 (to_z w32 (of_z w32 v))))) ≡ z +ℤ v
sum_made z v n few range value =
    let sum : SFits w64 z = record { sfits = range_fits n z (omega arith) range } in
    let next : SFits w64 (z +ℤ v) = record { sfits = range_fits (n + 1) (z +ℤ v) (omega arith) (add_range n z v range value.sfits) } in
    rw (to_z-of_z sum, to_z-of_z value, to_z-of_z (sfits_widen tt value)) (to_z-of_z next)

module _ (o : Loaded) (newest : List ℕ) (t : ℕ) (v : ℤ) (m : ℕ) (long : Long o) (h : m < meter_count) (z : ℤ) (sum : z ≡ get_or o.sums m (pos 0) +ℤ v) where
  -- the value is the last one of its meter
  pub entered_newest :
      (u : ℤ) → u ≡ v → get_or newest m 0 ≤ t →
      passing (with_sum o m z (set o.lasts m u)) (set newest m t) ≡ entered (passing o newest) t v m
  unfolding entered valued with_value meter_at
  entered_newest u e l =
      let old : Meter = meter_at o.counts o.sums o.lasts m in
      rw (sum, e, le-leb (get_or newest m 0) t l, meter_of o.counts o.sums o.lasts m h)
      (λ i.
      record {
        operator = record {
          meters = meter_laid o.counts o.sums o.lasts m (with_value v old) h long.counts long.sums long.lasts i;
          number = o.number;
        };
        newest = set newest m t;
      })

  -- a newer one was met
  pub entered_older : t < get_or newest m 0 → passing (with_sum o m z o.lasts) newest ≡ entered (passing o newest) t v m
  unfolding entered valued with_older_value meter_at
  entered_older l =
      let old : Meter = meter_at o.counts o.sums o.lasts m in
      let same : o.lasts ≡ set o.lasts m (get_or o.lasts m (pos 0)) = sym (set-get_or o.lasts m (pos 0)) in
      rw (sum, lt-leb (get_or newest m 0) t l, meter_of o.counts o.sums o.lasts m h)
      (λ i.
      record {
        operator = record {
          meters = (
              ap (meters_of (set o.counts m (get_or o.counts m 0 + 1)) (set o.sums m (get_or o.sums m (pos 0) +ℤ v))) same ∙
              meter_laid o.counts o.sums o.lasts m (with_older_value v old) h long.counts long.sums long.lasts
              ) i;
          number = o.number;
        };
        newest = sym (set-get_or newest m 0) i;
      })
