-- The meters in columns: the three numbers read at a place are the meter there, and it gives a result exactly if its count is above 0.
use Prim.Native.Nat.{ℕ, zero, suc, ◌+◌, ◌≤◌, ◌<◌}
use mathlib.Core.Path.{◌≡◌, refl, sym, ◌∙◌, ap}
use mathlib.Core.Bool.{Bool}
use mathlib.Core.List.{List, ◌∷◌, map}
use native.Mathlib.Omega.{arith}
use lib.Dec.{ltb}
use lib.IntN.{ℤ, pos}
use lib.ListN.{length, get_or, take, drop}
use lib.Seq.{drop-cons, take_all}
use mir.Syntax.{w32, w64}
use mir.Val.{SFits, of_z, to_z}
use mir.Facts.{to_z-of_z}
use Rattle.operator_meter.specs.declared.Meter.{Meter}
use Rattle.operator_meter.specs.Values.{no_meter, has_result}
use Rattle.operator.specs.Meters.{meter_count}
use Rattle.operator.specs.Loaded.{meter_at, meters_from, meters_of}
use Rattle.operator.proofs.Loaded.{meter_of}

-- the numbers read at a place
abbrev pub read : List ℕ → List ℤ → List ℤ → ℕ → Meter
read c s l i =
    record {
      sum = to_z w64 (of_z w64 (get_or s i (pos 0)));
      count = get_or c i 0;
      last = to_z w32 (of_z w32 (get_or l i (pos 0)));
    }

module _ (c : List ℕ) (s l : List ℤ) (i : ℕ) where
  pub meter_read :
      i < meter_count → SFits w64 (get_or s i (pos 0)) → SFits w32 (get_or l i (pos 0)) → read c s l i ≡ get_or (meters_of c s l) i no_meter
  unfolding meter_at
  meter_read h sum last = rw (to_z-of_z sum, to_z-of_z last) (sym (meter_of c s l i h))

-- ---- which of them give a result

module _ (c : List ℕ) (s l : List ℤ) where
  tests_from : (n i : ℕ) → i + n ≤ length c → map (ltb 0) (take n (drop i c)) ≡ map has_result (meters_from c s l i n)
  unfolding meters_from meter_at has_result
  tests_from zero i h = refl
  tests_from (suc n) i h =
      rw (drop-cons c i 0 (omega arith)) (ap (λ (t : List Bool). ltb 0 (get_or c i 0) ∷ t) (tests_from n (suc i) (omega arith)))

  -- those whose count is above 0
  pub tests_of : length c ≡ meter_count → map (ltb 0) c ≡ map has_result (meters_of c s l)
  unfolding meters_of
  tests_of h = ap (map (ltb 0)) (sym (take_all meter_count c (omega arith))) ∙ tests_from meter_count 0 (omega arith)
