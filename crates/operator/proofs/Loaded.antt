-- The meters in columns: how many there are, the one at a place, and one set. By induction on how many.
use Prim.Native.Nat.{ℕ, zero, suc, ◌+◌, ◌<◌}
use mathlib.Core.Path.{◌≡◌, refl, ◌∙◌, ap}
use mathlib.Core.List.{List, ◌∷◌}
use native.Mathlib.Omega.{arith}
use lib.IntN.{ℤ, pos}
use lib.ListN.{length, get_or, set}
use lib.Seq.{get_or-set_same, get_or-set_other}
use Rattle.operator_meter.specs.declared.Meter.{Meter}
use Rattle.operator_meter.specs.Values.{no_meter}
use Rattle.operator.specs.Meters.{meter_count}
use Rattle.operator.specs.Loaded.{meter_at, meters_from, meters_of}
use Rattle.operator.specs.declared.Operator.{Operator as Loaded}

-- the columns have a place for each meter
pub record Long (o : Loaded) : Type 0 where
  pub sums : length o.sums ≡ meter_count
  pub counts : length o.counts ≡ meter_count
  pub lasts : length o.lasts ≡ meter_count

length_from : (c : List ℕ) (s l : List ℤ) (k n : ℕ) → length (meters_from c s l k n) ≡ n
unfolding meters_from
length_from c s l k zero = refl
length_from c s l k (suc n) = ap suc (length_from c s l (suc k) n)

meter_from : (c : List ℕ) (s l : List ℤ) (k n i : ℕ) → i < n → get_or (meters_from c s l k n) i no_meter ≡ meter_at c s l (k + i)
unfolding meters_from
meter_from c s l k zero i h = absurd (omega arith)
meter_from c s l k (suc n) zero h = let e : k + 0 ≡ k = omega arith in rw e
meter_from c s l k (suc n) (suc i) h =
    let e : suc k + i ≡ k + suc i = omega arith in meter_from c s l (suc k) n i (omega arith) ∙ ap (meter_at c s l) e

-- one meter set, in all three columns
module _ (c : List ℕ) (s l : List ℤ) (m : Meter) where
  same_behind :
      (j k n : ℕ) → j < k →
      meters_from (set c j m.count) (set s j m.sum) (set l j m.last) k n ≡ meters_from c s l k n
  unfolding meters_from meter_at
  same_behind j k zero h = refl
  same_behind j k (suc n) h =
      rw (
        get_or-set_other c j k m.count 0 (omega arith),
        get_or-set_other s j k m.sum (pos 0) (omega arith),
        get_or-set_other l j k m.last (pos 0) (omega arith),
      )
      (ap (◌∷◌ (meter_at c s l k)) (same_behind j (suc k) n (omega arith)))

  meter_set :
      (k n i j : ℕ) → j ≡ k + i → i < n → j < length c → j < length s → j < length l →
      meters_from (set c j m.count) (set s j m.sum) (set l j m.last) k n ≡ set (meters_from c s l k n) i m
  unfolding meters_from meter_at
  meter_set k zero i j e h hc hs hl = absurd (omega arith)
  meter_set k (suc n) zero j e h hc hs hl =
      let g : k ≡ j = omega arith in
      rw (
        g,
        get_or-set_same c j m.count 0 hc,
        get_or-set_same s j m.sum (pos 0) hs,
        get_or-set_same l j m.last (pos 0) hl,
      )
      (ap (◌∷◌ m) (same_behind j (suc j) n (omega arith)))
  meter_set k (suc n) (suc i) j e h hc hs hl =
      rw (
        get_or-set_other c j k m.count 0 (omega arith),
        get_or-set_other s j k m.sum (pos 0) (omega arith),
        get_or-set_other l j k m.last (pos 0) (omega arith),
      )
      (ap (◌∷◌ (meter_at c s l k)) (meter_set (suc k) n i j (omega arith) (omega arith) hc hs hl))

-- ---- the meters of an operator

module _ (c : List ℕ) (s l : List ℤ) where
  pub length_meters : length (meters_of c s l) ≡ meter_count
  unfolding meters_of
  length_meters = length_from c s l 0 meter_count

  pub meter_of : (i : ℕ) → i < meter_count → get_or (meters_of c s l) i no_meter ≡ meter_at c s l i
  unfolding meters_of
  meter_of i h = let e : 0 + i ≡ i = omega arith in meter_from c s l 0 meter_count i h ∙ ap (meter_at c s l) e

  -- one of them set
  pub meter_laid :
      (i : ℕ) (m : Meter) → i < meter_count → length c ≡ meter_count → length s ≡ meter_count → length l ≡ meter_count →
      meters_of (set c i m.count) (set s i m.sum) (set l i m.last) ≡ set (meters_of c s l) i m
  unfolding meters_of
  meter_laid i m h hc hs hl = meter_set c s l m 0 meter_count i i (omega arith) h (omega arith) (omega arith) (omega arith)
