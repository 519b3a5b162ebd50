-- The word for one meter, made of how many values are left to it, how far the sum is above the lowest and how far below the highest: its
-- highest bit is clear exactly if the meter is within its bounds. By the sum's sign.
use Rattle.std.proofs.Common.{◌≡◌, ℕ, suc, ◌+◌, ◌-◌, ◌*◌, ◌%◌, ◌^◌, ◌<◌, ◌≤◌, true, false, ◌&&◌, ltb, leb, length, get_or, ℤ, pos, negsuc, sym, refl, ◌∙◌, ap₂, arith, le-ltb, lt-ltb, leb-false, leb-true}
use mathlib.Core.Bool.{and-false}
use lib.Bits.{bit_or}
use lib.Signed.{mag}
use Rattle.signed.specs.Twos.{twos}
use Rattle.store.proofs.Over.{below_over}
use Rattle.operator_meter.specs.Bounds.{count_limit, sum_ok, meter_ok}
use Rattle.operator_meter.specs.Values.{no_meter}
use Rattle.operator.specs.Meters.{meter_count}
use Rattle.operator.specs.Loaded.{meter_at, operator_of}
use Rattle.operator.specs.declared.Operator.{Operator}
use Rattle.operator.proofs.Loaded.{length_meters, meter_of}
use Rattle.operator_bounds.proofs.Turns.{SoFar, so_far_turn}

pub first_below : (a b k : ℕ) → k ≤ a → (ltb a k && ltb b k) ≡ false
first_below a b k h = rw (le-ltb a k h) refl

pub second_below : (a b k : ℕ) → k ≤ b → (ltb a k && ltb b k) ≡ false
second_below a b k h = rw (le-ltb b k h) (and-false (ltb a k))

pub both_below : (a b k : ℕ) → a < k → b < k → (ltb a k && ltb b k) ≡ true
both_below a b k h g = rw (lt-ltb a k h, lt-ltb b k g) refl

left_told : (n left : ℕ) → n < 2 ^ 32 → left < 2 ^ 64 → (left + n) % 2 ^ 64 ≡ count_limit → ltb left (2 ^ 63) ≡ leb n count_limit
left_told n left f g few =
    (elim (leb n count_limit) as (λ p. leb n count_limit ≡ p → ltb left (2 ^ 63) ≡ p) [
      | true ↦ λ e. let h : n ≤ count_limit = leb-true n count_limit e in lt-ltb left (2 ^ 63) (omega arith)
      | false ↦ λ e. let h : count_limit < n = leb-false n count_limit e in le-ltb left (2 ^ 63) (omega arith)
    ]) refl

module _ (n word above below : ℕ) (few : n ≤ count_limit) (fits : below < 2 ^ 64) where
  sum_told :
      (x : ℤ) → mag x < 2 ^ 63 → word ≡ twos 64 x → above ≡ (2 ^ 31 * n + word) % 2 ^ 64 → (below + word) % 2 ^ 64 ≡ (2 ^ 31 - 1) * n →
      (ltb above (2 ^ 63) && ltb below (2 ^ 63)) ≡ sum_ok x n
  unfolding twos sum_ok
  sum_told (pos a) f e low high =
      (elim (leb a ((2 ^ 31 - 1) * n)) as (λ p. leb a ((2 ^ 31 - 1) * n) ≡ p → (ltb above (2 ^ 63) && ltb below (2 ^ 63)) ≡ p) [
        | true ↦ λ t.
            let h : a ≤ (2 ^ 31 - 1) * n = leb-true a ((2 ^ 31 - 1) * n) t in
            both_below above below (2 ^ 63) (omega arith) (omega arith)
        | false ↦ λ t.
            let h : (2 ^ 31 - 1) * n < a = leb-false a ((2 ^ 31 - 1) * n) t in
            second_below above below (2 ^ 63) (omega arith)
      ]) refl
  sum_told (negsuc a) f e low high =
      (elim (leb (suc a) (2 ^ 31 * n)) as (λ p. leb (suc a) (2 ^ 31 * n) ≡ p → (ltb above (2 ^ 63) && ltb below (2 ^ 63)) ≡ p) [
        | true ↦ λ t.
            let h : suc a ≤ 2 ^ 31 * n = leb-true (suc a) (2 ^ 31 * n) t in
            both_below above below (2 ^ 63) (omega arith) (omega arith)
        | false ↦ λ t.
            let h : 2 ^ 31 * n < suc a = leb-false (suc a) (2 ^ 31 * n) t in
            first_below above below (2 ^ 63) (omega arith)
      ]) refl

module _ (n word left above below : ℕ) (x last : ℤ) where
  pub beyond_told :
      n < 2 ^ 32 → mag x < 2 ^ 63 → word ≡ twos 64 x → left < 2 ^ 64 → (left + n) % 2 ^ 64 ≡ count_limit →
      above ≡ (2 ^ 31 * n + word) % 2 ^ 64 → below < 2 ^ 64 → (below + word) % 2 ^ 64 ≡ (2 ^ 31 - 1) * n →
      ltb (bit_or left (bit_or above below)) (2 ^ 63) ≡ meter_ok (record { sum = x; count = n; last = last })
  unfolding meter_ok
  beyond_told n_fits x_Fits e left-fits few low below_fits high =
      below_over 63 left (bit_or above below) ∙ ap₂ ◌&&◌ (left_told n left n_fits left-fits few) (below_over 63 above below) ∙
      (elim (leb n count_limit) as (λ p. leb n count_limit ≡ p → (p && (ltb above (2 ^ 63) && ltb below (2 ^ 63))) ≡ (p && sum_ok x n)) [
        | true ↦ λ t. sum_told n word above below (leb-true n count_limit t) below_fits x x_Fits e low high
        | false ↦ λ t. refl
      ]) refl

-- one turn of the loop: the word of the meter at place i is laid over those before
pub meter_turn :
    (o : Operator) (all word i : ℕ) → i < meter_count →
    ((last : ℤ) → ltb word (2 ^ 63) ≡ meter_ok (record { sum = get_or o.sums i (pos 0); count = get_or o.counts i 0; last = last })) →
    SoFar meter_ok (operator_of o).meters (ltb all (2 ^ 63)) i → SoFar meter_ok (operator_of o).meters (ltb (bit_or all word) (2 ^ 63)) (suc i)
unfolding meter_at
meter_turn o all word i h told e =
    let g : i < length (operator_of o).meters = omega (arith, length_meters o.counts o.sums o.lasts) in
    rw (below_over 63 all word, told (get_or o.lasts i (pos 0)), sym (meter_of o.counts o.sums o.lasts i h))
    (so_far_turn meter_ok (operator_of o).meters (ltb all (2 ^ 63)) i no_meter g e)
