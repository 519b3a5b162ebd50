-- Sums whose magnitude is at most 2^30 for each value: the word that tells one, one turn of the loop over them, and that meters with such
-- sums and counts below the limit are within their bounds.
use Rattle.std.proofs.Common.{◌≡◌, ℕ, suc, ◌+◌, ◌-◌, ◌*◌, ◌%◌, ◌^◌, ◌<◌, ◌≤◌, true, false, ◌&&◌, ltb, leb, ℤ, pos, negsuc, sym, refl, ◌∙◌, ap₂, arith, ltb-true, lt-ltb, le-leb, leb-false, leb-true}
use lib.Bits.{bit_or}
use lib.Signed.{mag}
use Rattle.signed.specs.Twos.{twos}
use Rattle.store.specs.Lists.{all_of}
use Rattle.store.proofs.Choices.{and_parts}
use Rattle.store.proofs.Over.{below_over}
use Rattle.operator_meter.specs.declared.Meter.{Meter}
use Rattle.operator_meter.specs.Bounds.{count_limit, sum_ok, meter_ok}
use Rattle.operator.specs.Meters.{meter_count}
use Rattle.operator.specs.Loaded.{meter_at, operator_of}
use Rattle.operator.specs.declared.Operator.{Operator}
use Rattle.operator_bounds.specs.Places.{all_below, count_in, sum_in, CountsOver, counts_below_at, sum_small, sum_small_at}
use Rattle.operator_bounds.proofs.OneMeter.{first_below, second_below, both_below}
use Rattle.operator_bounds.proofs.Places.{below_all, each_ok}

-- ---- one meter

module _ (n word above below : ℕ) (n_fits : n < 2 ^ 32) (below_fits : below < 2 ^ 64) where
  parts_told :
      (x : ℤ) → mag x < 2 ^ 63 → word ≡ twos 64 x → above ≡ (2 ^ 30 * n + word) % 2 ^ 64 → (below + word) % 2 ^ 64 ≡ 2 ^ 30 * n →
      (ltb above (2 ^ 63) && ltb below (2 ^ 63)) ≡ sum_small x n
  unfolding twos sum_small
  parts_told (pos a) f e low high =
      (elim (leb a (2 ^ 30 * n)) as (λ p. leb a (2 ^ 30 * n) ≡ p → (ltb above (2 ^ 63) && ltb below (2 ^ 63)) ≡ p) [
        | true ↦ λ t.
            let h : a ≤ 2 ^ 30 * n = leb-true a (2 ^ 30 * n) t in
            both_below above below (2 ^ 63) (omega arith) (omega arith)
        | false ↦ λ t.
            let h : 2 ^ 30 * n < a = leb-false a (2 ^ 30 * n) t in
            second_below above below (2 ^ 63) (omega arith)
      ]) refl
  parts_told (negsuc a) f e low high =
      (elim (leb (suc a) (2 ^ 30 * n)) as (λ p. leb (suc a) (2 ^ 30 * n) ≡ p → (ltb above (2 ^ 63) && ltb below (2 ^ 63)) ≡ p) [
        | true ↦ λ t.
            let h : suc a ≤ 2 ^ 30 * n = leb-true (suc a) (2 ^ 30 * n) t in
            both_below above below (2 ^ 63) (omega arith) (omega arith)
        | false ↦ λ t.
            let h : 2 ^ 30 * n < suc a = leb-false (suc a) (2 ^ 30 * n) t in
            first_below above below (2 ^ 63) (omega arith)
      ]) refl

  pub half_told :
      (x : ℤ) → mag x < 2 ^ 63 → word ≡ twos 64 x → above ≡ (2 ^ 30 * n + word) % 2 ^ 64 → (below + word) % 2 ^ 64 ≡ 2 ^ 30 * n →
      ltb (bit_or above below) (2 ^ 63) ≡ sum_small x n
  half_told x f e low high = below_over 63 above below ∙ parts_told x f e low high

small_sum_ok : (x : ℤ) (n : ℕ) → sum_small x n ≡ true → sum_ok x n ≡ true
unfolding sum_small sum_ok
small_sum_ok (pos a) n e = le-leb a ((2 ^ 31 - 1) * n) (omega (arith, leb-true a (2 ^ 30 * n) e))
small_sum_ok (negsuc a) n e = le-leb (suc a) (2 ^ 31 * n) (omega (arith, leb-true (suc a) (2 ^ 30 * n) e))

small_ok : (m : Meter) → m.count < 2 ^ 15 → sum_small m.sum m.count ≡ true → meter_ok m ≡ true
unfolding meter_ok
small_ok m few e = ap₂ ◌&&◌ (le-leb m.count count_limit (omega arith)) (small_sum_ok m.sum m.count e)

-- ---- every meter

pub sums_small_turn :
    (o : Operator) (i all word : ℕ) → ltb word (2 ^ 63) ≡ sum_small (sum_in o i) (count_in o i) →
    ltb all (2 ^ 63) ≡ all_below (sum_small_at o) i → ltb (bit_or all word) (2 ^ 63) ≡ all_below (sum_small_at o) (suc i)
unfolding all_below sum_small_at
sums_small_turn o i all word told e = below_over 63 all word ∙ ap₂ ◌&&◌ e told

pub small_within :
    (o : Operator) → ((i : ℕ) → i < meter_count → count_in o i < count_limit) → all_below (sum_small_at o) meter_count ≡ true →
    all_of meter_ok (operator_of o).meters ≡ true
unfolding sum_small_at meter_at
small_within o few small =
    each_ok o (λ i g. small_ok (meter_at o.counts o.sums o.lasts i) (few i g) (below_all (sum_small_at o) meter_count small i g))

-- what is below the limit laid over is in each operator
pub counts_few :
    (o p : Operator) (over : ℕ) → CountsOver o p over → over < count_limit →
    ((i : ℕ) → i < meter_count → count_in o i < count_limit) × ((i : ℕ) → i < meter_count → count_in p i < count_limit)
unfolding counts_below_at
counts_few o p over told h =
    let few : all_below (counts_below_at o p 15) meter_count ≡ true = sym (told 15) ∙ lt-ltb over (2 ^ 15) (omega arith) in
    let parts : (i : ℕ) → i < meter_count → _ = λ i g. and_parts _ _ (below_all (counts_below_at o p 15) meter_count few i g) in (
      λ i g. ltb-true (count_in o i) (2 ^ 15) (parts i g).0,
      λ i g. ltb-true (count_in p i) (2 ^ 15) (parts i g).1,
    )
