-- Operator and checkpoint place by place: one turn of the loops that test them, and what the tests say of the bounds. A meter without count
-- and sum is within its bounds; of two with one count and one sum, both are or neither is.
use Rattle.std.proofs.Common.{◌≡◌, ℕ, zero, suc, ◌-◌, ◌^◌, ◌<◌, Bool, true, false, ◌&&◌, eqb, ltb, leb, List, [], ◌∷◌, length, get_or, ℤ, pos, negsuc, sym, refl, ap, ◌∙◌, ap₂, arith, ltb-true, eq-eqb, ne_eqb, eqb-true}
use borrow.Author.Tests.{eqb-false}
use lib.Bits.{bit_or, bit_xor}
use lib.Signed.{mag}
use Rattle.signed.specs.Twos.{twos}
use Rattle.store.specs.Lists.{all_of}
use Rattle.store.proofs.Choices.{and_parts, not_both}
use Rattle.store.proofs.Over.{below_over, zero_over, zero_apart}
use Rattle.operator_meter.specs.declared.Meter.{Meter}
use Rattle.operator_meter.specs.Values.{no_meter}
use Rattle.operator_meter.specs.Bounds.{count_limit, sum_ok, meter_ok}
use Rattle.operator.specs.Meters.{meter_count}
use Rattle.operator.specs.Loaded.{meter_at, operator_of}
use Rattle.operator.specs.declared.Operator.{Operator}
use Rattle.operator.proofs.Loaded.{length_meters, meter_of}
use Rattle.operator_bounds.specs.Places.{
  all_below,
  same_sum,
  count_in,
  sum_in,
  CountsOver,
  counts_below_at,
  counts_equal_at,
  sums_zero_at,
  sums_equal_at,
  meters_equal,
}

-- ---- sums

sum_same : (x y : ℤ) → mag x < 2 ^ 63 → mag y < 2 ^ 63 → eqb (twos 64 x) (twos 64 y) ≡ same_sum x y
unfolding twos same_sum
sum_same (pos a) (pos b) f g = refl
sum_same (pos a) (negsuc b) f g = ne_eqb a (2 ^ 64 - suc b) (λ e. omega arith)
sum_same (negsuc a) (pos b) f g = ne_eqb (2 ^ 64 - suc a) b (λ e. omega arith)
sum_same (negsuc a) (negsuc b) f g =
    (elim (eqb a b) as (λ p. eqb a b ≡ p → eqb (2 ^ 64 - suc a) (2 ^ 64 - suc b) ≡ p) [
      | true ↦ λ e. eq-eqb (2 ^ 64 - suc a) (2 ^ 64 - suc b) (omega (arith, eqb-true a b e))
      | false ↦ λ e. ne_eqb (2 ^ 64 - suc a) (2 ^ 64 - suc b) (λ h. eqb-false a b e (omega arith))
    ]) refl

same_sum_lem : (x y : ℤ) → same_sum x y ≡ true → x ≡ y
unfolding same_sum
same_sum_lem (pos a) (pos b) e = ap pos (eqb-true a b e)
same_sum_lem (pos a) (negsuc b) e = not_both e refl
same_sum_lem (negsuc a) (pos b) e = not_both e refl
same_sum_lem (negsuc a) (negsuc b) e = ap negsuc (eqb-true a b e)

-- ---- one turn

-- n is made of what stands before place i; v and w are the words of the sums there
module _ (o p : Operator) (i n : ℕ) where
  pub counts_over_turn :
      ((k : ℕ) → ltb n (2 ^ k) ≡ all_below (counts_below_at o p k) i) →
      (k : ℕ) → ltb (bit_or n (bit_or (count_in o i) (count_in p i))) (2 ^ k) ≡ all_below (counts_below_at o p k) (suc i)
  unfolding all_below counts_below_at
  counts_over_turn e k =
      let a = count_in o i in
      let b = count_in p i in
      below_over k n (bit_or a b) ∙ ap₂ ◌&&◌ (e k) (below_over k a b)

  pub counts_equal_turn :
      eqb n 0 ≡ all_below (counts_equal_at o p) i →
      eqb (bit_or n (bit_xor (count_in o i) (count_in p i))) 0 ≡ all_below (counts_equal_at o p) (suc i)
  unfolding all_below counts_equal_at
  counts_equal_turn e =
      let a = count_in o i in
      let b = count_in p i in
      zero_over n (bit_xor a b) ∙ ap₂ ◌&&◌ e (zero_apart a b)

  module _ (v w : ℕ) where
    abbrev WordsAt : Type 0
    WordsAt =
        (mag (sum_in o i) < 2 ^ 63) × (mag (sum_in p i) < 2 ^ 63) × (v ≡ twos 64 (sum_in o i)) × (w ≡ twos 64 (sum_in p i))

    zero_word : (x : ℤ) (u : ℕ) → mag x < 2 ^ 63 → u ≡ twos 64 x → eqb u 0 ≡ same_sum x (pos 0)
    unfolding twos
    zero_word x u f e = ap (λ (m : ℕ). eqb m 0) e ∙ sum_same x (pos 0) f (omega arith)

    pub sums_zero_turn : WordsAt → eqb n 0 ≡ all_below (sums_zero_at o p) i → eqb (bit_or n (bit_or v w)) 0 ≡ all_below (sums_zero_at o p) (suc i)
    unfolding all_below sums_zero_at
    sums_zero_turn (f, g, a, b) e =
        zero_over n (bit_or v w) ∙
        ap₂ ◌&&◌ e (zero_over v w ∙ ap₂ ◌&&◌ (zero_word (sum_in o i) v f a) (zero_word (sum_in p i) w g b))

    pub sums_equal_turn : WordsAt → eqb n 0 ≡ all_below (sums_equal_at o p) i → eqb (bit_or n (bit_xor v w)) 0 ≡ all_below (sums_equal_at o p) (suc i)
    unfolding all_below sums_equal_at
    sums_equal_turn (f, g, a, b) e =
        zero_over n (bit_xor v w) ∙ ap₂ ◌&&◌ e (zero_apart v w ∙ ap₂ eqb a b ∙ sum_same (sum_in o i) (sum_in p i) f g)

-- ---- all places

pub below_all : (test : ℕ → Bool) (n : ℕ) → all_below test n ≡ true → (i : ℕ) → i < n → test i ≡ true
unfolding all_below
below_all test zero e i h = absurd (omega arith)
below_all test (suc n) e i h =
    let (before, here) = and_parts (all_below test n) (test n) e in
    (elim (eqb i n) as (λ p. eqb i n ≡ p → test i ≡ true) [
      | true ↦ λ t. ap test (eqb-true i n t) ∙ here
      | false ↦ λ t. below_all test n before i (omega (arith, eqb-false i n t))
    ]) refl

module _ {A : Type 0} (test : A → Bool) (d : A) where
  pub all_pass : (xs : List A) → ((i : ℕ) → i < length xs → test (get_or xs i d) ≡ true) → all_of test xs ≡ true
  unfolding all_of
  all_pass [] f = refl
  all_pass (x ∷ xs) f = rw (f 0 (omega arith)) (all_pass xs (λ i h. f (suc i) (omega arith)))

  all_same :
      (xs ys : List A) → length xs ≡ length ys → ((i : ℕ) → i < length xs → test (get_or xs i d) ≡ test (get_or ys i d)) →
      all_of test xs ≡ all_of test ys
  unfolding all_of
  all_same [] [] n f = refl
  all_same [] (y ∷ ys) n f = absurd (omega arith)
  all_same (x ∷ xs) [] n f = absurd (omega arith)
  all_same (x ∷ xs) (y ∷ ys) n f = ap₂ ◌&&◌ (f 0 (omega arith)) (all_same xs ys (omega arith) (λ i h. f (suc i) (omega arith)))

-- ---- what the tests say of the bounds

empty_ok : (m : Meter) → ltb m.count 1 ≡ true → same_sum m.sum (pos 0) ≡ true → meter_ok m ≡ true
unfolding meter_ok sum_ok
empty_ok m e f =
    let none : m.count ≡ 0 = omega (arith, ltb-true m.count 1 e) in
    rw (none, same_sum_lem m.sum (pos 0) f) refl

equal_ok : (m o : Meter) → eqb m.count o.count ≡ true → same_sum m.sum o.sum ≡ true → meter_ok m ≡ meter_ok o
unfolding meter_ok
equal_ok m o e f =
    ap₂ (λ (n : ℕ) (x : ℤ). leb n count_limit && sum_ok x n) (eqb-true m.count o.count e) (same_sum_lem m.sum o.sum f)

-- every meter passes a test that each place's meter passes
pub each_ok : (o : Operator) → ((i : ℕ) → i < meter_count → meter_ok (meter_at o.counts o.sums o.lasts i) ≡ true) → all_of meter_ok (operator_of o).meters ≡ true
each_ok o f =
    all_pass meter_ok no_meter (operator_of o).meters
    (λ i h.
    let g : i < meter_count = omega (arith, length_meters o.counts o.sums o.lasts) in
    rw (meter_of o.counts o.sums o.lasts i g) (f i g))

module _ (o p : Operator) where
  pub empty_within :
      (over : ℕ) → CountsOver o p over → (eqb over 0 && all_below (sums_zero_at o p) meter_count) ≡ true →
      (all_of meter_ok (operator_of o).meters ≡ true) × (all_of meter_ok (operator_of p).meters ≡ true)
  unfolding counts_below_at sums_zero_at meter_at
  empty_within over told e =
      let (none, summed) = and_parts (eqb over 0) (all_below (sums_zero_at o p) meter_count) e in
      let counted : all_below (counts_below_at o p 0) meter_count ≡ true = rw (eqb-true over 0 none) at (sym (told 0)) in
      let count : (i : ℕ) → i < meter_count → _ = λ i h. and_parts _ _ (below_all (counts_below_at o p 0) meter_count counted i h) in
      let sum : (i : ℕ) → i < meter_count → _ = λ i h. and_parts _ _ (below_all (sums_zero_at o p) meter_count summed i h) in (
        each_ok o (λ i h. empty_ok (meter_at o.counts o.sums o.lasts i) (count i h).0 (sum i h).0),
        each_ok p (λ i h. empty_ok (meter_at p.counts p.sums p.lasts i) (count i h).1 (sum i h).1),
      )

  pub equal_within : meters_equal o p ≡ true → all_of meter_ok (operator_of o).meters ≡ all_of meter_ok (operator_of p).meters
  unfolding meters_equal counts_equal_at sums_equal_at meter_at
  equal_within e =
      let (counted, summed) = and_parts (all_below (counts_equal_at o p) meter_count) (all_below (sums_equal_at o p) meter_count) e in
      all_same meter_ok no_meter (operator_of o).meters (operator_of p).meters
      (length_meters o.counts o.sums o.lasts ∙ sym (length_meters p.counts p.sums p.lasts))
      (λ i h.
      let g : i < meter_count = omega (arith, length_meters o.counts o.sums o.lasts) in
      rw (meter_of o.counts o.sums o.lasts i g, meter_of p.counts p.sums p.lasts i g)
      (equal_ok (meter_at o.counts o.sums o.lasts i) (meter_at p.counts p.sums p.lasts i)
      (below_all (counts_equal_at o p) meter_count counted i g)
      (below_all (sums_equal_at o p) meter_count summed i g)))
