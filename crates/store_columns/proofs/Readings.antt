-- Kinds and meters told by their wrong bits: none is set exactly if the kind is S or T and the meter below the limit. S and T are
-- neighbours, so that a kind less S, wrapped, is below 2 for them only. A mask leaves the bits from one on, and none of them is set exactly
-- if the word is below the power of two that the mask begins with. The wrong bits of many readings are laid over words.
use Rattle.std.proofs.Common.{◌≡◌, ℕ, zero, suc, ◌+◌, ◌-◌, ◌*◌, ◌/◌, ◌%◌, ◌^◌, ◌<◌, ◌≤◌, Bool, true, false, ◌&&◌, ◌⊎◌, inl, inr, replicate, eqb, ltb, List, [], ◌∷◌, ◌++◌, length, get_or, set, take, drop, sym, refl, ap, ◌∙◌, subst, ap₂, mul-le-mul_right, mod-eq_of_lt, le-div_iff_mul-le, add-one, arith, pow_pos, pow_mono, shr_lt, le-ltb, lt-ltb, ltb-false, ltb-true, eq-eqb, ne_eqb}
use mathlib.Core.Bool.{and_assoc, and-true}
use native.Mathlib.Nat.{div-eq_of_lt}
use lib.Bits.{bit_and, bit_or, and_high}
use Rattle.std.specs.List.{concat}
use Rattle.journal.specs.Kinds.{letter_s, letter_t}
use Rattle.store.specs.Lists.{all_of}
use Rattle.store.proofs.Over.{zero_over, below_over}
use Rattle.store_columns.specs.Shape.{is_reading_kind}
use Rattle.store_columns.specs.Tests.{PowerOfTwo, are_zero, are_right}

-- ---- the wrong bits of one reading

pub told_by_word : (kind word : ℕ) → word < 2 ^ 8 → (word + letter_s) % 2 ^ 8 ≡ kind → ltb word 2 ≡ is_reading_kind kind
unfolding is_reading_kind
told_by_word kind zero fits e = ap is_reading_kind e
told_by_word kind (suc zero) fits e = ap is_reading_kind e
told_by_word kind (suc (suc word)) fits e =
    rw (ne_eqb kind letter_s (λ is. omega arith), ne_eqb kind letter_t (λ is. omega arith)) (le-ltb (suc (suc word)) 2 (omega arith))

pub kind_less_S : (kind : ℕ) → kind < 2 ^ 8 → ltb ((kind + (2 ^ 8 - letter_s)) % 2 ^ 8) 2 ≡ is_reading_kind kind
kind_less_S kind fits = told_by_word kind ((kind + (2 ^ 8 - letter_s)) % 2 ^ 8) (omega arith) (omega arith)

none_higher : (j k word : ℕ) → word < 2 ^ (j + k) → eqb (bit_and word (2 ^ (j + k) - 2 ^ k)) 0 ≡ ltb word (2 ^ k)
none_higher j k word fits =
    let higher : bit_and word (2 ^ (j + k) - 2 ^ k) ≡ word / 2 ^ k * 2 ^ k =
    and_high word j k ∙ ap (λ (m : ℕ). m * 2 ^ k) (mod-eq_of_lt (shr_lt j k fits)) in
    (elim (ltb word (2 ^ k)) as (λ b. ltb word (2 ^ k) ≡ b → eqb (bit_and word (2 ^ (j + k) - 2 ^ k)) 0 ≡ b) [
      | true ↦ λ e.
          let none : word / 2 ^ k ≡ 0 = div-eq_of_lt (ltb-true word (2 ^ k) e) in
          eq-eqb (bit_and word (2 ^ (j + k) - 2 ^ k)) 0 (higher ∙ ap (λ (m : ℕ). m * 2 ^ k) none ∙ omega arith)
      | false ↦ λ e.
          let one : 1 * 2 ^ k ≤ word = omega (arith, ltb-false word (2 ^ k) e) in
          let some : 1 * 2 ^ k ≤ word / 2 ^ k * 2 ^ k = mul-le-mul_right (2 ^ k) ((le-div_iff_mul-le (pow_pos k)).1 one) in
          ne_eqb (bit_and word (2 ^ (j + k) - 2 ^ k)) 0 (λ z. omega (arith, some, higher, z, pow_pos k))
    ]) refl

pub power_positive : (limit : ℕ) → PowerOfTwo limit → 0 < limit
power_positive limit power = rw power.is (pow_pos power.exponent)

few_bits : (k : ℕ) → 2 ^ k < 2 ^ 8 → k < 8
few_bits k h =
    (elim (ltb k 8) as (λ b. ltb k 8 ≡ b → k < 8) [
      | true ↦ λ e. ltb-true k 8 e
      | false ↦ λ e. absurd (omega (arith, h, pow_mono (ltb-false k 8 e)))
    ]) refl

none_of_limit :
    (limit meter : ℕ) → PowerOfTwo limit → limit < 2 ^ 8 → meter < 2 ^ 8 → eqb (bit_and meter (255 - (limit - 1))) 0 ≡ ltb meter limit
none_of_limit limit meter power fits small =
    let k = power.exponent in
    let few : k < 8 = few_bits k (omega (arith, power.is)) in
    let eight : 8 - k + k ≡ 8 = omega arith in
    let mask : 255 - (limit - 1) ≡ 2 ^ 8 - 2 ^ k = omega (arith, power.is, pow_pos k) in
    let told : eqb (bit_and meter (2 ^ 8 - 2 ^ k)) 0 ≡ ltb meter (2 ^ k) =
    subst (λ (m : ℕ). meter < 2 ^ m → eqb (bit_and meter (2 ^ m - 2 ^ k)) 0 ≡ ltb meter (2 ^ k)) eight (none_higher (8 - k) k meter) small in
    ap (λ (m : ℕ). eqb (bit_and meter m) 0) mask ∙ told ∙ ap (ltb meter) (sym power.is)

pub bits_of_both :
    (kind meter limit : ℕ) → PowerOfTwo limit → limit < 2 ^ 8 → kind < 2 ^ 8 → meter < 2 ^ 8 →
    eqb (bit_or (bit_and ((kind + (2 ^ 8 - letter_s)) % 2 ^ 8) 254) (bit_and meter (255 - (limit - 1)))) 0 ≡ (is_reading_kind kind && ltb meter limit)
bits_of_both kind meter limit power fits small small' =
    zero_over (bit_and ((kind + (2 ^ 8 - letter_s)) % 2 ^ 8) 254) (bit_and meter (255 - (limit - 1)))
    ∙ ap₂ ◌&&◌ (none_higher 7 1 ((kind + (2 ^ 8 - letter_s)) % 2 ^ 8) (omega arith) ∙ kind_less_S kind small) (none_of_limit limit meter power fits small')

-- ---- tests of two columns at once

and_swap : (a b c d : Bool) → ((a && b) && (c && d)) ≡ ((a && c) && (b && d))
and_swap true true c d = refl
and_swap true false true d = refl
and_swap true false false d = refl
and_swap false b c d = refl

and_flip : (a b : Bool) → (a && b) ≡ (b && a)
and_flip true true = refl
and_flip true false = refl
and_flip false true = refl
and_flip false false = refl

and_turn : (a b c : Bool) → ((a && b) && c) ≡ ((a && c) && b)
and_turn true true true = refl
and_turn true true false = refl
and_turn true false true = refl
and_turn true false false = refl
and_turn false b c = refl

and_again : (t a b : Bool) → (a && b) ≡ b → ((t && a) && (t && b)) ≡ (t && b)
and_again true a b e = e
and_again false a b e = refl

module _ {A : Type 0} (test : A → Bool) where
  all_of_more : (blank : A) (xs : List A) (k : ℕ) → k < length xs → all_of test (take (suc k) xs) ≡ (all_of test (take k xs) && test (get_or xs k blank))
  unfolding all_of
  all_of_more blank [] k h = absurd (omega arith)
  all_of_more blank (x ∷ xs) zero h = and-true (test x)
  all_of_more blank (x ∷ xs) (suc k) h =
      ap (λ (b : Bool). test x && b) (all_of_more blank xs k (omega arith)) ∙ sym (and_assoc (test x) (all_of test (take k xs)) (test (get_or xs k blank)))

  all_of_append : (xs ys : List A) → all_of test (xs ++ ys) ≡ (all_of test xs && all_of test ys)
  unfolding all_of
  all_of_append [] ys = refl
  all_of_append (x ∷ xs) ys = ap (λ (b : Bool). test x && b) (all_of_append xs ys) ∙ sym (and_assoc (test x) (all_of test xs) (all_of test ys))

  all_of_first : (m : ℕ) (xs : List A) → (all_of test (take m xs) && all_of test xs) ≡ all_of test xs
  unfolding all_of
  all_of_first zero xs = refl
  all_of_first (suc m) [] = refl
  all_of_first (suc m) (x ∷ xs) = and_again (test x) (all_of test (take m xs)) (all_of test xs) (all_of_first m xs)

  all_of_cover : (m from : ℕ) (xs : List A) → from ≤ m → (all_of test (take m xs) && all_of test (drop from xs)) ≡ all_of test xs
  unfolding all_of
  all_of_cover m zero xs h = all_of_first m xs
  all_of_cover zero (suc from) xs h = absurd (omega arith)
  all_of_cover (suc m) (suc from) [] h = refl
  all_of_cover (suc m) (suc from) (x ∷ xs) h =
      and_assoc (test x) (all_of test (take m xs)) (all_of test (drop from xs)) ∙ ap (λ (b : Bool). test x && b) (all_of_cover m from xs (omega arith))

module _ (limit : ℕ) where
  right_append :
      (kinds kinds' meters meters' : List ℕ) →
      are_right limit (kinds ++ kinds') (meters ++ meters') ≡ (are_right limit kinds meters && are_right limit kinds' meters')
  right_append kinds kinds' meters meters' =
      ap₂ ◌&&◌ (all_of_append is_reading_kind kinds kinds') (all_of_append (λ m. ltb m limit) meters meters')
      ∙ and_swap (all_of is_reading_kind kinds) (all_of is_reading_kind kinds') (all_of (λ m. ltb m limit) meters) (all_of (λ m. ltb m limit) meters')

  -- the first m, and those from one of them on
  pub right_cover :
      (m from : ℕ) (kinds meters : List ℕ) → from ≤ m →
      (are_right limit (drop from kinds) (drop from meters) && are_right limit (take m kinds) (take m meters)) ≡ are_right limit kinds meters
  right_cover m from kinds meters h =
      and_flip (are_right limit (drop from kinds) (drop from meters)) (are_right limit (take m kinds) (take m meters))
      ∙ and_swap (all_of is_reading_kind (take m kinds)) (all_of (λ x. ltb x limit) (take m meters)) (all_of is_reading_kind (drop from kinds)) (all_of (λ x. ltb x limit) (drop from meters))
      ∙ ap₂ ◌&&◌ (all_of_cover is_reading_kind m from kinds h) (all_of_cover (λ x. ltb x limit) m from meters h)

  -- ---- bits laid over words

  zero_laid :
      (words : List ℕ) (k bits : ℕ) → k < length words → are_zero (set words k (bit_or (get_or words k 0) bits)) ≡ (are_zero words && eqb bits 0)
  unfolding are_zero all_of
  zero_laid [] k bits h = absurd (omega arith)
  zero_laid (w ∷ words) zero bits h =
      ap (λ (b : Bool). b && are_zero words) (zero_over w bits) ∙ and_turn (eqb w 0) (eqb bits 0) (are_zero words)
  zero_laid (w ∷ words) (suc k) bits h =
      ap (λ (b : Bool). eqb w 0 && b) (zero_laid words k bits (omega arith)) ∙ sym (and_assoc (eqb w 0) (are_zero words) (eqb bits 0))

  -- those of k readings have been laid, and then one more reading's
  pub right_laid :
      (words₀ words kinds meters : List ℕ) (k bits : ℕ) → k < length words → k < length kinds → k < length meters →
      are_zero words ≡ (are_zero words₀ && are_right limit (take k kinds) (take k meters)) →
      eqb bits 0 ≡ (is_reading_kind (get_or kinds k 0) && ltb (get_or meters k 0) limit) →
      are_zero (set words k (bit_or (get_or words k 0) bits)) ≡ (are_zero words₀ && are_right limit (take (k + 1) kinds) (take (k + 1) meters))
  right_laid words₀ words kinds meters k bits h h' h'' before told =
      let more : are_right limit (take (suc k) kinds) (take (suc k) meters) ≡
      (are_right limit (take k kinds) (take k meters) && (is_reading_kind (get_or kinds k 0) && ltb (get_or meters k 0) limit)) =
      ap₂ ◌&&◌ (all_of_more is_reading_kind 0 kinds k h') (all_of_more (λ m. ltb m limit) 0 meters k h'')
      ∙ and_swap (all_of is_reading_kind (take k kinds)) (is_reading_kind (get_or kinds k 0)) (all_of (λ m. ltb m limit) (take k meters)) (ltb (get_or meters k 0) limit) in
      zero_laid words k bits h ∙ ap₂ ◌&&◌ before told
      ∙ and_assoc (are_zero words₀) (are_right limit (take k kinds) (take k meters)) (is_reading_kind (get_or kinds k 0) && ltb (get_or meters k 0) limit)
      ∙ rw (add-one, more)

  pub right_start : (zero₀ : Bool) → zero₀ ≡ (zero₀ && are_right limit [] [])
  unfolding all_of
  right_start zero₀ = sym (and-true zero₀)

  -- ---- block by block

  -- what is told so far, together with the test of the blocks that are left, stays the same
  pub right_block :
      (zero' zero₀ : Bool) (kinds meters : List ℕ) (blocks meter_blocks : List (List ℕ)) → zero' ≡ (zero₀ && are_right limit kinds meters) →
      (zero' && are_right limit (concat blocks) (concat meter_blocks)) ≡
      (zero₀ && are_right limit (concat (kinds ∷ blocks)) (concat (meters ∷ meter_blocks)))
  right_block zero' zero₀ kinds meters blocks meter_blocks e =
      ap (λ (b : Bool). b && are_right limit (concat blocks) (concat meter_blocks)) e
      ∙ and_assoc zero₀ (are_right limit kinds meters) (are_right limit (concat blocks) (concat meter_blocks))
      ∙ ap (λ (b : Bool). zero₀ && b) (sym (right_append kinds (concat blocks) meters (concat meter_blocks)))

  -- no block is left
  pub right_done :
      (zero₀ : Bool) (blocks meter_blocks : List (List ℕ)) → length blocks ≡ length meter_blocks →
      (length blocks ≡ 0) ⊎ (length meter_blocks ≡ 0) → (zero₀ && are_right limit (concat blocks) (concat meter_blocks)) ≡ zero₀
  unfolding all_of
  right_done zero₀ [] [] e h = and-true zero₀
  right_done zero₀ [] (m ∷ ms) e h = absurd (omega arith)
  right_done zero₀ (k ∷ ks) [] e h = absurd (omega arith)
  right_done zero₀ (k ∷ ks) (m ∷ ms) e (inl h) = absurd (omega arith)
  right_done zero₀ (k ∷ ks) (m ∷ ms) e (inr h) = absurd (omega arith)

  -- ---- one by one

  pub right_one :
      (any bits kind meter : ℕ) (kinds meters : List ℕ) → eqb bits 0 ≡ (is_reading_kind kind && ltb meter limit) →
      (eqb (bit_or any bits) 0 && are_right limit kinds meters) ≡ (eqb any 0 && are_right limit (kind ∷ kinds) (meter ∷ meters))
  unfolding all_of
  right_one any bits kind meter kinds meters told =
      ap (λ (b : Bool). b && are_right limit kinds meters) (zero_over any bits ∙ ap (λ (b : Bool). eqb any 0 && b) told)
      ∙ and_assoc (eqb any 0) (is_reading_kind kind && ltb meter limit) (are_right limit kinds meters)
      ∙ ap (λ (b : Bool). eqb any 0 && b) (and_swap (is_reading_kind kind) (ltb meter limit) (all_of is_reading_kind kinds) (all_of (λ m. ltb m limit) meters))

-- nothing has been joined
pub none_joined : (limit : ℕ) → PowerOfTwo limit → (ltb 0 2 && ltb 0 limit) ≡ true
none_joined limit power = lt-ltb 0 limit (power_positive limit power)

-- a kind less S and a meter are joined to those before them
pub few_one :
    (limit less any kind meter : ℕ) (kinds meters : List ℕ) → PowerOfTwo limit → kind < 2 ^ 8 →
    ((ltb (bit_or less ((kind + (2 ^ 8 - letter_s)) % 2 ^ 8)) 2 && ltb (bit_or any meter) limit) && are_right limit kinds meters) ≡
    ((ltb less 2 && ltb any limit) && are_right limit (kind ∷ kinds) (meter ∷ meters))
unfolding all_of
few_one limit less any kind meter kinds meters power small =
    let k = power.exponent in
    let word : ℕ = (kind + (2 ^ 8 - letter_s)) % 2 ^ 8 in
    let of_kind : ltb (bit_or less word) 2 ≡ (ltb less 2 && is_reading_kind kind) =
    below_over 1 less word ∙ ap (λ (b : Bool). ltb less 2 && b) (kind_less_S kind small) in
    let of_meter : ltb (bit_or any meter) limit ≡ (ltb any limit && ltb meter limit) = rw power.is (below_over k any meter) in
    ap₂ (λ (a b : Bool). (a && b) && are_right limit kinds meters) of_kind of_meter
    ∙ ap (λ (b : Bool). b && are_right limit kinds meters) (and_swap (ltb less 2) (is_reading_kind kind) (ltb any limit) (ltb meter limit))
    ∙ and_assoc (ltb less 2 && ltb any limit) (is_reading_kind kind && ltb meter limit) (are_right limit kinds meters)
    ∙ ap (λ (b : Bool). (ltb less 2 && ltb any limit) && b) (and_swap (is_reading_kind kind) (ltb meter limit) (all_of is_reading_kind kinds) (all_of (λ m. ltb m limit) meters))

pub no_bits : are_zero (replicate 16 0) ≡ true
unfolding are_zero all_of
no_bits = refl

-- the bits of one word more
pub zero_more : (words : List ℕ) (any k : ℕ) → k < length words → eqb any 0 ≡ are_zero (take k words) →
    eqb (bit_or any (get_or words k 0)) 0 ≡ are_zero (take (k + 1) words)
unfolding are_zero
zero_more words any k h e =
    zero_over any (get_or words k 0) ∙ ap (λ (b : Bool). b && eqb (get_or words k 0) 0) e ∙ rw add-one (sym (all_of_more (λ w. eqb w 0) 0 words k h))
