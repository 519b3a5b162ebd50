-- Words laid over each other, bit by bit: all are below a power of two exactly if what they give together is, and all are 0 exactly if
-- that is. Words of which no bit differs are equal.
use mathlib.Core.Path.{◌≡◌, refl, sym, ◌∙◌, ap, ap₂}
use mathlib.Core.Bool.{true, false, ◌&&◌}
use Prim.Native.Nat.{ℕ, zero, suc, ◌^◌, ◌≤◌}
use native.Mathlib.Nat.{le_trans}
use native.Mathlib.Omega.{arith}
use lib.Dec.{ltb, eqb, eqb-suc-zero}
use lib.Bits.{bit_or, bit_xor, or_lt, or_add_and, and_le_l, and_le_r, xor_self, xor_add_and}
use borrow.Author.Tests.{lt-ltb, le-ltb, ltb-true, ltb-false, eqb-true, eqb-false, eq-eqb, ne_eqb}

first_over : (a b : ℕ) → a ≤ bit_or a b
first_over a b = omega (arith, or_add_and a b, and_le_r a b)

second_over : (a b : ℕ) → b ≤ bit_or a b
second_over a b = omega (arith, or_add_and a b, and_le_l a b)

pub below_over : (k a b : ℕ) → ltb (bit_or a b) (2 ^ k) ≡ (ltb a (2 ^ k) && ltb b (2 ^ k))
below_over k a b =
    (elim (ltb a (2 ^ k)) as (λ p. ltb a (2 ^ k) ≡ p → ltb (bit_or a b) (2 ^ k) ≡ (p && ltb b (2 ^ k))) [
      | true ↦ λ ea. (elim (ltb b (2 ^ k)) as (λ q. ltb b (2 ^ k) ≡ q → ltb (bit_or a b) (2 ^ k) ≡ q) [
        | true ↦ λ eb. lt-ltb (bit_or a b) (2 ^ k) (or_lt k a b (ltb-true a (2 ^ k) ea) (ltb-true b (2 ^ k) eb))
        | false ↦ λ eb. le-ltb (bit_or a b) (2 ^ k) (le_trans (ltb-false b (2 ^ k) eb) (second_over a b))
      ]) refl
      | false ↦ λ ea. le-ltb (bit_or a b) (2 ^ k) (le_trans (ltb-false a (2 ^ k) ea) (first_over a b))
    ]) refl

zero_below : (n : ℕ) → eqb n 0 ≡ ltb n (2 ^ 0)
zero_below zero = refl
zero_below (suc n) = eqb-suc-zero n ∙ sym (le-ltb (suc n) 1 (omega arith))

pub zero_over : (a b : ℕ) → eqb (bit_or a b) 0 ≡ (eqb a 0 && eqb b 0)
zero_over a b = zero_below (bit_or a b) ∙ below_over 0 a b ∙ ap₂ ◌&&◌ (sym (zero_below a)) (sym (zero_below b))

pub zero_apart : (a b : ℕ) → eqb (bit_xor a b) 0 ≡ eqb a b
zero_apart a b =
    (elim (eqb a b) as (λ p. eqb a b ≡ p → eqb (bit_xor a b) 0 ≡ p) [
      | true ↦ λ e. eq-eqb (bit_xor a b) 0 (ap (bit_xor a) (sym (eqb-true a b e)) ∙ xor_self a)
      | false ↦ λ e.
          ne_eqb (bit_xor a b) 0
          (λ z. eqb-false a b e (omega (arith, z, xor_add_and a b, and_le_l a b, and_le_r a b)))
    ]) refl
