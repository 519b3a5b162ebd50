-- The bits of one number: its trailing zeros say which set bit is the lowest, and the ones are counted bit by bit.
use Prim.Native.Nat.{ℕ, zero, suc, ◌+◌, ◌-◌, ◌/◌, ◌%◌, ◌^◌, ◌<◌}
use mathlib.Core.Path.{◌≡◌, refl, sym, ◌∙◌, ap, ap₂, subst}
use mathlib.Core.Bool.{Bool, true, false, cond, true≢false}
use mathlib.Core.Logic.{⊎_elim}
use native.Mathlib.Omega.{arith}
use native.Mathlib.Nat.{mod-lt, zero-div, div-one, div-eq_of_lt}
use native.Mathlib.Numerals.{add-one}
use lib.Arith.{lt-one}
use lib.Dec.{eqb}
use lib.Pow.{shr-shr, shr_lt}
use lib.Count.{count_trailing_zeros, under, ones_in, ones, ones_step}
use Rattle.signed.proofs.Comparing.{lt_or_le}

-- bit i of a word is set
abbrev pub is_set : ℕ → ℕ → Bool
is_set word i = eqb (word / 2 ^ i % 2) 1

-- ---- shifted words

-- a bit of a shifted word
pub set_shifted : (word b k : ℕ) → is_set (word / 2 ^ b) k ≡ is_set word (b + k)
set_shifted word b k = ap (λ (n : ℕ). eqb (n % 2) 1) (shr-shr word b k)

-- one bit further on
half : (word i : ℕ) → word / 2 ^ i / 2 ≡ word / 2 ^ suc i
half word i = shr-shr word i 1 ∙ ap (λ (k : ℕ). word / 2 ^ k) (add-one i)

pub set_half : (n k : ℕ) → is_set (n / 2) k ≡ is_set n (suc k)
set_half n k = set_shifted n 1 k ∙ ap (is_set n) (omega arith)

half_below : (k n : ℕ) → n < 2 ^ suc k → n / 2 < 2 ^ k
half_below k n h = shr_lt k 1 (subst (λ (x : ℕ). n < 2 ^ x) (sym (add-one k)) h)

-- 0 has no bit set
pub none_set : (i : ℕ) → is_set 0 i ≡ false
none_set i = ap (λ (n : ℕ). eqb (n % 2) 1) (zero-div (2 ^ i))

-- where nothing is left of the shifted word, no bit from there on is set
none_above : (word b k : ℕ) → word / 2 ^ b ≡ 0 → is_set word (b + k) ≡ false
none_above word b k e = sym (set_shifted word b k) ∙ ap (λ (n : ℕ). is_set n k) e ∙ none_set k

-- a number below 2 to the n has no bit set from n on
pub set_below : (word n i : ℕ) → word < 2 ^ n → is_set word i ≡ true → i < n
set_below word n i h e =
    ⊎_elim (λ l. l)
    (λ g.
    let there : n + (i - n) ≡ i = omega arith in
    absurd (true≢false (sym e ∙ ap (is_set word) (sym there) ∙ none_above word n (i - n) (div-eq_of_lt h))))
    (lt_or_le i n)

-- ---- the lowest set bit

-- bit t is the lowest that is set
pub record Lowest (n t : ℕ) : Type 0 where
  pub there : is_set n t ≡ true
  pub below : (j : ℕ) → j < t → is_set n j ≡ false

-- bit 0 is the remainder by 2
pub set_first : (n r : ℕ) → n % 2 ≡ r → is_set n 0 ≡ eqb r 1
set_first n r e = ap (λ (m : ℕ). eqb (m % 2) 1) (div-one n) ∙ ap (λ (m : ℕ). eqb m 1) e

lowest_odd : (n : ℕ) → n % 2 ≡ 1 → Lowest n 0
lowest_odd n e = record { there = set_first n 1 e; below = λ j h. absurd (omega arith) }

lowest_even : (n t : ℕ) → n % 2 ≡ 0 → Lowest (n / 2) t → Lowest n (suc t)
lowest_even n t e l = record { there = sym (set_half n t) ∙ l.there; below = below }
  where
    below : (j : ℕ) → j < suc t → is_set n j ≡ false
    below zero h = set_first n 0 e
    below (suc j) h = sym (set_half n j) ∙ l.below j (omega arith)

lowest_by : (n t r : ℕ) → n % 2 ≡ r → (n % 2 ≡ 0 → Lowest (n / 2) t) → Lowest n (under r t)
lowest_by n t zero e l = lowest_even n t e (l e)
lowest_by n t (suc r) e l = lowest_odd n (omega (arith, mod-lt n {m = 2} (omega arith)))

-- it is as many bits up as there are trailing zeros
pub zeros_lowest : (k n : ℕ) → 0 < n → n < 2 ^ k → Lowest n (count_trailing_zeros k n)
unfolding count_trailing_zeros
zeros_lowest zero n h g = absurd (omega arith)
zeros_lowest (suc k) n h g =
    lowest_by n (count_trailing_zeros k (n / 2)) (n % 2) refl
    (λ (e : n % 2 ≡ 0). zeros_lowest k (n / 2) (omega arith) (half_below k n g))

-- ---- the set bits, counted

-- a bit as a number
bit_counted : (n : ℕ) → cond (eqb (n % 2) 1) 1 0 ≡ n % 2
bit_counted n = go (n % 2) (mod-lt n (omega arith))
  where
    go : (r : ℕ) → r < 2 → cond (eqb r 1) 1 0 ≡ r
    go zero h = refl
    go (suc zero) h = refl
    go (suc (suc r)) h = absurd (omega arith)

-- as many bits as the number has are enough
pub ones_within : (d n : ℕ) → n < 2 ^ d → ones_in d n ≡ ones n
unfolding ones_in ones
ones_within zero n h = ap ones (sym (lt-one h))
ones_within (suc d) n h = ap (λ (x : ℕ). n % 2 + x) (ones_within d (n / 2) (half_below d n h)) ∙ sym (ones_step n)

-- the set bits of a word from bit k on: this one, and those behind it
pub ones_from : (d word k : ℕ) → ones_in (suc d) (word / 2 ^ k) ≡ cond (is_set word k) 1 0 + ones_in d (word / 2 ^ suc k)
unfolding ones_in
ones_from d word k = ap₂ (λ (x y : ℕ). x + ones_in d y) (sym (bit_counted (word / 2 ^ k))) (half word k)
