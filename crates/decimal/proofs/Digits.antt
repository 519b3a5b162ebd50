-- Laws on the digits of a number: the last digit apart, and how many there are. A number of k digits at most wants no more than k steps of
-- `digits_within`, so below 10^20 the last digit comes off `digits`.
use mathlib.Core.Path.{◌≡◌, refl, sym, ap, ◌∙◌}
use mathlib.Core.Logic.{◌⊎◌, inl, inr, ⊎_elim}
use mathlib.Core.Bool.{Bool, true, false}
use mathlib.Core.List.{List, [], ◌∷◌, ◌++◌}
use Prim.Native.Nat.{ℕ, zero, suc, ◌+◌, ◌*◌, ◌/◌, ◌%◌, ◌<◌, ◌≤◌, ◌^◌}
use native.Mathlib.Omega.{arith}
use native.Mathlib.Nat.{pow-suc, one-le-pow, div-lt_iff_lt-mul, le-div_iff_mul-le}
use lib.Dec.{ltb}
use lib.ListN.{length, length-append}
use borrow.Author.Tests.{lt-ltb, le-ltb, ltb-true, ltb-false}
use Rattle.decimal.specs.Decimal.{digits_within, digits}

-- one digit, or more than one
pub one_or_more : (n : ℕ) → (n < 10) ⊎ (10 ≤ n)
one_or_more n = by (ltb n 10) refl
  where
    by : (t : Bool) → ltb n 10 ≡ t → (n < 10) ⊎ (10 ≤ n)
    by true e = inl (ltb-true n 10 e)
    by false e = inr (ltb-false n 10 e)

pub within_one : (most n : ℕ) → n < 10 → digits_within (suc most) n ≡ (48 + n) ∷ []
unfolding digits_within
within_one most n h = rw (lt-ltb n 10 h)

pub within_more : (most n : ℕ) → 10 ≤ n → digits_within (suc most) n ≡ digits_within most (n / 10) ++ ((48 + n % 10) ∷ [])
unfolding digits_within
within_more most n h = rw (le-ltb n 10 h)

-- a tenth of a number has one digit less
pub tenth_below : (k n : ℕ) → n < 10 ^ suc k → n / 10 < 10 ^ k
tenth_below k n h = (div-lt_iff_lt-mul {k = 10} {x = n} {y = 10 ^ k} (omega arith)).1 (rw (pow-suc 10 k) at h)

-- a step more than a number has digits changes nothing
spare_step : (k n : ℕ) → n < 10 ^ suc k → digits_within (suc (suc k)) n ≡ digits_within (suc k) n
spare_step zero n h =
    let l : n < 10 = omega (arith, pow-suc 10 0, h) in
    within_one 1 n l ∙ sym (within_one 0 n l)
spare_step (suc k) n h =
    ⊎_elim
    (λ l. within_one (suc (suc k)) n l ∙ sym (within_one (suc k) n l))
    (λ g. within_more (suc (suc k)) n g
    ∙ ap (λ (t : List ℕ). t ++ ((48 + n % 10) ∷ [])) (spare_step k (n / 10) (tenth_below (suc k) n h))
    ∙ sym (within_more (suc k) n g))
    (one_or_more n)

-- a number of one digit, and the last digit of any other
pub digits_one : (n : ℕ) → n < 10 → digits n ≡ (48 + n) ∷ []
unfolding digits
digits_one n h = within_one 19 n h

pub digits_more : (n : ℕ) → 10 ≤ n → n < 10 ^ 20 → digits n ≡ digits (n / 10) ++ ((48 + n % 10) ∷ [])
unfolding digits
digits_more n g h =
    within_more 19 n g
    ∙ ap (λ (t : List ℕ). t ++ ((48 + n % 10) ∷ [])) (sym (spare_step 18 (n / 10) (omega arith)))

-- the digits of a number with a digit put behind it
pub digits_behind : (a d : ℕ) → 0 < a → d < 10 → a * 10 + d < 10 ^ 20 → digits (a * 10 + d) ≡ digits a ++ ((48 + d) ∷ [])
digits_behind a d p l h =
    let q : (a * 10 + d) / 10 ≡ a = omega arith in
    let m : (a * 10 + d) % 10 ≡ d = omega arith in
    rw (digits_more (a * 10 + d) (omega arith) h, q, m)

-- how many digits a number has
pub length_snoc : (s : List ℕ) (b : ℕ) → length (s ++ (b ∷ [])) ≡ length s + 1
length_snoc s b = length-append s (b ∷ [])

pub length_more : (n : ℕ) → 10 ≤ n → n < 10 ^ 20 → length (digits n) ≡ length (digits (n / 10)) + 1
length_more n g h = rw (digits_more n g h, length_snoc)

-- two digits at once
pub hundredth : (n : ℕ) → n / 100 ≡ n / 10 / 10
hundredth n = omega arith

pub length_pair : (n : ℕ) → 100 ≤ n → n < 10 ^ 20 → length (digits n) ≡ length (digits (n / 100)) + 2
length_pair n g h = rw (hundredth n) (omega (arith, length_more n (omega arith) h, length_more (n / 10) (omega arith) (omega arith)))

within_short : (most k n : ℕ) → n < 10 ^ suc k → length (digits_within most n) ≤ suc k
unfolding digits_within
within_short zero k n h = omega arith
within_short (suc most) zero n h = rw (within_one most n (omega (arith, pow-suc 10 0, h))) (omega arith)
within_short (suc most) (suc k) n h =
    ⊎_elim
    (λ l. rw (within_one most n l) (omega arith))
    (λ g. rw (within_more most n g, length_snoc)
    (omega (arith, within_short most k (n / 10) (tenth_below (suc k) n h))))
    (one_or_more n)

-- a number below 10^k has at most k
pub digits_short : (k n : ℕ) → 0 < k → k ≤ 20 → n < 10 ^ k → length (digits n) ≤ k
unfolding digits
digits_short zero n p l h = absurd (omega arith)
digits_short (suc k) n p l h = within_short 20 k n h

-- never none
pub digits_some : (n : ℕ) → 0 < length (digits n)
unfolding digits
digits_some n =
    ⊎_elim
    (λ l. rw (within_one 19 n l) (omega arith))
    (λ g. rw (within_more 19 n g, length_snoc) (omega arith))
    (one_or_more n)

-- a number of at least 10^k has more than k
pub digits_long : (k n : ℕ) → 10 ^ k ≤ n → n < 10 ^ 20 → k < length (digits n)
digits_long zero n g h = digits_some n
digits_long (suc k) n g h =
    let q : 10 ^ k * 10 ≤ n = rw (pow-suc 10 k) at g in
    let p : 1 ≤ 10 ^ k = one-le-pow k 10 (omega arith) in
    let t : 10 ^ k ≤ n / 10 = (le-div_iff_mul-le {k = 10} {x = 10 ^ k} {y = n} (omega arith)).1 q in
    omega (arith, length_more n (omega arith) h, digits_long k (n / 10) t (omega arith))
