-- Two's complement at any number of bits: the word fits, and word and number are each other's inverse. So are what
-- the library casts. By cases on the sign; what is needed of powers is that one more bit doubles.
use mathlib.Core.Path.{◌≡◌, refl, sym, ap, ◌∙◌}
use Prim.Native.Nat.{ℕ, zero, suc, ◌-◌, ◌*◌, ◌<◌, ◌≤◌, ◌^◌}
use native.Mathlib.Omega.{arith}
use native.Mathlib.Nat.{pow-succ'}
use mathlib.Core.Logic.{⊎_elim}
use lib.Pow.{pow_pos}
use borrow.Author.Tests.{lt-ltb, le-ltb}
use lib.IntN.{ℤ, pos, negsuc}
use lib.Signed.{mag}
use mir.Syntax.{Width, w8, w16, w32, w64, w128}
use mir.Val.{SFits, bits, hbits, to_z, of_z}
use mir.Facts.{to_z-of_z}
use Rattle.signed.specs.Twos.{twos, signed_of}
use Rattle.signed.proofs.Comparing.{lt_or_le}

-- ---- words as signed numbers

-- one bit less holds half as many, but for the word of no bits
half : (b : ℕ) → 1 ≤ b → 2 ^ b ≡ 2 * 2 ^ (b - 1)
half b h = ap (λ (k : ℕ). 2 ^ k) (omega arith) ∙ pow-succ' 2 (b - 1)

half_le : (b : ℕ) → (2 ^ (b - 1) ≤ 2 ^ b) × (2 ^ b ≤ 2 * 2 ^ (b - 1))
half_le zero = omega arith
half_le (suc b) = omega (arith, half (suc b) (omega arith))

signed_of_low : (b word : ℕ) → word < 2 ^ (b - 1) → signed_of b word ≡ pos word
unfolding signed_of
signed_of_low b word h = simp (lt-ltb word (2 ^ (b - 1)) h)

signed_of_high : (b word : ℕ) → 2 ^ (b - 1) ≤ word → word < 2 ^ b → signed_of b word ≡ negsuc (2 ^ b - 1 - word)
unfolding signed_of
signed_of_high b word h l =
    let e : 2 ^ b - word ≡ suc (2 ^ b - 1 - word) = omega arith in
    simp (le-ltb word (2 ^ (b - 1)) h, e)

-- a number that fits so many bits: pos n and negsuc n with n below half the number of words
pub twos_fits : (b : ℕ) (z : ℤ) → mag z < 2 ^ (b - 1) → twos b z < 2 ^ b
unfolding twos
twos_fits b (pos n) h = omega (arith, half_le b)
twos_fits b (negsuc n) h = omega (arith, pow_pos b)

pub signed_of_twos : (b : ℕ) (z : ℤ) → 1 ≤ b → mag z < 2 ^ (b - 1) → signed_of b (twos b z) ≡ z
unfolding twos
signed_of_twos b (pos n) p h = signed_of_low b n h
signed_of_twos b (negsuc n) p h =
    let e : 2 ^ b ≡ 2 * 2 ^ (b - 1) = half b p in
    signed_of_high b (2 ^ b - suc n) (omega arith) (omega arith) ∙ ap negsuc (omega arith)

pub signed_of_fits : (b word : ℕ) → word < 2 ^ b → mag (signed_of b word) < 2 ^ (b - 1)
signed_of_fits b word l =
    ⊎_elim
    (λ (h : word < 2 ^ (b - 1)). rw (signed_of_low b word h) h)
    (λ (h : 2 ^ (b - 1) ≤ word). rw (signed_of_high b word h l) (omega (arith, half_le b)))
    (lt_or_le word (2 ^ (b - 1)))

pub twos_signed_of : (b word : ℕ) → word < 2 ^ b → twos b (signed_of b word) ≡ word
unfolding twos
twos_signed_of b word l =
    ⊎_elim
    (λ (h : word < 2 ^ (b - 1)). rw (signed_of_low b word h))
    (λ (h : 2 ^ (b - 1) ≤ word). rw (signed_of_high b word h l) (omega arith))
    (lt_or_le word (2 ^ (b - 1)))

-- ---- the library's casts, at a width of the machine

hbits_less_one : (w : Width) → hbits w ≡ bits w - 1
hbits_less_one w8 = refl
hbits_less_one w16 = refl
hbits_less_one w32 = refl
hbits_less_one w64 = refl
hbits_less_one w128 = refl

-- the word that a number is cast to
pub cast_twos : (w : Width) (z : ℤ) → of_z w z ≡ twos (bits w) z
unfolding twos
cast_twos w (pos n) = refl
cast_twos w (negsuc n) = refl

-- and the number that a word is cast to, as a result is read back
pub cast_signed_of : (w : Width) (word : ℕ) → word < 2 ^ bits w → to_z w (of_z w (to_z w word)) ≡ signed_of (bits w) word
cast_signed_of w word h =
    let number = signed_of (bits w) word in
    let fits : SFits w number = record { sfits = rw (hbits_less_one w) (signed_of_fits (bits w) word h) } in
    let same : to_z w word ≡ number = ap (to_z w) (sym (cast_twos w number ∙ twos_signed_of (bits w) word h)) ∙ to_z-of_z fits in
    rw same (to_z-of_z fits)
