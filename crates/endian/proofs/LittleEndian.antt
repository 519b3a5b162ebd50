-- A number's bytes and the number of bytes are inverse, at every width. So are what the library makes of words and
-- of bytes. Each law goes by the width or along the bytes: one byte more is a division by 256.
use mathlib.Core.Path.{◌≡◌, refl, sym, ap, ap₂, ◌∙◌}
use mathlib.Core.List.{List, [], ◌∷◌, ◌++◌}
use Prim.Native.Nat.{ℕ, zero, suc, ◌+◌, ◌-◌, ◌*◌, ◌/◌, ◌%◌, ◌^◌, ◌<◌}
use native.Mathlib.Omega.{arith}
use native.Mathlib.Nat.{pow-suc, div-one, div-lt_iff_lt-mul, div-div-eq-div-mul}
use lib.Dec.{lit<}
use lib.ListN.{length, get_or, take, drop}
use lib.Seq.{length-take-le, get_or-drop, take-suc, take_all}
use Rattle.std.specs.Int.{Width, w8, w16, w32, w64, w128, byte_at, byte_len, byte_worth, bytes_low_first, sum_through, to_le_bytes, from_le_bytes}
use Rattle.endian.specs.LittleEndian.{little_endian, number_of}

-- numbers that a slice of bytes can hold: each is below 256
abbrev pub AreBytes : List ℕ → Type 0
AreBytes bytes = (i : ℕ) → get_or bytes i 0 < 256

pub length_little_endian : (width x : ℕ) → length (little_endian width x) ≡ width
unfolding little_endian
length_little_endian zero x = refl
length_little_endian (suc width) x = ap suc (length_little_endian width (x / 256))

pub are_bytes_little_endian : (width x : ℕ) → AreBytes (little_endian width x)
unfolding little_endian
are_bytes_little_endian zero x i = omega arith
are_bytes_little_endian (suc width) x zero = omega arith
are_bytes_little_endian (suc width) x (suc i) = are_bytes_little_endian width (x / 256) i

-- a number that fits the width comes back
pub number_of_little_endian : (width x : ℕ) → x < 256 ^ width → number_of (little_endian width x) ≡ x
unfolding little_endian number_of
number_of_little_endian zero x h = omega arith
number_of_little_endian (suc width) x h =
    let less : x < 256 ^ width * 256 = rw (pow-suc 256 width) at h in
    omega (arith, number_of_little_endian width (x / 256) ((div-lt_iff_lt-mul (lit< tt)).1 less))

-- bytes come back, at their own width
pub little_endian_number_of : (bytes : List ℕ) → AreBytes bytes → little_endian (length bytes) (number_of bytes) ≡ bytes
unfolding little_endian number_of
little_endian_number_of [] h = refl
little_endian_number_of (b ∷ bytes) h =
    let low : (b + 256 * number_of bytes) % 256 ≡ b = omega (arith, h 0) in
    let high : (b + 256 * number_of bytes) / 256 ≡ number_of bytes = omega (arith, h 0) in
    rw (low, high) (ap (λ (l : List ℕ). b ∷ l) (little_endian_number_of bytes (λ i. h (suc i))))

pub number_of_bound : (bytes : List ℕ) → AreBytes bytes → number_of bytes < 256 ^ length bytes
unfolding number_of
number_of_bound [] h = omega arith
number_of_bound (b ∷ bytes) h = omega (arith, h 0, pow-suc 256 (length bytes), number_of_bound bytes (λ i. h (suc i)))

-- the number of two runs of bytes
pub number_of_append : (low high : List ℕ) → number_of (low ++ high) ≡ number_of low + 256 ^ length low * number_of high
unfolding number_of
number_of_append [] high = omega arith
number_of_append (b ∷ low) high = rw (pow-suc 256 (length low)) (omega (arith, number_of_append low high))

-- ---- the library's words as bytes, at a width of the machine

byte_at_is : (i n : ℕ) → byte_at i n ≡ n / 256 ^ i % 256
byte_at_is zero n = ap (λ (k : ℕ). k % 256) (sym (div-one n))
byte_at_is (suc i) n = refl

bytes_up : (i k n : ℕ) → bytes_low_first i k n ≡ little_endian k (n / 256 ^ i)
unfolding little_endian
bytes_up i zero n = refl
bytes_up i (suc k) n =
    let above : n / 256 ^ suc i ≡ n / 256 ^ i / 256 = rw (pow-suc 256 i) (sym (div-div-eq-div-mul n (256 ^ i) 256)) in
    ap₂ (λ (b : ℕ) (l : List ℕ). b ∷ l) (byte_at_is i n) (bytes_up (suc i) k n ∙ ap (little_endian k) above)

-- a word's bytes
pub to_bytes : (w : Width) (x : ℕ) → to_le_bytes w x ≡ little_endian (byte_len w) x
to_bytes w x = bytes_up 0 (byte_len w) x ∙ ap (little_endian (byte_len w)) (div-one x)

byte_worth_is : (i b : ℕ) → byte_worth i b ≡ 256 ^ i * b
byte_worth_is zero b = omega arith
byte_worth_is (suc i) b = omega arith

number_up : (s : List ℕ) (k : ℕ) → k < length s → sum_through (λ (i : ℕ). byte_worth i (get_or s i 0)) k ≡ number_of (take (suc k) s)
unfolding number_of
number_up s zero h = rw (take-suc s 0 0 h) (omega arith)
number_up s (suc k) h =
    let whole : length (take (suc k) s) ≡ suc k = length-take-le (suc k) s (omega arith) in
    let front = number_up s k (omega arith) in
    let last = byte_worth_is (suc k) (get_or s (suc k) 0) in
    rw (take-suc s (suc k) 0 h, number_of_append, whole) (omega arith)

-- and a word of bytes
pub from_bytes : (w : Width) (s : List ℕ) → length s ≡ byte_len w → from_le_bytes w s ≡ number_of s
from_bytes w s h =
    let some : byte_len w ≡ suc (byte_len w - 1) = some_bytes w in
    number_up s (byte_len w - 1) (omega arith) ∙ ap number_of (take_all (suc (byte_len w - 1)) s (omega arith))
  where
    some_bytes : (w : Width) → byte_len w ≡ suc (byte_len w - 1)
    some_bytes w8 = refl
    some_bytes w16 = refl
    some_bytes w32 = refl
    some_bytes w64 = refl
    some_bytes w128 = refl

-- ---- bytes of a list and of its parts

pub are_bytes_append : (a b : List ℕ) → AreBytes a → AreBytes b → AreBytes (a ++ b)
are_bytes_append [] b h k i = k i
are_bytes_append (x ∷ a) b h k zero = h zero
are_bytes_append (x ∷ a) b h k (suc i) = are_bytes_append a b (λ j. h (suc j)) k i

pub are_bytes_take : (n : ℕ) (s : List ℕ) → AreBytes s → AreBytes (take n s)
are_bytes_take zero s h i = omega arith
are_bytes_take (suc n) [] h i = omega arith
are_bytes_take (suc n) (x ∷ s) h zero = h zero
are_bytes_take (suc n) (x ∷ s) h (suc i) = are_bytes_take n s (λ j. h (suc j)) i

pub are_bytes_drop : (n : ℕ) (s : List ℕ) → AreBytes s → AreBytes (drop n s)
are_bytes_drop n s h i = rw (get_or-drop n s i 0) (h (n + i))
