-- Two's complement at any number of bits.
use Rattle.std.specs.Prelude.{ℕ, suc, ◌-◌, ◌^◌, cond, ltb, ℤ, pos, negsuc, neg_ℤ}

-- the word of so many bits that stands for a signed number
unfoldable pub twos : ℕ → ℤ → ℕ
twos bits (pos n) = n
twos bits (negsuc n) = 2 ^ bits - suc n

-- the signed number that such a word stands for
unfoldable pub signed_of : ℕ → ℕ → ℤ
signed_of bits word = cond (ltb word (2 ^ (bits - 1))) (pos word) (neg_ℤ (pos (2 ^ bits - word)))
