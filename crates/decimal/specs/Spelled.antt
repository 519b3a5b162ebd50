-- What a text spells from a place on: a number as `Decimal` writes it, and the place behind it. A run of digits may go on for ever; past
-- its width a number is malformed, which is `None`.
use Rattle.std.specs.Prelude.{ℕ, suc, ◌+◌, ◌-◌, ◌*◌, ◌^◌, ◌≡◌, Bool, false, cond, ◌&&◌, ◌||◌, List, [], ◌∷◌}
use Rattle.std.specs.Prelude.{Option, Some, None, ltb, leb, eqb, ℤ, pos, neg_ℤ, length, get_or, drop}

-- an ASCII digit
unfoldable pub is_digit : ℕ → Bool
is_digit b = leb 48 b && leb b 57

-- a text that does not begin with a digit: nothing, or another byte first
abbrev pub NoDigit : List ℕ → Type 0
NoDigit t = is_digit (get_or t 0 0) ≡ false

-- a text whose last byte is no digit: no run of digits reaches its end
abbrev pub Ended : List ℕ → Type 0
Ended s = is_digit (get_or s (length s - 1) 0) ≡ false

-- how many digits stand at the start of a text
unfoldable pub run_length : List ℕ → ℕ
run_length [] = 0
run_length (b ∷ s) = cond (is_digit b) (suc (run_length s)) 0

-- the value of the digits at the start of a text, behind digits of value v
unfoldable pub run_value : ℕ → List ℕ → ℕ
run_value v [] = v
run_value v (b ∷ s) = cond (is_digit b) (run_value (v * 10 + (b - 48)) s) v

-- no digit at all, or a zero before another digit
unfoldable pub misspelled : List ℕ → Bool
misspelled t = eqb (run_length t) 0 || (eqb (get_or t 0 0) 48 && ltb 1 (run_length t))

-- the unsigned number, of at most `most`, that the text s spells from `at` on
unfoldable pub number_at : ℕ → List ℕ → ℕ → Option (ℕ × ℕ)
number_at most s at =
    let t = drop at s in
    cond (misspelled t || ltb most (run_value 0 t)) None (Some (run_value 0 t, at + run_length t))

-- the negative number whose magnitude was read: not zero, which has no minus
unfoldable pub negated : Option (ℕ × ℕ) → Option (ℤ × ℕ)
negated (Some (m, e)) = cond (eqb m 0) None (Some (neg_ℤ (pos m), e))
negated None = None

-- the number itself, which is not below zero
unfoldable pub as_integer : Option (ℕ × ℕ) → Option (ℤ × ℕ)
as_integer (Some (m, e)) = Some (pos m, e)
as_integer None = None

-- the signed number of 32 bits that the text s spells from `at` on
unfoldable pub integer_at : List ℕ → ℕ → Option (ℤ × ℕ)
integer_at s at =
    cond (eqb (get_or (drop at s) 0 0) 45) (negated (number_at (2 ^ 31) s (at + 1))) (as_integer (number_at (2 ^ 31 - 1) s at))
