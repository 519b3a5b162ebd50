-- The decimal text of a number: no leading zero, a minus only before a negative value (document 01, section 'Clocks, lines and
-- readings').
use Rattle.std.specs.Prelude.{ℕ, zero, suc, ◌+◌, ◌/◌, ◌%◌, cond, List, [], ◌∷◌, ◌++◌, ltb, ℤ, pos, negsuc}

-- the digits of n, at most `most` of them
unfoldable pub digits_within : ℕ → ℕ → List ℕ
digits_within zero n = []
digits_within (suc most) n = cond (ltb n 10) ((48 + n) ∷ []) (digits_within most (n / 10) ++ ((48 + n % 10) ∷ []))

-- the digits of n: a number of 64 bits has at most twenty
unfoldable pub digits : ℕ → List ℕ
digits n = digits_within 20 n

-- the text of a whole number
unfoldable pub decimal : ℤ → List ℕ
decimal (pos n) = digits n
decimal (negsuc n) = 45 ∷ digits (suc n)
