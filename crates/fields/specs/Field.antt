-- One field read from a place on: its key with what stands before it, then its number.
use Rattle.std.specs.Prelude.{ℕ, ◌+◌, Bool, true, false, cond, ◌&&◌, List, [], ◌∷◌, ◌++◌, Option, Some, None, eqb, ℤ, length, get_or, drop}
use Rattle.decimal.specs.Spelled.{number_at, integer_at}

-- a key with its `=`: the first field's, and a later one's, behind the space before it
abbrev pub first : List ℕ → List ℕ
first key = key ++ 61 ∷ []

abbrev pub later : List ℕ → List ℕ
later key = 32 ∷ key ++ 61 ∷ []

-- a text begins with these bytes
unfoldable pub starts_with : List ℕ → List ℕ → Bool
starts_with [] t = true
starts_with (k ∷ ks) [] = false
starts_with (k ∷ ks) (b ∷ t) = eqb k b && starts_with ks t

-- 0A stands at a place, which ends the line
unfoldable pub ends_line : List ℕ → ℕ → Bool
ends_line s at = eqb (get_or s at 0) 10

-- the unsigned number, of at most `most`, of the field that s has from `at` on
unfoldable pub number_field : List ℕ → ℕ → List ℕ → ℕ → Option (ℕ × ℕ)
number_field key most s at = cond (starts_with key (drop at s)) (number_at most s (at + length key)) None

-- the signed number of the field that s has from `at` on
unfoldable pub integer_field : List ℕ → List ℕ → ℕ → Option (ℤ × ℕ)
integer_field key s at = cond (starts_with key (drop at s)) (integer_at s (at + length key)) None

-- with the value that was read and the place behind it, go on; else `none`
unfoldable pub with_field : {V A : Type 0} → Option (V × ℕ) → A → (V → ℕ → A) → A
with_field (Some (v, e)) none go = go v e
with_field None none go = none
