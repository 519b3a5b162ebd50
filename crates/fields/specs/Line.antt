-- A line of text: keyed fields with one space between them, and a 0A (document 01, section 'Clocks, lines and readings').
use Rattle.std.specs.Prelude.{ℕ, Bool, false, cond, ◌||◌, List, [], ◌∷◌, ◌++◌, eqb}

-- a key, `=` and the text of a value
unfoldable pub field : List ℕ → List ℕ → List ℕ
field key value = key ++ 61 ∷ value

-- fields joined by single spaces, then 0A
unfoldable pub line_of : List (List ℕ) → List ℕ
line_of [] = 10 ∷ []
line_of (f ∷ []) = f ++ 10 ∷ []
line_of (f ∷ g ∷ fs) = f ++ 32 ∷ line_of (g ∷ fs)

-- a text's first line with its 0A; a text without a 0A is one line
unfoldable pub next_line : List ℕ → List ℕ
next_line [] = []
next_line (b ∷ s) = cond (eqb b 10) (b ∷ []) (b ∷ next_line s)

-- a text's first line is whole: there is a 0A
unfoldable pub holds_line : List ℕ → Bool
holds_line [] = false
holds_line (b ∷ s) = eqb b 10 || holds_line s
