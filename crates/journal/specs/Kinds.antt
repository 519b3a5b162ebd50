-- The six kinds of calls, by their letter's byte (document 01, section 'Clocks, lines and readings').
use Rattle.std.specs.Prelude.{ℕ, Bool, ◌||◌, eqb}

-- S stable reading, T tentative reading, B boundary, U undo, R corrections done, P step
abbrev pub letter_s : ℕ
letter_s = 83

abbrev pub letter_t : ℕ
letter_t = 84

abbrev pub letter_b : ℕ
letter_b = 66

abbrev pub letter_u : ℕ
letter_u = 85

abbrev pub letter_r : ℕ
letter_r = 82

abbrev pub letter_p : ℕ
letter_p = 80

-- a byte that is one of these letters
unfoldable pub is_letter : ℕ → Bool
is_letter kind =
    eqb kind letter_s || (eqb kind letter_t || (eqb kind letter_b || (eqb kind letter_u || (eqb kind letter_r || eqb kind letter_p))))
