-- What refusal 4 asks of the ids and the kinds of a line's kept readings (document 01, section 'Refusal by whom').
use Rattle.std.specs.Prelude.{ℕ, Bool, true, ◌&&◌, ◌||◌, List, [], ◌∷◌, ◌==◌, nat_lt}
use Rattle.journal.specs.Kinds.{letter_s, letter_t}

-- each number above the one before it
unfoldable pub rises : List ℕ → Bool
rises [] = true
rises (a ∷ []) = true
rises (a ∷ b ∷ bs) = nat_lt a b && rises (b ∷ bs)

-- the kind of a kept reading: S or T
unfoldable pub is_reading_kind : ℕ → Bool
is_reading_kind kind = kind == letter_s || kind == letter_t
