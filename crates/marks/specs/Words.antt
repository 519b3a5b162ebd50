-- Tests packed into words: test i is bit i, 64 to a word.
use Rattle.std.specs.Prelude.{ℕ, zero, suc, ◌+◌, ◌*◌, Bool, cond, List, [], ◌∷◌, take, drop}

-- how many places a word has
abbrev pub word_bits : ℕ
word_bits = 64

-- how many words hold the marks: one, for the meters 0 to 63
abbrev pub word_count : ℕ
word_count = 1

-- the word whose bits are these tests
unfoldable pub word_of : List Bool → ℕ
word_of [] = 0
word_of (b ∷ bs) = cond b 1 0 + 2 * word_of bs

-- so many words of these tests
unfoldable pub words_of : ℕ → List Bool → List ℕ
words_of zero bs = []
words_of (suc n) bs = word_of (take word_bits bs) ∷ words_of n (drop word_bits bs)
