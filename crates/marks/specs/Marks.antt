-- Marks by the word (document 02, W3): a bit for each place, the lowest for the first.
use Rattle.std.specs.Prelude.{ℕ, zero, suc, ◌+◌, ◌*◌, ◌-◌, ◌/◌, ◌%◌, ◌^◌, Bool, cond, List, Option, Some, None, eqb, length, get_or}
use Rattle.marks.specs.Words.{word_bits}

-- place i is marked: its bit is set; behind the last word nothing is
unfoldable pub is_marked : List ℕ → ℕ → Bool
is_marked words i = eqb (get_or words (i / word_bits) 0 / 2 ^ (i % word_bits) % 2) 1

-- the first marked one of so many places from i on
unfoldable pub first_marked : List ℕ → ℕ → ℕ → Option ℕ
first_marked words i zero = None
first_marked words i (suc left) = cond (is_marked words i) (Some i) (first_marked words (suc i) left)

-- the next marked place at or above `from`
unfoldable pub next_marked : List ℕ → ℕ → Option ℕ
next_marked words from = first_marked words from (word_bits * length words - from)

-- how many of so many places from i on are marked
unfoldable pub marked_from : List ℕ → ℕ → ℕ → ℕ
marked_from words i zero = 0
marked_from words i (suc left) = cond (is_marked words i) 1 0 + marked_from words (suc i) left

-- how many places are marked
unfoldable pub marked_count : List ℕ → ℕ
marked_count words = marked_from words 0 (word_bits * length words)
