-- A place is a bit of its word: what is left of a word tells which of its places are marked, and behind the last word none is. The marks
-- of a word are its ones.
use Prim.Native.Nat.{ℕ, zero, suc, ◌+◌, ◌*◌, ◌-◌, ◌/◌, ◌%◌, ◌^◌, ◌≤◌, ◌<◌}
use mathlib.Core.Path.{◌≡◌, refl, sym, ◌∙◌, ap, ap₂}
use mathlib.Core.Bool.{Bool, true, false, cond}
use mathlib.Core.List.{List}
use native.Mathlib.Omega.{arith}
use native.Mathlib.Nat.{add-zero, zero-add, suc-add, div-one, lt_of_le_of_lt}
use lib.Count.{count_trailing_zeros, ones_in, ones}
use lib.ListN.{length, get_or, get_or-eq_default}
use lib.Pow.{shr_le}
use Rattle.marks.specs.Words.{word_bits}
use Rattle.marks.specs.Marks.{is_marked, marked_from, marked_count}
use Rattle.marks.specs.Next.{SmallestMarked}
use Rattle.marks.proofs.Bits.{is_set, none_set, set_shifted, set_below, Lowest, zeros_lowest, ones_within, ones_from}

-- what is left of the word of a place, from its bit on
abbrev pub rest : List ℕ → ℕ → ℕ
rest words from = get_or words (from / word_bits) 0 / 2 ^ (from % word_bits)

module _ (words : List ℕ) where
  -- a place by its word and its bit
  pub marked_at : (i word bit : ℕ) → i / word_bits ≡ word → i % word_bits ≡ bit → is_marked words i ≡ is_set (get_or words word 0) bit
  unfolding is_marked
  marked_at i word bit p q = ap₂ (λ (w b : ℕ). is_set (get_or words w 0) b) p q

  -- behind the last word nothing is marked
  pub unmarked_behind : (i : ℕ) → word_bits * length words ≤ i → is_marked words i ≡ false
  unmarked_behind i h =
      marked_at i (i / word_bits) (i % word_bits) refl refl ∙
      ap (λ (w : ℕ). is_set w (i % word_bits)) (get_or-eq_default words 0 (omega arith)) ∙
      none_set (i % word_bits)

  -- the places of a word from `from` on, as bits of what is left of it
  marked_rest : (from d : ℕ) → from % word_bits + d < word_bits → is_marked words (from + d) ≡ is_set (rest words from) d
  marked_rest from d h =
      marked_at (from + d) (from / word_bits) (from % word_bits + d) (omega arith) (omega arith) ∙
      sym (set_shifted (get_or words (from / word_bits) 0) (from % word_bits) d)

  -- where nothing is left of a word, no further place of it is marked
  pub word_none : (from : ℕ) → rest words from ≡ 0 → (k : ℕ) → from ≤ k → k < suc (from / word_bits) * word_bits → is_marked words k ≡ false
  word_none from e k h g =
      let there : from + (k - from) ≡ k = omega arith in
      ap (is_marked words) (sym there) ∙
      marked_rest from (k - from) (omega arith) ∙
      ap (λ (w : ℕ). is_set w (k - from)) e ∙
      none_set (k - from)

  smallest_at : (from t : ℕ) → from % word_bits + t < word_bits → Lowest (rest words from) t → SmallestMarked words from (from + t)
  smallest_at from t h low =
      record {
        above = omega arith;
        marked = marked_rest from t h ∙ low.there;
        smallest = λ k p q.
            let there : from + (k - from) ≡ k = omega arith in
            ap (is_marked words) (sym there) ∙ marked_rest from (k - from) (omega arith) ∙ low.below (k - from) (omega arith);
      }

  module _ (from : ℕ) (fits : get_or words (from / word_bits) 0 < 2 ^ word_bits) (some : 0 < rest words from) where
    zeros_up : Lowest (rest words from) (count_trailing_zeros word_bits (rest words from))
    zeros_up =
        zeros_lowest word_bits (rest words from) some
        (lt_of_le_of_lt (shr_le (get_or words (from / word_bits) 0) (from % word_bits)) fits)

    -- where something is left, the lowest bit of it that is set is one of the word
    pub zeros_within : from % word_bits + count_trailing_zeros word_bits (rest words from) < word_bits
    zeros_within =
        let t = count_trailing_zeros word_bits (rest words from) in
        set_below (get_or words (from / word_bits) 0) word_bits (from % word_bits + t) fits
        (sym (set_shifted (get_or words (from / word_bits) 0) (from % word_bits) t) ∙ zeros_up.there)

    -- and the next marked place is that many zeros further on
    pub word_next : SmallestMarked words from (from + count_trailing_zeros word_bits (rest words from))
    word_next = smallest_at from (count_trailing_zeros word_bits (rest words from)) zeros_within zeros_up

  -- ---- the marks of a word, counted

  marked_in_word : (j left k : ℕ) → k + left ≡ word_bits → marked_from words (word_bits * j + k) left ≡ ones_in left (get_or words j 0 / 2 ^ k)
  unfolding marked_from ones_in
  marked_in_word j zero k h = refl
  marked_in_word j (suc left) k h =
      let next : suc (word_bits * j + k) ≡ word_bits * j + suc k = omega arith in
      ap₂ (λ (b : Bool) (n : ℕ). cond b 1 0 + n) (marked_at (word_bits * j + k) j k (omega arith) (omega arith))
      (ap (λ (i : ℕ). marked_from words i left) next ∙ marked_in_word j left (suc k) (omega arith)) ∙
      sym (ones_from left (get_or words j 0) k)

  -- the marks of a whole word are its ones
  marked_word : (j : ℕ) → get_or words j 0 < 2 ^ word_bits → marked_from words (word_bits * j) word_bits ≡ ones (get_or words j 0)
  marked_word j fits =
      let start : word_bits * j ≡ word_bits * j + 0 = omega arith in
      ap (λ (i : ℕ). marked_from words i word_bits) start ∙
      marked_in_word j word_bits 0 refl ∙
      ap (ones_in word_bits) (div-one (get_or words j 0)) ∙
      ones_within word_bits (get_or words j 0) fits

  -- places in two runs
  marked_runs : (a b i : ℕ) → marked_from words i (a + b) ≡ marked_from words i a + marked_from words (i + a) b
  unfolding marked_from
  marked_runs zero b i = rw (add-zero i, zero-add b, zero-add (marked_from words i b))
  marked_runs (suc a) b i =
      let next : suc i + a ≡ i + suc a = omega arith in
      let r = marked_runs a b (suc i) in
      rw (suc-add a b) (rw (← next) (omega arith))

  -- at most all
  pub marked_most : (left i : ℕ) → marked_from words i left ≤ left
  unfolding marked_from
  marked_most zero i = omega arith
  marked_most (suc left) i = go (is_marked words i) (marked_from words (suc i) left) (marked_most left (suc i))
    where
      go : (b : Bool) (n : ℕ) → n ≤ left → cond b 1 0 + n ≤ suc left
      go true n h = omega arith
      go false n h = omega arith

  -- a word more
  pub counted_more : (i : ℕ) → get_or words i 0 < 2 ^ word_bits
      → marked_from words 0 (word_bits * (i + 1)) ≡ marked_from words 0 (word_bits * i) + ones (get_or words i 0)
  counted_more i fits =
      let more : word_bits * (i + 1) ≡ word_bits * i + word_bits = omega arith in
      let start : 0 + word_bits * i ≡ word_bits * i = omega arith in
      ap (marked_from words 0) more ∙
      marked_runs (word_bits * i) word_bits 0 ∙
      ap (λ (n : ℕ). marked_from words 0 (word_bits * i) + n) (ap (λ (k : ℕ). marked_from words k word_bits) start ∙ marked_word i fits)

  -- all words
  pub counted_all : (i n : ℕ) → length words ≡ n → i ≡ n → marked_from words 0 (word_bits * i) ≡ marked_count words
  unfolding marked_count
  counted_all i n l h =
      let all : i ≡ length words = omega arith in
      ap (λ (k : ℕ). marked_from words 0 (word_bits * k)) all
