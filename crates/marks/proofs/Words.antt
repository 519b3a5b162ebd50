-- Tests packed into words: a place is marked exactly if its test holds, and as many places are marked as tests hold. Then how a word is
-- packed from its last place down, and the words are written one after the other.
use Prim.Native.Nat.{ℕ, zero, suc, ◌+◌, ◌*◌, ◌-◌, ◌/◌, ◌%◌, ◌^◌, ◌≤◌, ◌<◌}
use mathlib.Core.Path.{◌≡◌, refl, sym, ◌∙◌, ap, ap₂}
use mathlib.Core.Bool.{Bool, true, false, cond}
use mathlib.Core.List.{List, [], ◌∷◌, ◌++◌, map}
use mathlib.Core.Logic.{⊎_elim}
use native.Mathlib.Omega.{arith}
use native.Mathlib.Nat.{pow-suc, add_comm, lt_of_lt_of_le}
use lib.Dec.{ltb}
use lib.ListN.{length, get_or, take, drop, set, length-take, length-drop, length-map, drop_of_length-le, get_or-eq_default, get_or-map}
use lib.Pow.{pow_mono}
use mir.Val.{bool_byte}
use lib.Seq.{drop-cons, drop-drop, get_or-take, get_or-drop, take-suc, take-suc-set, take_all}
use Rattle.signed.proofs.Comparing.{lt_or_le}
use Rattle.marks.specs.Words.{word_bits, word_of, words_of}
use Rattle.marks.specs.Marks.{is_marked, marked_from, marked_count}
use Rattle.marks.proofs.Bits.{is_set, none_set, set_first, set_half}
use Rattle.marks.proofs.Places.{marked_at}

-- how many tests hold
unfoldable pub trues : List Bool → ℕ
trues [] = 0
trues (b ∷ bs) = cond b 1 0 + trues bs

-- ---- one word

word_cons_below : (b : Bool) (w m : ℕ) → w < m → cond b 1 0 + 2 * w < m * 2
word_cons_below true w m h = omega arith
word_cons_below false w m h = omega arith

word_below : (bs : List Bool) → word_of bs < 2 ^ length bs
unfolding word_of
word_below [] = omega arith
word_below (b ∷ bs) = rw (pow-suc 2 (length bs)) (word_cons_below b (word_of bs) (2 ^ length bs) (word_below bs))

-- the word of at most so many tests
word_room : (n : ℕ) (bs : List Bool) → word_of (take n bs) < 2 ^ n
word_room n bs =
    let short : length (take n bs) ≤ n = rw (length-take n bs) (omega arith) in
    lt_of_lt_of_le (word_below (take n bs)) (pow_mono short)

first_bit : (b : Bool) (w : ℕ) → is_set (cond b 1 0 + 2 * w) 0 ≡ b
first_bit true w = set_first (1 + 2 * w) 1 (omega arith)
first_bit false w = set_first (0 + 2 * w) 0 (omega arith)

further_bit : (b : Bool) (w i : ℕ) → is_set (cond b 1 0 + 2 * w) (suc i) ≡ is_set w i
further_bit b w i = sym (set_half (cond b 1 0 + 2 * w) i) ∙ ap (λ (n : ℕ). is_set n i) (go b)
  where
    go : (b : Bool) → (cond b 1 0 + 2 * w) / 2 ≡ w
    go true = omega arith
    go false = omega arith

-- bit i is test i
bit_of : (bs : List Bool) (i : ℕ) → is_set (word_of bs) i ≡ get_or bs i false
unfolding word_of
bit_of [] i = none_set i
bit_of (b ∷ bs) zero = first_bit b (word_of bs)
bit_of (b ∷ bs) (suc i) = further_bit b (word_of bs) i ∙ bit_of bs i

-- a test more in front
word_down : (bs : List Bool) (at n : ℕ) → at < length bs
    → word_of (take (suc n) (drop at bs)) ≡ cond (get_or bs at false) 1 0 + 2 * word_of (take n (drop (suc at) bs))
unfolding word_of
word_down bs at n h = rw (drop-cons bs at false h)

-- ---- the words

length_words : (n : ℕ) (bs : List Bool) → length (words_of n bs) ≡ n
unfolding words_of
length_words zero bs = refl
length_words (suc n) bs = ap suc (length_words n (drop word_bits bs))

word_at : (n : ℕ) (bs : List Bool) (k : ℕ) → k < n → get_or (words_of n bs) k 0 ≡ word_of (take word_bits (drop (word_bits * k) bs))
unfolding words_of
word_at zero bs k h = absurd (omega arith)
word_at (suc n) bs zero h = refl
word_at (suc n) bs (suc k) h =
    let there : word_bits + word_bits * k ≡ word_bits * suc k = omega arith in
    word_at n (drop word_bits bs) k (omega arith) ∙
    ap (λ (l : List Bool). word_of (take word_bits l)) (drop-drop (word_bits * k) word_bits bs ∙ ap (λ (m : ℕ). drop m bs) there)

-- behind the first word
marked_further : (w : ℕ) (words : List ℕ) (j : ℕ) → is_marked (w ∷ words) (word_bits + j) ≡ is_marked words j
marked_further w words j =
    marked_at (w ∷ words) (word_bits + j) (suc (j / word_bits)) (j % word_bits) (omega arith) (omega arith) ∙
    sym (marked_at words j (j / word_bits) (j % word_bits) refl refl)

pub marked_of : (n : ℕ) (bs : List Bool) (i : ℕ) → length bs ≤ word_bits * n → is_marked (words_of n bs) i ≡ get_or bs i false
unfolding words_of
marked_of zero bs i h =
    marked_at [] i (i / word_bits) (i % word_bits) refl refl ∙ none_set (i % word_bits) ∙ sym (get_or-eq_default bs false (omega arith))
marked_of (suc n) bs i h =
    ⊎_elim
    (λ g.
    marked_at (words_of (suc n) bs) i 0 i (omega arith) (omega arith) ∙
    bit_of (take word_bits bs) i ∙
    get_or-take word_bits bs i false g)
    (λ g.
    let there : word_bits + (i - word_bits) ≡ i = omega arith in
    ap (is_marked (words_of (suc n) bs)) (sym there) ∙
    marked_further (word_of (take word_bits bs)) (words_of n (drop word_bits bs)) (i - word_bits) ∙
    marked_of n (drop word_bits bs) (i - word_bits) (rw (length-drop word_bits bs) (omega arith)) ∙
    get_or-drop word_bits bs (i - word_bits) false ∙
    ap (λ (k : ℕ). get_or bs k false) there)
    (lt_or_le i word_bits)

trues_from : (words : List ℕ) (bs : List Bool) → ((i : ℕ) → is_marked words i ≡ get_or bs i false)
    → (left i : ℕ) → length bs ≤ i + left → marked_from words i left ≡ trues (drop i bs)
unfolding marked_from trues
trues_from words bs same zero i h = rw (drop_of_length-le bs {i = i} (omega arith))
trues_from words bs same (suc left) i h =
    ap₂ (λ (b : Bool) (n : ℕ). cond b 1 0 + n) (same i) (trues_from words bs same left (suc i) (omega arith)) ∙
    ⊎_elim
    (λ g. rw (drop-cons bs i false g))
    (λ g. rw (drop_of_length-le bs {i = i} g, drop_of_length-le bs {i = suc i} (omega arith), get_or-eq_default bs false g))
    (lt_or_le i (length bs))

pub marked_count_of : (n : ℕ) (bs : List Bool) → length bs ≤ word_bits * n → marked_count (words_of n bs) ≡ trues bs
unfolding marked_count
marked_count_of n bs h =
    ap (λ (m : ℕ). marked_from (words_of n bs) 0 (word_bits * m)) (length_words n bs) ∙
    trues_from (words_of n bs) bs (λ i. marked_of n bs i h) (word_bits * n) 0 (omega arith)

-- ---- a word packed from its last place down

-- the tests of the places from place i of a word on
abbrev pub tests : List ℕ → ℕ → ℕ → List Bool
tests counts from i = take (word_bits - i) (drop (from + i) (map (ltb 0) counts))

-- a test as a bit
bit_counted : (b : Bool) → bool_byte b ≡ cond b 1 0
bit_counted true = refl
bit_counted false = refl

pub bit_small : (b : Bool) → bool_byte b ≤ 1
bit_small true = omega arith
bit_small false = omega arith

module _ (counts : List ℕ) (from i w : ℕ) (packed : w ≡ word_of (tests counts from i)) (some : 0 < i) where
  -- there is room for a bit more
  pub packed_room : w < 2 ^ 63
  packed_room =
      let short : word_bits - i ≤ 63 = omega arith in
      rw packed (lt_of_lt_of_le (word_room (word_bits - i) (drop (from + i) (map (ltb 0) counts))) (pow_mono short))

  -- and it is the test of the count at its place
  pub packed_more : (bit : ℕ) → bit ≡ bool_byte (ltb 0 (get_or counts (from + (i - 1)) 0)) → i ≤ word_bits → from + i ≤ length counts
      → 2 * w + bit ≡ word_of (tests counts from (i - 1))
  packed_more bit e h g =
      let more : suc (word_bits - i) ≡ word_bits - (i - 1) = omega arith in
      let next : from + i ≡ suc (from + (i - 1)) = omega arith in
      let inside : from + (i - 1) < length (map (ltb 0) counts) = rw (length-map counts (ltb 0)) (omega arith) in
      add_comm (2 * w) bit ∙
      ap₂ (λ (t n : ℕ). t + 2 * n)
      (e ∙ bit_counted (ltb 0 (get_or counts (from + (i - 1)) 0)) ∙ ap (λ (t : Bool). cond t 1 0) (sym (get_or-map (ltb 0) counts (from + (i - 1)) 0)))
      (packed ∙ ap (λ (k : ℕ). word_of (take (word_bits - i) (drop k (map (ltb 0) counts)))) next) ∙
      sym (word_down (map (ltb 0) counts) (from + (i - 1)) (word_bits - i) inside) ∙
      ap (λ (n : ℕ). word_of (take n (drop (from + (i - 1)) (map (ltb 0) counts)))) more

-- ---- words written one after the other

-- so many words stand where they should
pub written_more : (n : ℕ) (bs : List Bool) (words : List ℕ) (i w : ℕ) → length words ≡ n → i < n
    → take i words ≡ take i (words_of n bs) → w ≡ word_of (take word_bits (drop (word_bits * i) bs))
    → take (suc i) (set words i w) ≡ take (suc i) (words_of n bs)
written_more n bs words i w l h e f =
    let sized = length_words n bs in
    take-suc-set words i w (omega arith) ∙
    ap₂ (λ (a : List ℕ) (b : ℕ). a ++ (b ∷ [])) e (f ∙ sym (word_at n bs i h)) ∙
    sym (take-suc (words_of n bs) i 0 (omega arith))

pub written_all : (n : ℕ) (bs : List Bool) (words : List ℕ) (i : ℕ) → length words ≡ n → n ≤ i
    → take i words ≡ take i (words_of n bs) → words ≡ words_of n bs
written_all n bs words i l h e =
    let sized = length_words n bs in
    sym (take_all i words (omega arith)) ∙ e ∙ take_all i (words_of n bs) (omega arith)
