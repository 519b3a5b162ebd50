-- The limits, computed: the last bit of a word and of the last word, the places behind them, where two words meet, and a word that is full.
use Prim.Native.Nat.{ℕ, ◌-◌, ◌^◌}
use mathlib.Core.Path.{◌≡◌, refl}
use mathlib.Core.List.{List, [], ◌∷◌}
use Rattle.std.proofs.Common.{Some, None}
use Rattle.marks.specs.Marks.{is_marked, first_marked, next_marked}

-- one word, its last bit set
abbrev last : List ℕ
last = 2 ^ 63 ∷ []

last_from_0 : next_marked last 0 ≡ Some 63
unfolding next_marked first_marked is_marked
last_from_0 = refl

last_from_63 : next_marked last 63 ≡ Some 63
unfolding next_marked first_marked is_marked
last_from_63 = refl

last_from_64 : next_marked last 64 ≡ None
unfolding next_marked first_marked is_marked
last_from_64 = refl

last_from_255 : next_marked last 255 ≡ None
unfolding next_marked first_marked is_marked
last_from_255 = refl

last_from_1000 : next_marked last 1000 ≡ None
unfolding next_marked first_marked is_marked
last_from_1000 = refl

-- four words, the last bit of the last one set
abbrev four : List ℕ
four = 0 ∷ 0 ∷ 0 ∷ 2 ^ 63 ∷ []

four_from_0 : next_marked four 0 ≡ Some 255
unfolding next_marked first_marked is_marked
four_from_0 = refl

four_from_255 : next_marked four 255 ≡ Some 255
unfolding next_marked first_marked is_marked
four_from_255 = refl

four_from_256 : next_marked four 256 ≡ None
unfolding next_marked first_marked is_marked
four_from_256 = refl

-- two words: a mark on either side of where they meet, and one behind it
abbrev beside : List ℕ
beside = 2 ^ 63 ∷ 1 ∷ []

beside_from_63 : next_marked beside 63 ≡ Some 63
unfolding next_marked first_marked is_marked
beside_from_63 = refl

beside_from_64 : next_marked beside 64 ≡ Some 64
unfolding next_marked first_marked is_marked
beside_from_64 = refl

behind_from_63 : next_marked (0 ∷ 1 ∷ []) 63 ≡ Some 64
unfolding next_marked first_marked is_marked
behind_from_63 = refl

-- one word, all bits set
abbrev full : List ℕ
full = (2 ^ 64 - 1) ∷ []

full_from_17 : next_marked full 17 ≡ Some 17
unfolding next_marked first_marked is_marked
full_from_17 = refl
