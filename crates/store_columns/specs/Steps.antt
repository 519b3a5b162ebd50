-- Small steps from a number of 32 bits to the next, and what they wrap to when they are taken back.
use Rattle.std.specs.Prelude.{ℕ, ◌+◌, ◌-◌, ◌^◌, ◌<◌, ◌≤◌, ◌⊎◌, List, [], ◌∷◌, length, slice_index}

-- up by at most 2^23, or by as little round 2^32
abbrev pub SmallStep : ℕ → ℕ → Type 0
SmallStep a b = ((a < b) × (b ≤ a + 2 ^ 23)) ⊎ (b + 2 ^ 32 ≤ a + 2 ^ 23)

-- from each number to the one in its place in the second list
unfoldable pub AreSmallSteps : List ℕ → List ℕ → Type 0
AreSmallSteps [] bs = Unit {0}
AreSmallSteps (a ∷ rest) [] = Unit {0}
AreSmallSteps (a ∷ rest) (b ∷ bs) = SmallStep a b × AreSmallSteps rest bs

-- a small step, taken back and wrapped, is at least this
abbrev pub small_back : ℕ
small_back = 2 ^ 32 - 2 ^ 23

-- each of these words is
abbrev pub AreSmallBack : List ℕ → Type 0
AreSmallBack words = (k : ℕ) → k < length words → small_back ≤ slice_index words k
