-- Document 02, W3, as it is asked: 'It answers with the smallest marked meter at or above the given one, or with none exactly if there is
-- none.' A place is a meter's number.
use Rattle.std.specs.Prelude.{ℕ, ◌≤◌, ◌<◌, ◌≡◌, true, false, List, Option, Some, None, ◌↔◌}
use Rattle.marks.specs.Marks.{is_marked}

-- place i is the smallest marked one at or above `from`
pub record SmallestMarked (words : List ℕ) (from i : ℕ) : Type 0 where
  pub above : from ≤ i
  pub marked : is_marked words i ≡ true
  pub smallest : (k : ℕ) → from ≤ k → k < i → is_marked words k ≡ false

-- no place at or above `from` is marked
abbrev pub NoneMarked : List ℕ → ℕ → Type 0
NoneMarked words from = (k : ℕ) → from ≤ k → is_marked words k ≡ false

-- the answer is i exactly if i is the smallest marked place at or above `from`, and none exactly if no place there is marked
pub record IsNext (words : List ℕ) (from : ℕ) (r : Option ℕ) : Type 0 where
  pub one : (i : ℕ) → (r ≡ Some i) ↔ SmallestMarked words from i
  pub none : (r ≡ None) ↔ NoneMarked words from
