-- A sorted list, a permutation, and readings that the order tells apart (document 01, section 'Buckets and the operator').
use Rattle.std.specs.Prelude.{◌<◌, ◌≡◌, Bool, true, false, ◌&&◌, List, [], ◌∷◌, eqb}
use Rattle.store.specs.declared.Reading.{Reading}
use Rattle.store.specs.Lists.{Every}
use Rattle.store.specs.Order.{Placed, before}

-- of every two elements the earlier one is so related to the later one
abbrev pub Pairwise : {A : Type 0} → (A → A → Type 0) → List A → Type 0
Pairwise R [] = Unit {0}
Pairwise R (x ∷ xs) = Every (R x) xs × Pairwise R xs

-- the same elements, each as often, in any order
pub data Permutation {A : Type 0} : List A → List A → Type 0 where
  empty : Permutation [] []
  behind : (x : A) {xs ys : List A} → Permutation xs ys → Permutation (x ∷ xs) (x ∷ ys)
  exchange : (x y : A) (xs : List A) → Permutation (x ∷ y ∷ xs) (y ∷ x ∷ xs)
  chain : {xs ys zs : List A} → Permutation xs ys → Permutation ys zs → Permutation xs zs

-- sorted: no later reading goes before an earlier one
abbrev pub Sorted : List Placed → Type 0
Sorted = Pairwise (λ (a b : Placed). before b a ≡ false)

-- equal time, line and id: neither reading goes before the other
unfoldable pub is_level : Placed → Placed → Bool
is_level a b =
    eqb a.reading.time.0 b.reading.time.0 && (eqb a.line b.line && eqb a.reading.id b.reading.id)

-- any two readings differ in time, line or id
abbrev pub Distinct : List Placed → Type 0
Distinct = Pairwise (λ (a b : Placed). is_level a b ≡ false)

-- of two readings of equal time the earlier one in the list goes before the later one
abbrev pub TiesInOrder : List Placed → Type 0
TiesInOrder = Pairwise (λ (a b : Placed). a.reading.time.0 ≡ b.reading.time.0 → before a b ≡ true)

-- ids rise, as they do among the readings of one line
abbrev pub Rising : List Reading → Type 0
Rising = Pairwise (λ (r s : Reading). r.id < s.id)
