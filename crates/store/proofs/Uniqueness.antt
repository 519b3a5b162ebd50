-- A list of readings that the order tells apart has one sorted permutation only. In a sorted permutation each reading goes before every
-- later one, so two of them that hold the same readings have the same first one, and so on.
use mathlib.Core.Path.{◌≡◌, refl, sym, ◌∙◌, subst}
use mathlib.Core.Bool.{true, false, true≢false}
use mathlib.Core.Logic.{◌⊎◌, inl, inr}
use mathlib.Core.List.Memᴰ
use mathlib.Core.List.{List, [], ◌∷◌, Memᴰ}
use borrow.Author.Tests.{not-false}
use Rattle.store.specs.Sorted.{Pairwise, Permutation, chain, is_level, Sorted, Distinct}
use Rattle.store.specs.Order.{Placed, before, sort}
use Rattle.store.proofs.Pairs.{every_of, pairwise_both}
use Rattle.store.proofs.Permutations.{pairwise_permuted, permutation_back, permutation_holds}
use Rattle.store.proofs.Order.{exactly_one_before, before_asymmetric, level_turned}
use Rattle.store.proofs.Sorting.{sort_permutes, sort_sorted}

abbrev Ascending : List Placed → Type 0
Ascending = Pairwise (λ (a b : Placed). before a b ≡ true)

ascending : (xs : List Placed) → Distinct xs → Sorted xs → Ascending xs
ascending xs d s =
    pairwise_both (λ (a b : Placed). is_level a b ≡ false) (λ (a b : Placed). before b a ≡ false) (λ (a b : Placed). before a b ≡ true)
    (λ a b l h. not-false (before a b) (sym (exactly_one_before a b l) ∙ h)) xs d s

abbrev Within : List Placed → List Placed → Type 0
Within xs ys = (z : Placed) → Memᴰ z xs → Memᴰ z ys

-- a reading of the rest does not go before the first
not_first : (a z : Placed) (xs : List Placed) → Ascending (a ∷ xs) → Memᴰ z xs → before z a ≡ true → ⊥
not_first a z xs h m e = true≢false (sym e ∙ before_asymmetric a z (every_of (λ (b : Placed). before a b ≡ true) m h.0))

not_itself : (a : Placed) (xs : List Placed) → Ascending (a ∷ xs) → Memᴰ a xs → ⊥
not_itself a xs h m = not_first a a xs h m (every_of (λ (b : Placed). before a b ≡ true) m h.0)

first_same :
    (a b : Placed) (xs ys : List Placed) → Ascending (a ∷ xs) → Ascending (b ∷ ys) → Within (a ∷ xs) (b ∷ ys) →
    Within (b ∷ ys) (a ∷ xs) → a ≡ b
first_same a b xs ys h k f g = go (Memᴰ.cases_cons (f a (Memᴰ.head refl))) (Memᴰ.cases_cons (g b (Memᴰ.head refl)))
  where
    go : (a ≡ b) ⊎ Memᴰ a ys → (b ≡ a) ⊎ Memᴰ b xs → a ≡ b
    go (inl e) n = e
    go (inr m) (inl e) = sym e
    go (inr m) (inr n) = absurd (not_first a b xs h n (every_of (λ (c : Placed). before b c ≡ true) m k.0))

rest_within : (a b : Placed) (xs ys : List Placed) → a ≡ b → Ascending (a ∷ xs) → Within (a ∷ xs) (b ∷ ys) → Within xs ys
rest_within a b xs ys e h f z m = go (Memᴰ.cases_cons (f z (Memᴰ.tail m)))
  where
    go : (z ≡ b) ⊎ Memᴰ z ys → Memᴰ z ys
    go (inl q) = absurd (not_itself a xs h (subst (λ (c : Placed). Memᴰ c xs) (q ∙ sym e) m))
    go (inr n) = n

ascending_same : (xs ys : List Placed) → Ascending xs → Ascending ys → Within xs ys → Within ys xs → xs ≡ ys
ascending_same [] [] h k f g = refl
ascending_same [] (b ∷ ys) h k f g = absurd (Memᴰ.not-nil (g b (Memᴰ.head refl)))
ascending_same (a ∷ xs) [] h k f g = absurd (Memᴰ.not-nil (f a (Memᴰ.head refl)))
ascending_same (a ∷ xs) (b ∷ ys) h k f g =
    let e : a ≡ b = first_same a b xs ys h k f g in
    let r : xs ≡ ys = ascending_same xs ys h.1 k.1 (rest_within a b xs ys e h f) (rest_within b a ys xs (sym e) k g) in
    λ i. e i ∷ r i

pub sorted_unique : (xs ys zs : List Placed) → Distinct xs → Permutation xs ys → Sorted ys → Permutation xs zs → Sorted zs → ys ≡ zs
sorted_unique xs ys zs d p s q t =
    ascending_same ys zs (ascending ys (moved ys p) s) (ascending zs (moved zs q) t)
    (λ z m. permutation_holds (chain (permutation_back p) q) m) (λ z m. permutation_holds (chain (permutation_back q) p) m)
  where
    moved : (ls : List Placed) → Permutation xs ls → Distinct ls
    moved ls p = pairwise_permuted (λ (a b : Placed). is_level a b ≡ false) level_turned p d

-- so `sort` gives the only sorted permutation
pub sort_only : (xs ys : List Placed) → Distinct xs → Permutation xs ys → Sorted ys → ys ≡ sort xs
sort_only xs ys d p s = sorted_unique xs ys (sort xs) d p s (sort_permutes xs) (sort_sorted xs)
