-- Laws of permutations: they go back, they keep the length, and what holds of every element, or of every two whichever comes first, holds
-- after them too; a map, and what a test keeps, is permuted with the list. Each goes by the permutation or the list.
use Prim.Native.Nat.{suc}
use mathlib.Core.Path.{◌≡◌, refl, ◌∙◌, ap}
use mathlib.Core.Bool.{Bool, true, false, cond}
use mathlib.Core.List.{List, [], ◌∷◌, ◌++◌, map, Memᴰ}
use lib.ListN.{length}
use Rattle.store.specs.Lists.{Every, keep}
use Rattle.store.specs.Sorted.{Pairwise, Permutation, empty, behind, exchange, chain}
use Rattle.store.proofs.Pairs.{every_of, every_self}

module _ {A : Type 0} where
  pub permutation_same : (xs : List A) → Permutation xs xs
  permutation_same [] = empty
  permutation_same (x ∷ xs) = behind x (permutation_same xs)

  pub permutation_back : {xs ys : List A} → Permutation xs ys → Permutation ys xs
  permutation_back empty = empty
  permutation_back (behind x p) = behind x (permutation_back p)
  permutation_back (exchange x y xs) = exchange y x xs
  permutation_back (chain p q) = chain (permutation_back q) (permutation_back p)

  pub length_permuted : {xs ys : List A} → Permutation xs ys → length xs ≡ length ys
  length_permuted empty = refl
  length_permuted (behind x p) = ap suc (length_permuted p)
  length_permuted (exchange x y xs) = refl
  length_permuted (chain p q) = length_permuted p ∙ length_permuted q

  pub every_permuted : (P : A → Type 0) {xs ys : List A} → Permutation xs ys → Every P xs → Every P ys
  every_permuted P empty h = tt
  every_permuted P (behind x p) h = (h.0, every_permuted P p h.1)
  every_permuted P (exchange x y xs) h = (h.1.0, (h.0, h.1.1))
  every_permuted P (chain p q) h = every_permuted P q (every_permuted P p h)

  -- a relation that goes both ways does not mind the order
  pub pairwise_permuted :
      (R : A → A → Type 0) → ((x y : A) → R x y → R y x) → {xs ys : List A} → Permutation xs ys → Pairwise R xs → Pairwise R ys
  pairwise_permuted R s empty h = tt
  pairwise_permuted R s (behind x p) h = (every_permuted (R x) p h.0, pairwise_permuted R s p h.1)
  pairwise_permuted R s (exchange x y xs) h = ((s x y h.0.0, h.1.0), (h.0.1, h.1.1))
  pairwise_permuted R s (chain p q) h = pairwise_permuted R s q (pairwise_permuted R s p h)

  pub permutation_holds : {z : A} {xs ys : List A} → Permutation xs ys → Memᴰ z xs → Memᴰ z ys
  permutation_holds {ys} p m =
      every_of (λ x. Memᴰ x ys) m (every_permuted (λ x. Memᴰ x ys) (permutation_back p) (every_self ys))

  -- an element in front may stand further on, and a list may be put in front
  pub permutation_between : (x : A) (xs ys : List A) → Permutation (x ∷ (xs ++ ys)) (xs ++ x ∷ ys)
  permutation_between x [] ys = permutation_same (x ∷ ys)
  permutation_between x (y ∷ xs) ys = chain (exchange x y (xs ++ ys)) (behind y (permutation_between x xs ys))

  pub append_permuted : (xs : List A) {ys zs : List A} → Permutation ys zs → Permutation (xs ++ ys) (xs ++ zs)
  append_permuted [] p = p
  append_permuted (x ∷ xs) p = behind x (append_permuted xs p)

  -- what a test keeps is permuted too
  pub keep_permuted : (test : A → Bool) {xs ys : List A} → Permutation xs ys → Permutation (keep test xs) (keep test ys)
  unfolding keep
  keep_permuted test empty = empty
  keep_permuted test (behind x {xs} {ys} p) =
      elim (test x) as (λ b. Permutation (cond b (x ∷ keep test xs) (keep test xs)) (cond b (x ∷ keep test ys) (keep test ys))) [
        | true ↦ behind x (keep_permuted test p)
        | false ↦ keep_permuted test p
      ]
  keep_permuted test (exchange x y xs) = exchanged (test x) (test y) (keep test xs)
    where
      exchanged :
          (b c : Bool) (zs : List A) →
          Permutation (cond b (x ∷ cond c (y ∷ zs) zs) (cond c (y ∷ zs) zs)) (cond c (y ∷ cond b (x ∷ zs) zs) (cond b (x ∷ zs) zs))
      exchanged true true zs = exchange x y zs
      exchanged true false zs = permutation_same (x ∷ zs)
      exchanged false true zs = permutation_same (y ∷ zs)
      exchanged false false zs = permutation_same zs
  keep_permuted test (chain p q) = chain (keep_permuted test p) (keep_permuted test q)

pub map_permuted : {A B : Type 0} (f : A → B) {xs ys : List A} → Permutation xs ys → Permutation (map f xs) (map f ys)
map_permuted f empty = empty
map_permuted f (behind x p) = behind (f x) (map_permuted f p)
map_permuted f (exchange x y xs) = exchange (f x) (f y) (map f xs)
map_permuted f (chain p q) = chain (map_permuted f p) (map_permuted f q)
