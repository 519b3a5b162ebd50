-- Laws of `Every` and `Pairwise` under append, map and keep, and of `Every` where all pass a test. Each goes by the list.
use Prim.Native.Nat.{ℕ, zero, suc, ◌<◌}
use native.Mathlib.Omega.{arith}
use mathlib.Core.Path.{◌≡◌, refl, subst⁻¹}
use mathlib.Core.Bool.{Bool, true}
use lib.ListN.{length, get_or, set}
use mathlib.Core.List.{List, [], ◌∷◌, ◌++◌, map, Memᴰ}
use Rattle.store.specs.Lists.{keep, all_of, Every}
use Rattle.store.specs.Sorted.{Pairwise}
use Rattle.store.proofs.Choices.{and_parts, cond_either}

module _ {A : Type 0} where
  pub every_to : {P Q : A → Type 0} (xs : List A) → ((x : A) → P x → Q x) → Every P xs → Every Q xs
  every_to [] f h = tt
  every_to (x ∷ xs) f h = (f x h.0, every_to xs f h.1)

  -- what holds of any element at all
  pub every_any : (P : A → Type 0) (xs : List A) → ((x : A) → P x) → Every P xs
  every_any P [] f = tt
  every_any P (x ∷ xs) f = (f x, every_any P xs f)

  pub every_of : (P : A → Type 0) {x : A} {xs : List A} → Memᴰ x xs → Every P xs → P x
  every_of P (Memᴰ.head e) h = subst⁻¹ P e h.0
  every_of P (Memᴰ.tail m) h = every_of P m h.1

  -- every element is there
  pub every_self : (xs : List A) → Every (λ x. Memᴰ x xs) xs
  every_self [] = tt
  every_self (x ∷ xs) = (Memᴰ.head refl, every_to xs (λ y m. Memᴰ.tail m) (every_self xs))

  pub every_append : (P : A → Type 0) (xs ys : List A) → Every P xs → Every P ys → Every P (xs ++ ys)
  every_append P [] ys h k = k
  every_append P (x ∷ xs) ys h k = (h.0, every_append P xs ys h.1 k)

  pub every_right : (law : A → Type 0) (xs ys : List A) → Every law (xs ++ ys) → Every law ys
  every_right law [] ys h = h
  every_right law (x ∷ xs) ys h = every_right law xs ys h.1

  pub every_both : (law other : A → Type 0) (xs : List A) → Every law xs → Every other xs → Every (λ x. law x × other x) xs
  every_both law other [] h k = tt
  every_both law other (x ∷ xs) h k = ((h.0, k.0), every_both law other xs h.1 k.1)

  pub every_set : (law : A → Type 0) (xs : List A) (i : ℕ) (y : A) → law y → Every law xs → Every law (set xs i y)
  every_set law [] i y h k = tt
  every_set law (x ∷ xs) zero y h k = (h, k.1)
  every_set law (x ∷ xs) (suc i) y h k = (k.0, every_set law xs i y h k.1)

  pub every_at : (law : A → Type 0) (xs : List A) (i : ℕ) (d : A) → law d → Every law xs → law (get_or xs i d)
  every_at law [] i d h k = h
  every_at law (x ∷ xs) zero d h k = k.0
  every_at law (x ∷ xs) (suc i) d h k = every_at law xs i d h k.1

  -- the element at a place that the list has
  pub every_index : (law : A → Type 0) (xs : List A) (i : ℕ) (d : A) → i < length xs → Every law xs → law (get_or xs i d)
  every_index law [] i d h k = absurd (omega arith)
  every_index law (x ∷ xs) zero d h k = k.0
  every_index law (x ∷ xs) (suc i) d h k = every_index law xs i d (omega arith) k.1

  pub every_keep : (P : A → Type 0) (test : A → Bool) (xs : List A) → Every P xs → Every P (keep test xs)
  unfolding keep
  every_keep P test [] h = tt
  every_keep P test (x ∷ xs) h =
      cond_either (Every P) (test x) (λ e. (h.0, every_keep P test xs h.1)) (λ e. every_keep P test xs h.1)

  -- a list whose elements all pass a test
  pub every_passes : (test : A → Bool) (xs : List A) → all_of test xs ≡ true → Every (λ x. test x ≡ true) xs
  unfolding all_of
  every_passes test [] e = tt
  every_passes test (x ∷ xs) e = let h = and_parts (test x) (all_of test xs) e in (h.0, every_passes test xs h.1)

  pub pairwise_to : {R S : A → A → Type 0} (xs : List A) → ((x y : A) → R x y → S x y) → Pairwise R xs → Pairwise S xs
  pairwise_to [] f h = tt
  pairwise_to (x ∷ xs) f h = (every_to xs (f x) h.0, pairwise_to xs f h.1)

  pub pairwise_append :
      (R : A → A → Type 0) (xs ys : List A) → Pairwise R xs → Pairwise R ys → Every (λ x. Every (R x) ys) xs → Pairwise R (xs ++ ys)
  pairwise_append R [] ys h k c = k
  pairwise_append R (x ∷ xs) ys h k c = (every_append (R x) xs ys h.0 c.0, pairwise_append R xs ys h.1 k c.1)

  pub pairwise_keep : (R : A → A → Type 0) (test : A → Bool) (xs : List A) → Pairwise R xs → Pairwise R (keep test xs)
  unfolding keep
  pairwise_keep R test [] h = tt
  pairwise_keep R test (x ∷ xs) h =
      cond_either (Pairwise R) (test x) (λ e. (every_keep (R x) test xs h.0, pairwise_keep R test xs h.1))
      (λ e. pairwise_keep R test xs h.1)

  -- a relation that two others bring about
  pub pairwise_both :
      (R S U : A → A → Type 0) → ((x y : A) → R x y → S x y → U x y) → (xs : List A) → Pairwise R xs → Pairwise S xs → Pairwise U xs
  pairwise_both R S U f [] h k = tt
  pairwise_both R S U f (x ∷ xs) h k = (both xs h.0 k.0, pairwise_both R S U f xs h.1 k.1)
    where
      both : (ys : List A) → Every (R x) ys → Every (S x) ys → Every (U x) ys
      both [] h k = tt
      both (y ∷ ys) h k = (f x y h.0 k.0, both ys h.1 k.1)

module _ {A B : Type 0} (f : A → B) where
  pub every_map : (P : B → Type 0) (xs : List A) → Every (λ x. P (f x)) xs → Every P (map f xs)
  every_map P [] h = tt
  every_map P (x ∷ xs) h = (h.0, every_map P xs h.1)

  -- and back
  pub every_mapped : (P : B → Type 0) (xs : List A) → Every P (map f xs) → Every (λ x. P (f x)) xs
  every_mapped P [] h = tt
  every_mapped P (x ∷ xs) h = (h.0, every_mapped P xs h.1)

  pub pairwise_map : (R : B → B → Type 0) (xs : List A) → Pairwise (λ x y. R (f x) (f y)) xs → Pairwise R (map f xs)
  pairwise_map R [] h = tt
  pairwise_map R (x ∷ xs) h = (every_map (R (f x)) xs h.0, pairwise_map R xs h.1)
