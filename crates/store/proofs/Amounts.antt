-- Amounts that add up, and what the elements of a list bring together: it adds up along the list and does not mind the order. Which
-- amounts, and what an element brings, is left open.
use mathlib.Core.Path.{◌≡◌, refl, sym, ◌∙◌, ap}
use mathlib.Core.Bool.{Bool}
use mathlib.Core.List.{List, [], ◌∷◌, ◌++◌, foldr}
use Rattle.store.specs.Lists.{keep}
use Rattle.store.specs.Sorted.{Permutation, empty, behind, exchange, chain}
use Rattle.store.proofs.Keeping.{keep_append}

-- amounts with a sum, in any order and grouping, and an amount that adds nothing
pub record CommutativeMonoid (M : Type 0) : Type 0 where
  pub none : M
  pub plus : M → M → M
  pub plus_none : (a : M) → plus a none ≡ a
  pub plus_assoc : (a b c : M) → plus (plus a b) c ≡ plus a (plus b c)
  pub plus_comm : (a b : M) → plus a b ≡ plus b a

module _ {M : Type 0} (m : CommutativeMonoid M) where
  pub none_plus : (a : M) → m.plus m.none a ≡ a
  none_plus a = m.plus_comm m.none a ∙ m.plus_none a

  module _ {A : Type 0} (brings : A → M) where
    -- what all elements bring
    abbrev pub total_of : List A → M
    total_of = foldr (λ x a. m.plus (brings x) a) m.none

    pub total_append : (xs ys : List A) → total_of (xs ++ ys) ≡ m.plus (total_of xs) (total_of ys)
    total_append [] ys = sym (none_plus (total_of ys))
    total_append (x ∷ xs) ys =
        ap (m.plus (brings x)) (total_append xs ys) ∙ sym (m.plus_assoc (brings x) (total_of xs) (total_of ys))

    pub kept_append :
        (test : A → Bool) (xs ys : List A) →
        total_of (keep test (xs ++ ys)) ≡ m.plus (total_of (keep test xs)) (total_of (keep test ys))
    kept_append test xs ys = ap total_of (keep_append test xs ys) ∙ total_append (keep test xs) (keep test ys)

    pub total_permuted : {xs ys : List A} → Permutation xs ys → total_of xs ≡ total_of ys
    total_permuted empty = refl
    total_permuted (behind x p) = ap (m.plus (brings x)) (total_permuted p)
    total_permuted (exchange x y xs) =
        sym (m.plus_assoc (brings x) (brings y) (total_of xs)) ∙
        ap (λ (a : M). m.plus a (total_of xs)) (m.plus_comm (brings x) (brings y)) ∙
        m.plus_assoc (brings y) (brings x) (total_of xs)
    total_permuted (chain p q) = total_permuted p ∙ total_permuted q
