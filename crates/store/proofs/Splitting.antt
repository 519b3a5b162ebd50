-- A list taken apart by tests: what one test keeps is, but for the order, what two others keep, where each element that passes the one
-- passes just one of the others. By the list and the three tests of its first element.
use mathlib.Core.Bool.{Bool, true, false, cond}
use mathlib.Core.List.{List, [], ◌∷◌, ◌++◌}
use Rattle.store.specs.Lists.{keep}
use Rattle.store.specs.Sorted.{Permutation, empty, behind, chain}
use Rattle.store.proofs.Permutations.{permutation_between}

-- of three tests the first passes exactly where one of the others does, and these never both
pub data EitherOf : Bool → Bool → Bool → Type 0 where
  one : EitherOf true true false
  other : EitherOf true false true
  neither : EitherOf false false false

module _ {A : Type 0} (p q r : A → Bool) (either : (x : A) → EitherOf (p x) (q x) (r x)) where
  split_one :
      (x : A) (a b c : Bool) (xs ys zs : List A) → EitherOf a b c → Permutation xs (ys ++ zs) →
      Permutation (cond a (x ∷ xs) xs) (cond b (x ∷ ys) ys ++ cond c (x ∷ zs) zs)
  split_one x true true false xs ys zs one h = behind x h
  split_one x true false true xs ys zs other h = chain (behind x h) (permutation_between x ys zs)
  split_one x false false false xs ys zs neither h = h
  split_one x false false true xs ys zs e h = elim e [ ]
  split_one x false true c xs ys zs e h = elim e [ ]
  split_one x true false false xs ys zs e h = elim e [ ]
  split_one x true true true xs ys zs e h = elim e [ ]

  pub keep_split : (xs : List A) → Permutation (keep p xs) (keep q xs ++ keep r xs)
  unfolding keep
  keep_split [] = empty
  keep_split (x ∷ xs) = split_one x (p x) (q x) (r x) (keep p xs) (keep q xs) (keep r xs) (either x) (keep_split xs)
