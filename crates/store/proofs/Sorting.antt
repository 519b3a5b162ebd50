-- `sort` gives a sorted permutation, by laws of `insert`: the readings that it passes do not come after the new one, and those that it
-- leaves behind the new one go before none that the new one goes before.
use mathlib.Core.Path.{◌≡◌}
use mathlib.Core.Bool.{false}
use mathlib.Core.List.{List, [], ◌∷◌}
use Rattle.store.specs.Order.{Placed, before, insert, sort}
use Rattle.store.specs.Sorted.{Permutation, empty, behind, exchange, chain, Sorted}
use Rattle.store.proofs.Choices.{cond_either}
use Rattle.store.proofs.Pairs.{every_to}
use Rattle.store.proofs.Permutations.{permutation_same, every_permuted}
use Rattle.store.proofs.Order.{before_asymmetric, not_before_earlier}

insert_permutes : (r : Placed) (xs : List Placed) → Permutation (r ∷ xs) (insert r xs)
unfolding insert
insert_permutes r [] = permutation_same (r ∷ [])
insert_permutes r (x ∷ xs) =
    cond_either (Permutation (r ∷ x ∷ xs)) (before r x) (λ e. permutation_same (r ∷ x ∷ xs))
    (λ e. chain (exchange r x xs) (behind x (insert_permutes r xs)))

insert_sorted : (r : Placed) (xs : List Placed) → Sorted xs → Sorted (insert r xs)
unfolding insert
insert_sorted r [] s = (tt, tt)
insert_sorted r (x ∷ xs) s =
    cond_either Sorted (before r x)
    (λ e. ((before_asymmetric r x e, every_to xs (λ y h. not_before_earlier r x y e h) s.0), s))
    (λ e. (
      every_permuted (λ (y : Placed). before y x ≡ false) (insert_permutes r xs) (e, s.0),
      insert_sorted r xs s.1,
    ))

pub sort_permutes : (xs : List Placed) → Permutation xs (sort xs)
unfolding sort
sort_permutes [] = empty
sort_permutes (x ∷ xs) = chain (behind x (sort_permutes xs)) (insert_permutes x (sort xs))

pub sort_sorted : (xs : List Placed) → Sorted (sort xs)
unfolding sort
sort_sorted [] = tt
sort_sorted (x ∷ xs) = insert_sorted x (sort xs) (sort_sorted xs)
