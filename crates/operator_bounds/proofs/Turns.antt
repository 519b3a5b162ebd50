-- A loop over meters: what is found so far and what the meters left say, together, are what all say.
use Rattle.std.proofs.Common.{◌≡◌, ℕ, suc, ◌<◌, ◌≤◌, Bool, ◌&&◌, List, length, get_or, drop, sym, ap, ◌∙◌, drop_of_length-le, drop-cons}
use mathlib.Core.Bool.{and-true, and_assoc}
use Rattle.store.specs.Lists.{all_of}

module _ {A : Type 0} (test : A → Bool) (xs : List A) where
  -- ok is what the elements before place i say
  abbrev pub SoFar : Bool → ℕ → Type 0
  SoFar ok i = (ok && all_of test (drop i xs)) ≡ all_of test xs

  pub so_far_turn : (ok : Bool) (i : ℕ) (d : A) → i < length xs → SoFar ok i → SoFar (ok && test (get_or xs i d)) (suc i)
  unfolding all_of
  so_far_turn ok i d h e =
      and_assoc ok (test (get_or xs i d)) (all_of test (drop (suc i) xs)) ∙
      ap (λ (ys : List A). ok && all_of test ys) (sym (drop-cons xs i d h)) ∙ e

  pub so_far_end : (ok : Bool) (i : ℕ) → length xs ≤ i → SoFar ok i → ok ≡ all_of test xs
  unfolding all_of
  so_far_end ok i h e = sym (and-true ok) ∙ ap (λ (ys : List A). ok && all_of test ys) (sym (drop_of_length-le xs h)) ∙ e
