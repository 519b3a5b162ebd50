-- Tests over whole columns, at their end: no pair, or no two numbers, are left.
use Rattle.std.proofs.Common.{◌≡◌, ℕ, ◌<◌, Bool, List, [], ◌∷◌, length, true, refl, false, ◌⊎◌, inl, inr, arith}
use Rattle.store_columns.specs.Tests.{some_of_both}
use Rattle.store_columns.specs.Shape.{rises}

-- no pair is left
pub none_left :
    {A B : Type 0} (test : A → B → Bool) (xs : List A) (ys : List B) → (length xs ≡ 0) ⊎ (length ys ≡ 0) → some_of_both test xs ys ≡ false
unfolding some_of_both
none_left test [] ys h = refl
none_left test (x ∷ xs) [] h = refl
none_left test (x ∷ xs) (y ∷ ys) (inl h) = absurd (omega arith)
none_left test (x ∷ xs) (y ∷ ys) (inr h) = absurd (omega arith)

-- ---- whether the numbers rise

-- fewer than two
pub few_rise : (xs : List ℕ) → length xs < 2 → rises xs ≡ true
unfolding rises
few_rise [] h = refl
few_rise (x ∷ []) h = refl
few_rise (x ∷ y ∷ xs) h = absurd (omega arith)
