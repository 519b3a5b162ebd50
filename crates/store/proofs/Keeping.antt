-- Laws of `keep`: what it holds and how many, and how it goes through append and map, as `some_of` does. Each goes by the list and the
-- test of its first element.
use Prim.Native.Nat.{ℕ, suc, ◌≤◌}
use native.Mathlib.Omega.{arith}
use mathlib.Core.Path.{◌≡◌, refl, sym, ◌∙◌, ap}
use mathlib.Core.Bool.{Bool, true, false, true≢false}
use mathlib.Core.List.{List, [], ◌∷◌, ◌++◌, map, Memᴰ}
use lib.ListN.{length, take, drop, length-take}
use Rattle.store.specs.Lists.{keep, some_of, Every}
use Rattle.store.specs.Parts.{share}
use Rattle.store.proofs.Choices.{cond_either, cond_map}
use Rattle.store.proofs.Pairs.{every_to, every_of, every_keep, every_self}

module _ {A : Type 0} (test : A → Bool) where
  pub keep_append : (xs ys : List A) → keep test (xs ++ ys) ≡ keep test xs ++ keep test ys
  unfolding keep
  keep_append [] ys = refl
  keep_append (x ∷ xs) ys =
      rw (keep_append xs ys) (cond_map (λ (l : List A). l ++ keep test ys) (test x) (x ∷ keep test xs) (keep test xs))

  pub keep_all : (xs : List A) → Every (λ x. test x ≡ true) xs → keep test xs ≡ xs
  unfolding keep
  keep_all [] h = refl
  keep_all (x ∷ xs) h = rw (h.0, keep_all xs h.1)

  pub keep_none : (xs : List A) → Every (λ x. test x ≡ false) xs → keep test xs ≡ []
  unfolding keep
  keep_none [] h = refl
  keep_none (x ∷ xs) h = rw h.0 (keep_none xs h.1)

  -- all that is kept passes
  pub keep_passes : (xs : List A) → Every (λ x. test x ≡ true) (keep test xs)
  unfolding keep
  keep_passes [] = tt
  keep_passes (x ∷ xs) =
      cond_either (Every (λ y. test y ≡ true)) (test x) (λ e. (e, keep_passes xs)) (λ e. keep_passes xs)

  keep_complete : (xs : List A) → Every (λ x. test x ≡ true → Memᴰ x (keep test xs)) xs
  unfolding keep
  keep_complete [] = tt
  keep_complete (x ∷ xs) =
      cond_either (λ (l : List A). Every (λ y. test y ≡ true → Memᴰ y l) (x ∷ xs)) (test x)
      (λ e. (λ p. Memᴰ.head refl, every_to xs (λ y h p. Memᴰ.tail (h p)) (keep_complete xs)))
      (λ e. (λ p. absurd (true≢false (sym p ∙ e)), keep_complete xs))

  -- an element that passes is kept, and what is kept was there
  pub keep_holds : {z : A} {xs : List A} → test z ≡ true → Memᴰ z xs → Memᴰ z (keep test xs)
  keep_holds {xs} p m = every_of (λ x. test x ≡ true → Memᴰ x (keep test xs)) m (keep_complete xs) p

  pub keep_within : (xs : List A) {z : A} → Memᴰ z (keep test xs) → Memᴰ z xs
  keep_within xs m = every_of (λ x. Memᴰ x xs) m (every_keep (λ x. Memᴰ x xs) test xs (every_self xs))

  pub length_keep : (xs : List A) → length (keep test xs) ≤ length xs
  unfolding keep
  length_keep [] = omega arith
  length_keep (x ∷ xs) =
      cond_either (λ (l : List A). length l ≤ suc (length xs)) (test x)
      (λ e. omega (arith, length_keep xs)) (λ e. omega (arith, length_keep xs))

  -- a share has no more to keep than its places
  pub length_keep_share : (base n : ℕ) (xs : List A) → length (keep test (share base n xs)) ≤ n
  unfolding share
  length_keep_share base n xs = omega (arith, length_keep (take n (drop base xs)), length-take n (drop base xs))

-- tests that agree keep the same
pub keep_same : {A : Type 0} (p q : A → Bool) (xs : List A) → Every (λ x. p x ≡ q x) xs → keep p xs ≡ keep q xs
unfolding keep
keep_same p q [] h = refl
keep_same p q (x ∷ xs) h = rw (h.0, keep_same p q xs h.1)

-- a test of mapped elements is a test of the elements
module _ {A B : Type 0} (f : A → B) (test : B → Bool) where
  pub keep_map : (xs : List A) → keep test (map f xs) ≡ map f (keep (λ x. test (f x)) xs)
  unfolding keep
  keep_map [] = refl
  keep_map (x ∷ xs) =
      rw (keep_map xs) (cond_map (map f) (test (f x)) (x ∷ keep (λ y. test (f y)) xs) (keep (λ y. test (f y)) xs))

  pub some_map : (xs : List A) → some_of test (map f xs) ≡ some_of (λ x. test (f x)) xs
  unfolding some_of
  some_map [] = refl
  some_map (x ∷ xs) = rw (some_map xs)

-- a map after which a test finds what another found before it
pub keep_through :
    {A B : Type 0} (f : A → B) (old : A → Bool) (new : B → Bool) (xs : List A) → Every (λ x. new (f x) ≡ old x) xs →
    keep new (map f xs) ≡ map f (keep old xs)
keep_through f old new xs h = keep_map f new xs ∙ ap (map f) (keep_same (λ x. new (f x)) old xs h)
