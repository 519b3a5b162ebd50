-- Laws on lists by tests on their elements: what is kept, what every element has, what some element passes. Each is by induction on the
-- list and by cases on one test.
use mathlib.Core.Path.{◌≡◌, refl, sym, ◌∙◌}
use mathlib.Core.Bool.{Bool, true, false, cond, ◌&&◌, ◌||◌, true≢false, and_comm}
use mathlib.Core.List.{List, [], ◌∷◌, ◌++◌, append-nil}
use Rattle.store.specs.Lists.{Every, keep, some_of}
use Rattle.store.proofs.Pairs.{every_to, every_any}
use Rattle.store.proofs.Keeping.{keep_append, keep_same}
use Rattle.protocol.proofs.Tests.{and_implied}

module _ {A : Type 0} where
  pub keep_last : (test : A → Bool) (xs : List A) (x : A) → test x ≡ true → keep test (xs ++ x ∷ []) ≡ keep test xs ++ x ∷ []
  unfolding keep
  keep_last test xs x e = keep_append test xs (x ∷ []) ∙ rw e

  pub keep_but_last : (test : A → Bool) (xs : List A) (x : A) → test x ≡ false → keep test (xs ++ x ∷ []) ≡ keep test xs
  unfolding keep
  keep_but_last test xs x e = keep_append test xs (x ∷ []) ∙ rw e (append-nil (keep test xs))

  pub keep_twice : (p q : A → Bool) (xs : List A) → keep p (keep q xs) ≡ keep (λ x. q x && p x) xs
  unfolding keep
  keep_twice p q [] = refl
  keep_twice p q (x ∷ xs) =
      elim (q x) as
      (λ b.
      keep p (cond b (x ∷ keep q xs) (keep q xs)) ≡
      cond (b && p x) (x ∷ keep (λ y. q y && p y) xs) (keep (λ y. q y && p y) xs)) [
        | true ↦ rw (keep_twice p q xs)
        | false ↦ keep_twice p q xs
      ]

  -- what every kept element has, every element has, where those left out have it
  pub every_from_kept :
      (P : A → Type 0) (test : A → Bool) (xs : List A) → Every (λ x. test x ≡ false → P x) xs → Every P (keep test xs) → Every P xs
  unfolding keep
  every_from_kept P test [] h k = tt
  every_from_kept P test (x ∷ xs) h k =
      (elim (test x) as (λ b. test x ≡ b → Every P (cond b (x ∷ keep test xs) (keep test xs)) → Every P (x ∷ xs)) [
        | true ↦ λ e k. (k.0, every_from_kept P test xs h.1 k.1)
        | false ↦ λ e k. (h.0 e, every_from_kept P test xs h.1 k)
      ])
      refl k

  pub none_passes : (test : A → Bool) (xs : List A) → some_of test xs ≡ false → Every (λ x. test x ≡ false) xs
  unfolding some_of
  none_passes test [] e = tt
  none_passes test (x ∷ xs) e =
      (elim (test x) as (λ b. test x ≡ b → b || some_of test xs ≡ false → Every (λ y. test y ≡ false) (x ∷ xs)) [
        | true ↦ λ q e. absurd (true≢false e)
        | false ↦ λ q e. (q, none_passes test xs e)
      ])
      refl e

  -- a test that only kept elements pass finds the same among the kept ones
  pub some_kept : (q p : A → Bool) (xs : List A) → Every (λ x. q x ≡ true → p x ≡ true) xs → some_of q (keep p xs) ≡ some_of q xs
  unfolding some_of keep
  some_kept q p [] h = refl
  some_kept q p (x ∷ xs) h =
      (elim (p x) as (λ b. p x ≡ b → some_of q (cond b (x ∷ keep p xs) (keep p xs)) ≡ q x || some_of q xs) [
        | true ↦ λ e. rw (some_kept q p xs h.1)
        | false ↦
            λ e.
            (elim (q x) as (λ b. q x ≡ b → some_of q (keep p xs) ≡ b || some_of q xs) [
              | true ↦ λ r. absurd (true≢false (sym (h.0 r) ∙ e))
              | false ↦ λ r. some_kept q p xs h.1
            ])
            refl
      ])
      refl

module _ {A : Type 0} (p q : A → Bool) (xs : List A) where
  pub keep_swap : keep p (keep q xs) ≡ keep q (keep p xs)
  keep_swap =
      keep_twice p q xs ∙ keep_same (λ x. q x && p x) (λ x. p x && q x) xs (every_any _ xs (λ x. and_comm (q x) (p x))) ∙
      sym (keep_twice q p xs)

  -- a weaker test before a stronger one takes nothing away
  pub keep_implied : Every (λ x. p x ≡ true → q x ≡ true) xs → keep p (keep q xs) ≡ keep p xs
  keep_implied h =
      keep_twice p q xs ∙ keep_same (λ x. q x && p x) p xs (every_to xs (λ x i. and_implied (q x) (p x) i) h)
