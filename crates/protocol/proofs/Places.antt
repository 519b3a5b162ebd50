-- Three lists place by place: the node's lines, the monitor's lines and the accepted stable readings. A relation that holds at every
-- place is kept by a change at one place that keeps it there.
use Prim.Native.Nat.{ℕ, zero, suc}
use mathlib.Core.Path.{◌≡◌, refl, ap}
use mathlib.Core.List.{List, [], ◌∷◌, map}
use lib.ListN.{length, get_or}
use Rattle.store.specs.Lists.{modify}

pub data Each {A B C : Type 0} (R : A → B → C → Type 0) : List A → List B → List C → Type 0 where
  done : Each R [] [] []
  more : {a : A} {b : B} {c : C} {xs : List A} {ys : List B} {zs : List C} → R a b c → Each R xs ys zs → Each R (a ∷ xs) (b ∷ ys) (c ∷ zs)

module _ {A B C : Type 0} {R Q : A → B → C → Type 0} where
  pub each_map :
      {xs : List A} {ys : List B} {zs : List C} (f : A → A) → ((a : A) (b : B) (c : C) → R a b c → Q (f a) b c) → Each R xs ys zs →
      Each Q (map f xs) ys zs
  each_map f h done = done
  each_map f h (more {a = a} {b = b} {c = c} r rs) = more (h a b c r) (each_map f h rs)

module _ {A B C : Type 0} {R : A → B → C → Type 0} (f : A → A) (g : B → B) (h : C → C) (x : A) where
  pub each_modify :
      {xs : List A} {ys : List B} {zs : List C} (i : ℕ) → ((b : B) (c : C) → R (get_or xs i x) b c → R (f (get_or xs i x)) (g b) (h c)) →
      Each R xs ys zs → Each R (modify f i xs) (modify g i ys) (modify h i zs)
  unfolding modify
  each_modify i k done = done
  each_modify zero k (more {b = b} {c = c} r rs) = more (k b c r) rs
  each_modify (suc i) k (more r rs) = more r (each_modify i k rs)

pub length_modify : {A : Type 0} (f : A → A) (i : ℕ) (xs : List A) → length (modify f i xs) ≡ length xs
unfolding modify
length_modify f i [] = refl
length_modify f zero (x ∷ xs) = refl
length_modify f (suc i) (x ∷ xs) = ap suc (length_modify f i xs)

pub modify_same : {A : Type 0} (f : A → A) → ((x : A) → f x ≡ x) → (i : ℕ) (xs : List A) → modify f i xs ≡ xs
unfolding modify
modify_same f h i [] = refl
modify_same f h zero (x ∷ xs) = rw (h x)
modify_same f h (suc i) (x ∷ xs) = rw (modify_same f h i xs)
