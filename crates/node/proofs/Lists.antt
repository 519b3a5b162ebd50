-- What every element of a list of equals has, and of a list changed at one place: by induction on the list.
use Prim.Native.Nat.{ℕ, zero, suc}
use mathlib.Core.List.{List, [], ◌∷◌}
use lib.ListN.{get_or, replicate}
use Rattle.store.specs.Lists.{Every, modify}

module _ {A : Type 0} where
  pub every_replicate : (P : A → Type 0) (n : ℕ) (x : A) → P x → Every P (replicate n x)
  every_replicate P zero x h = tt
  every_replicate P (suc n) x h = (h, every_replicate P n x h)

  pub every_modify :
      (P : A → Type 0) (f : A → A) (d : A) (i : ℕ) (xs : List A) → (P (get_or xs i d) → P (f (get_or xs i d))) → Every P xs →
      Every P (modify f i xs)
  unfolding modify
  every_modify P f d i [] h a = tt
  every_modify P f d zero (x ∷ xs) h a = (h a.0, a.1)
  every_modify P f d (suc i) (x ∷ xs) h a = (a.0, every_modify P f d i xs h a.1)
