-- A store into a run of stores changes the run. By cases on the run, since stores at different places change order.
use mathlib.Core.Path.{◌≡◌, refl, ap, ◌∙◌}
use mathlib.Core.List.{List, [], ◌∷◌, ◌++◌}
use Prim.Native.Nat.{ℕ, suc, ◌+◌, ◌<◌}
use native.Mathlib.Omega.{arith}
use lib.ListN.{length, set, replicate, replicate-append-replicate}
use lib.Seq.{sets, set-set, set_comm}

module _ {A : Type 0} where
  set_before_sets : (b l : List A) (i j : ℕ) (y : A) → j < i → set (sets l i b) j y ≡ sets (set l j y) i b
  set_before_sets [] l i j y h = refl
  set_before_sets (x ∷ b) l i j y h = set_before_sets b (set l i x) (suc i) j y (omega arith) ∙ ap (λ (m : List A). sets m (suc i) b) (set_comm l i j x y (λ e. omega arith))

  -- a store into a run
  pub set_within_sets : (a : List A) (x y : A) (b l : List A) (i j : ℕ) → j ≡ i + length a → set (sets l i (a ++ x ∷ b)) j y ≡ sets l i (a ++ y ∷ b)
  set_within_sets [] x y b l i j e =
      let here : j ≡ i = omega arith in
      rw here (set_before_sets b (set l i x) (suc i) i y (omega arith) ∙ ap (λ (m : List A). sets m (suc i) b) (set-set l i x y))
  set_within_sets (z ∷ a) x y b l i j e = set_within_sets a x y b (set l i z) (suc i) j (omega arith)

  pub replicate_more : (n : ℕ) (x : A) → replicate n x ++ (x ∷ []) ≡ replicate (suc n) x
  replicate_more n x = replicate-append-replicate n 1 x ∙ (let e : n + 1 ≡ suc n = omega arith in ap (λ (m : ℕ). replicate m x) e)
