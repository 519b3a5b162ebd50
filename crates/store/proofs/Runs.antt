-- Runs of stores: one run behind another is one run, what stands behind a run is untouched, and a part of a slice that is overwritten or
-- filled is a run. By cases on the run.
use Prim.Native.Nat.{ℕ, suc, ◌+◌, ◌-◌, ◌≤◌}
use mathlib.Core.Path.{◌≡◌, refl, sym, ap, ◌∙◌}
use mathlib.Core.List.{List, [], ◌∷◌, ◌++◌, append_assoc}
use native.Mathlib.Omega.{arith}
use borrow.Rule.Slice.PartMut.{put_mid, Post-is}
use lib.ListN.{length, length-replicate, get_or, set, take, drop, replicate}
use lib.Seq.{sets, sets-eq, get_or-set_other}

module _ {A : Type 0} where
  pub sets_sets : (vs ws xs : List A) (i j : ℕ) → j ≡ i + length vs → sets (sets xs i vs) j ws ≡ sets xs i (vs ++ ws)
  sets_sets [] ws xs i j e = ap (λ (k : ℕ). sets xs k ws) (omega arith)
  sets_sets (v ∷ vs) ws xs i j e = sets_sets vs ws (set xs i v) (suc i) j (omega arith)

  -- what stands behind a run
  pub get_d_behind_sets : (vs xs : List A) (i j : ℕ) (d : A) → i + length vs ≤ j → get_or (sets xs i vs) j d ≡ get_or xs j d
  get_d_behind_sets [] xs i j d h = refl
  get_d_behind_sets (v ∷ vs) xs i j d h =
      get_d_behind_sets vs (set xs i v) (suc i) j d (omega arith) ∙ get_or-set_other xs i j v d (λ e. omega arith)

  -- a part of a slice, overwritten
  pub part_sets :
      (xs ys : List A) (from to : ℕ) → from ≤ to → to ≤ length xs → length ys ≡ to - from → put_mid from (to - from) xs ys ≡ sets xs from ys
  part_sets xs ys from to h room long =
      let end : from + length ys ≡ to = omega arith in
      sym (sets-eq ys xs from (omega arith) ∙ rw (end, Post-is from to xs h) (append_assoc (take from xs) ys (drop to xs)))

  -- a part of a slice, filled
  pub part_filled :
      (xs part : List A) (blank : A) (from to : ℕ) → from ≤ to → to ≤ length xs → part ≡ replicate (to - from) blank →
      put_mid from (to - from) xs part ≡ sets xs from (replicate (to - from) blank)
  part_filled xs part blank from to h room e =
      rw e (part_sets xs (replicate (to - from) blank) from to h room (length-replicate (to - from) blank))
