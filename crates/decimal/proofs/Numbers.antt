-- Laws on the number that a text spells from a place on, by the run of digits that stands there.
use mathlib.Core.Path.{◌≡◌, refl, sym}
use mathlib.Core.Bool.{Bool, true, false, cond, ◌&&◌, ◌||◌, or-true}
use mathlib.Core.List.{List}
use Prim.Native.Nat.{ℕ, ◌+◌, ◌<◌, ◌≤◌}
use native.Mathlib.Omega.{arith}
use lib.Dec.{ltb, eqb}
use lib.ListN.{length, get_or, drop, length-drop}
use borrow.Author.Tests.{eq-eqb, ne_eqb, lt-ltb, le-ltb, eqb-true, eqb-false, ltb-false}
use Rattle.std.specs.Prelude.{Option, Some, None}
use Rattle.decimal.specs.Spelled.{run_length, run_value, misspelled, number_at}
use Rattle.decimal.proofs.Pairs.{same_read}
use Rattle.decimal.proofs.Runs.{run_short}

either_false : (x y : Bool) → (x || y) ≡ false → (x ≡ false) × (y ≡ false)
either_false true y e = let z : ◌≡◌ {A = ℕ} 0 1 = cc in absurd (omega arith)
either_false false y e = (refl, e)

-- how a run is misspelled, and how not
pub no_digits : (t : List ℕ) → run_length t ≡ 0 → misspelled t ≡ true
unfolding misspelled
no_digits t e = rw (eq-eqb (run_length t) 0 e)

pub leading_zero : (t : List ℕ) → get_or t 0 0 ≡ 48 → 1 < run_length t → misspelled t ≡ true
unfolding misspelled
leading_zero t e h = rw (eq-eqb (get_or t 0 0) 48 e, lt-ltb 1 (run_length t) h) (or-true (eqb (run_length t) 0))

pub well_spelled : (t : List ℕ) → 0 < run_length t → (get_or t 0 0 ≡ 48 → run_length t ≤ 1) → misspelled t ≡ false
unfolding misspelled
well_spelled t p z = rw (ne_eqb (run_length t) 0 (λ e. absurd (omega arith))) (by (eqb (get_or t 0 0) 48) refl)
  where
    by : (x : Bool) → eqb (get_or t 0 0) 48 ≡ x → (x && ltb 1 (run_length t)) ≡ false
    by true e = le-ltb 1 (run_length t) (z (eqb-true (get_or t 0 0) 48 e))
    by false e = refl

pub spelled : (t : List ℕ) → misspelled t ≡ false → (0 < run_length t) × (get_or t 0 0 ≡ 48 → run_length t ≤ 1)
unfolding misspelled
spelled t e =
    let p = either_false (eqb (run_length t) 0) (eqb (get_or t 0 0) 48 && ltb 1 (run_length t)) e in
    let n : run_length t ≡ 0 → ⊥ = eqb-false (run_length t) 0 p.0 in
    (omega arith, λ z. ltb-false 1 (run_length t) (rw (eq-eqb (get_or t 0 0) 48 z) at p.1))

-- what the text spells, by its run
module _ (most : ℕ) (s : List ℕ) (at : ℕ) where
  pub number_misspelled : misspelled (drop at s) ≡ true → number_at most s at ≡ None
  unfolding number_at
  number_misspelled e = rw e

  pub number_past : most < run_value 0 (drop at s) → number_at most s at ≡ None
  unfolding number_at
  number_past h = rw (lt-ltb most (run_value 0 (drop at s)) h, or-true)

  pub number_value :
      misspelled (drop at s) ≡ false → run_value 0 (drop at s) ≤ most →
      number_at most s at ≡ Some (run_value 0 (drop at s), at + run_length (drop at s))
  unfolding number_at
  number_value e h = rw (e, le-ltb most (run_value 0 (drop at s)) h)

  pub number_run :
      (v e : ℕ) → number_at most s at ≡ Some (v, e) →
      (misspelled (drop at s) ≡ false) × (run_value 0 (drop at s) ≤ most) × (v ≡ run_value 0 (drop at s)) × (e ≡ at + run_length (drop at s))
  unfolding number_at
  number_run v e q =
      let t = drop at s in
      let p = by (misspelled t || ltb most (run_value 0 t)) (run_value 0 t) (at + run_length t) q in
      let b = either_false (misspelled t) (ltb most (run_value 0 t)) p.0 in
      (b.0, ltb-false most (run_value 0 t) b.1, p.1, p.2)
    where
      by : (x : Bool) (a b : ℕ) → cond {A = Option (ℕ × ℕ)} x None (Some (a, b)) ≡ Some (v, e) → (x ≡ false) × (v ≡ a) × (e ≡ b)
      by true a b r = cc
      by false a b r = let p = same_read v a e b (sym r) in (refl, p.0, p.1)

  pub number_most : (v e : ℕ) → number_at most s at ≡ Some (v, e) → v ≤ most
  number_most v e q = let r = number_run v e q in omega arith

  pub number_end : (v e : ℕ) → number_at most s at ≡ Some (v, e) → e ≤ length s
  number_end v e q =
      let r = number_run v e q in
      let t = drop at s in
      omega (arith, (spelled t r.0).0, run_short t, length-drop at s)
