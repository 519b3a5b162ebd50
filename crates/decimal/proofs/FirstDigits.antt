-- The number that a text spells from a place on, by its first digit and the digits read behind it. A first digit 0 stands alone; behind
-- another one the digits are read until one is no more, or until their value is past the most.
use mathlib.Core.Path.{◌≡◌, refl, sym, ap, ap₂, ◌∙◌}
use mathlib.Core.Bool.{Bool, true, false, cond, ◌&&◌, ◌||◌}
use mathlib.Core.List.{List}
use Prim.Native.Nat.{ℕ, ◌+◌, ◌-◌, ◌<◌, ◌≤◌}
use native.Mathlib.Omega.{arith}
use borrow.Author.Tests.{ltb-true, ltb-false}
use lib.Dec.{ltb, eqb}
use lib.ListN.{length, get_or, drop}
use Rattle.std.specs.Prelude.{Some, None}
use Rattle.decimal.specs.Spelled.{is_digit, NoDigit, Ended, run_length, run_value, misspelled, number_at}
use Rattle.decimal.proofs.Runs.{head_drop, no_run, run_some}
use Rattle.decimal.proofs.Scanned.{Scanned, scanned_none, scanned_digit, scanned_most, scanned_run}
use Rattle.decimal.proofs.Numbers.{no_digits, leading_zero, well_spelled, number_misspelled, number_past, number_value}

-- in a text that ends with no digit a digit is not the last byte
pub digit_inside : (s : List ℕ) (i : ℕ) → Ended s → i < length s → is_digit (get_or s i 0) ≡ true → i + 1 < length s
digit_inside s i n h e = by (ltb (i + 1) (length s)) refl
  where
    by : (x : Bool) → ltb (i + 1) (length s) ≡ x → i + 1 < length s
    by true q = ltb-true (i + 1) (length s) q
    by false q =
        let l = ltb-false (i + 1) (length s) q in
        let d : true ≡ false = sym e ∙ ap (λ (j : ℕ). is_digit (get_or s j 0)) (omega arith) ∙ n in
        let z : ◌≡◌ {A = ℕ} 0 1 = cc in
        absurd (omega arith)

-- by the first byte: no digit, a 0 before another digit, and a 0 alone
pub number_none : (most : ℕ) (s : List ℕ) (at : ℕ) → is_digit (get_or s at 0) ≡ false → number_at most s at ≡ None
number_none most s at e =
    let n : NoDigit (drop at s) = rw head_drop e in
    number_misspelled most s at (no_digits (drop at s) (no_run (drop at s) n))

module _ (s : List ℕ) (at : ℕ) (h : at < length s) (e : is_digit (get_or s at 0) ≡ true) where
  pub first_digit : Scanned s at (at + 1) (get_or s at 0 - 48)
  first_digit = scanned_digit s at at 0 (scanned_none s at) (get_or s at 0 - 48) h e (omega arith)

  pub number_after_zero :
      (most : ℕ) → get_or s at 0 ≡ 48 → is_digit (get_or s (at + 1) 0) ≡ true → number_at most s at ≡ None
  unfolding Scanned
  number_after_zero most z d =
      let some = run_some (drop (at + 1) s) (rw head_drop d) in
      number_misspelled most s at (leading_zero (drop at s) (head_drop at s ∙ z) (omega (arith, first_digit.0)))

  pub number_zero :
      (most : ℕ) → get_or s at 0 ≡ 48 → is_digit (get_or s (at + 1) 0) ≡ false → number_at most s at ≡ Some (0, at + 1)
  number_zero most z d =
      let r = scanned_run s at (at + 1) (get_or s at 0 - 48) first_digit d in
      let v : run_value 0 (drop at s) ≡ 0 = omega arith in
      rw (number_value most s at (well_spelled (drop at s) (omega arith) (λ q. omega arith)) (omega arith), v, ← r.1)

-- by the digits up to i: past the most whatever follows, and a whole number where no digit follows
module _ (most : ℕ) (s : List ℕ) (at i v : ℕ) (so : Scanned s at i v) where
  pub number_past_most : most < v → number_at most s at ≡ None
  number_past_most h = number_past most s at (omega (arith, scanned_most s at i v so))

  pub number_whole :
      at < i → (get_or s at 0 ≡ 48 → ⊥) → v ≤ most → is_digit (get_or s i 0) ≡ false → number_at most s at ≡ Some (v, i)
  number_whole h z m e =
      let t = drop at s in
      let r = scanned_run s at i v so e in
      let k : get_or t 0 0 ≡ 48 → run_length t ≤ 1 = λ q. absurd (z (sym (head_drop at s) ∙ q)) in
      number_value most s at (well_spelled t (omega arith) k) (omega arith) ∙ sym (ap₂ (λ (a b : ℕ). Some (a, b)) r.0 r.1)

  -- the tests on the digits that were read are those on the run
  pub number_scanned :
      is_digit (get_or s i 0) ≡ false →
      number_at most s at ≡ cond (eqb (i - at) 0 || (eqb (get_or s at 0) 48 && ltb 1 (i - at)) || ltb most v) None (Some (v, i))
  unfolding number_at misspelled
  number_scanned e =
      let r = scanned_run s at i v so e in
      let n : run_length (drop at s) ≡ i - at = omega arith in
      rw (← r.0, ← r.1, n, head_drop at s)
