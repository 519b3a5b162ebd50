-- The loop that scans a run of digits: what is left of the run from i on, behind the value so far, makes the whole run, and digits only add
-- to the value.
use mathlib.Core.Path.{◌≡◌, refl, sym, ap, ◌∙◌}
use mathlib.Core.Bool.{true, false}
use mathlib.Core.List.{List, ◌∷◌}
use Prim.Native.Nat.{ℕ, ◌+◌, ◌-◌, ◌*◌, ◌<◌, ◌≤◌}
use native.Mathlib.Numerals.{add-one}
use native.Mathlib.Omega.{arith}
use lib.ListN.{length, get_or, drop, get_or-eq_default}
use lib.Seq.{drop-cons}
use Rattle.decimal.specs.Spelled.{is_digit, NoDigit, run_length, run_value}
use Rattle.decimal.proofs.Runs.{below_digits, head_drop, no_run, no_value, run_digit, value_digit, value_grows}

unfoldable pub Scanned : List ℕ → ℕ → ℕ → ℕ → Type 0
Scanned s at i v = (i + run_length (drop i s) ≡ at + run_length (drop at s)) × (run_value v (drop i s) ≡ run_value 0 (drop at s))

pub scanned_none : (s : List ℕ) (at : ℕ) → Scanned s at at 0
unfolding Scanned
scanned_none s at = (refl, refl)

module _ (s : List ℕ) (at i v : ℕ) (so : Scanned s at i v) where
  -- a digit taken in
  pub scanned_digit :
      (next : ℕ) → i < length s → is_digit (get_or s i 0) ≡ true → next ≡ v * 10 + (get_or s i 0 - 48) → Scanned s at (i + 1) next
  unfolding Scanned
  scanned_digit next h e q =
      let b = get_or s i 0 in
      let t = drop (i + 1) s in
      let d : drop i s ≡ b ∷ t = rw add-one (drop-cons s i 0 h) in
      let r : run_value v (drop i s) ≡ run_value next t = ap (run_value v) d ∙ value_digit v b t e ∙ rw q in
      (omega (arith, so.0, ap run_length d ∙ run_digit b t e), sym r ∙ so.1)

  -- the value so far is not above that of the run
  pub scanned_most : v ≤ run_value 0 (drop at s)
  unfolding Scanned
  scanned_most = omega (arith, so.1, value_grows v (drop i s))

  -- the run's end: another byte, or the end of the text
  pub scanned_run : is_digit (get_or s i 0) ≡ false → (v ≡ run_value 0 (drop at s)) × (i ≡ at + run_length (drop at s))
  unfolding Scanned
  scanned_run e =
      let n : NoDigit (drop i s) = rw head_drop e in
      (sym (no_value v (drop i s) n) ∙ so.1, omega (arith, so.0, no_run (drop i s) n))

pub no_digit_past : (s : List ℕ) (i : ℕ) → length s ≤ i → is_digit (get_or s i 0) ≡ false
no_digit_past s i h = rw (get_or-eq_default s 0 h) (below_digits 0 (omega arith))
