-- Laws on the run of digits at the start of a text, by its first byte: how long it is and what value it has.
use mathlib.Core.Path.{◌≡◌, refl}
use mathlib.Core.Bool.{Bool, true, false, cond, and-eq-true_iff}
use mathlib.Core.List.{List, [], ◌∷◌}
use Prim.Native.Nat.{ℕ, suc, ◌+◌, ◌-◌, ◌*◌, ◌<◌, ◌≤◌}
use native.Mathlib.Nat.{add-zero}
use native.Mathlib.Omega.{arith}
use lib.Dec.{leb}
use lib.ListN.{length, get_or, drop}
use lib.Seq.{get_or-drop}
use borrow.Author.Tests.{le-leb, lt-leb, leb-true}
use Rattle.decimal.specs.Spelled.{is_digit, NoDigit, run_length, run_value}

pub is_digit_lem : (b : ℕ) → 48 ≤ b → b ≤ 57 → is_digit b ≡ true
unfolding is_digit
is_digit_lem b h k = simp (le-leb 48 b h, le-leb b 57 k)

pub below_digits : (b : ℕ) → b < 48 → is_digit b ≡ false
unfolding is_digit
below_digits b h = simp (lt-leb 48 b h)

pub digit_range : (b : ℕ) → is_digit b ≡ true → (48 ≤ b) × (b ≤ 57)
unfolding is_digit
digit_range b e = let p = (and-eq-true_iff (leb 48 b) (leb b 57)).0 e in (leb-true 48 b p.0, leb-true b 57 p.1)

-- the byte that a rest of a text begins with
pub head_drop : (i : ℕ) (s : List ℕ) → get_or (drop i s) 0 0 ≡ get_or s i 0
head_drop i s = rw (get_or-drop, add-zero)

-- no digit first
pub no_run : (t : List ℕ) → NoDigit t → run_length t ≡ 0
unfolding run_length
no_run [] e = refl
no_run (b ∷ t) e = rw e

pub no_value : (v : ℕ) (t : List ℕ) → NoDigit t → run_value v t ≡ v
unfolding run_value
no_value v [] e = refl
no_value v (b ∷ t) e = rw e

-- a digit first
pub run_begins : (t : List ℕ) → 0 < run_length t → is_digit (get_or t 0 0) ≡ true
unfolding run_length
run_begins [] h = absurd (omega arith)
run_begins (b ∷ t) h = by (is_digit b) h
  where
    by : (x : Bool) → 0 < cond x (suc (run_length t)) 0 → x ≡ true
    by true h = refl
    by false h = absurd (omega arith)

pub run_some : (t : List ℕ) → is_digit (get_or t 0 0) ≡ true → 0 < run_length t
unfolding run_length
run_some [] e = absurd (omega (arith, digit_range 0 e))
run_some (b ∷ t) e = rw e (omega arith)

pub run_digit : (b : ℕ) (t : List ℕ) → is_digit b ≡ true → run_length (b ∷ t) ≡ suc (run_length t)
unfolding run_length
run_digit b t e = rw e

pub value_digit : (v b : ℕ) (t : List ℕ) → is_digit b ≡ true → run_value v (b ∷ t) ≡ run_value (v * 10 + (b - 48)) t
unfolding run_value
value_digit v b t e = rw e

-- a run is no longer than its text
cond_short : (x : Bool) (m n : ℕ) → m ≤ n → cond x (suc m) 0 ≤ suc n
cond_short true m n h = omega arith
cond_short false m n h = omega arith

pub run_short : (t : List ℕ) → run_length t ≤ length t
unfolding run_length
run_short [] = omega arith
run_short (b ∷ t) = cond_short (is_digit b) (run_length t) (length t) (run_short t)

-- digits only add to the value before them
cond_grows : (x : Bool) (v m : ℕ) → v ≤ m → v ≤ cond x m v
cond_grows true v m h = h
cond_grows false v m h = omega arith

pub value_grows : (v : ℕ) (t : List ℕ) → v ≤ run_value v t
unfolding run_value
value_grows v [] = omega arith
value_grows v (b ∷ t) = cond_grows (is_digit b) v _ (omega (arith, value_grows (v * 10 + (b - 48)) t))
