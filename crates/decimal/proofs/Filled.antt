-- An area that is filled from the right: bytes laid behind a run, before the run itself is.
use mathlib.Core.Path.{◌≡◌, refl, sym, ap, ◌∙◌}
use mathlib.Core.List.{List, [], ◌∷◌, ◌++◌}
use Prim.Native.Nat.{ℕ, suc, ◌+◌, ◌-◌, ◌/◌, ◌%◌, ◌<◌, ◌≤◌, ◌^◌}
use native.Mathlib.Omega.{arith}
use lib.ListN.{length, set}
use lib.Seq.{sets, set_comm}
use Rattle.area.specs.Laid.{laid}
use Rattle.area.proofs.Laid.{laid_laid, laid_one}
use Rattle.decimal.specs.Decimal.{digits}
use Rattle.decimal.proofs.Digits.{digits_one, digits_more, length_more, hundredth, length_pair}

sets_set : (a l : List ℕ) (i j x : ℕ) → i + length a ≤ j → sets (set l j x) i a ≡ set (sets l i a) j x
sets_set [] l i j x h = refl
sets_set (y ∷ a) l i j x h =
    ap (λ (m : List ℕ). sets m (suc i) a) (set_comm l j i x y (λ e. absurd (omega arith)))
    ∙ sets_set a (set l i y) (suc i) j x (omega arith)

-- a byte behind a run, laid first
pub laid_behind : (l : List ℕ) (i j x : ℕ) (a : List ℕ) → j ≡ i + length a → laid (set l j x) i a ≡ laid l i (a ++ (x ∷ []))
unfolding laid
laid_behind l i j x a e =
    sets_set a l i j x (omega arith) ∙ sym (laid_one (laid l i a) j x) ∙ laid_laid l i j a (x ∷ []) e

-- the last digit, laid before the others
pub fill_digit :
    (l : List ℕ) (at i n : ℕ) → 10 ≤ n → n < 10 ^ 20 → i ≡ at + length (digits n) →
    laid (set l (i - 1) (48 + n % 10)) at (digits (n / 10)) ≡ laid l at (digits n)
fill_digit l at i n g h e =
    laid_behind l at (i - 1) (48 + n % 10) (digits (n / 10)) (omega (arith, length_more n g h))
    ∙ ap (laid l at) (sym (digits_more n g h))

-- the last two digits, laid before the others
pub fill_pair :
    (l : List ℕ) (at i n : ℕ) {x y : ℕ} → 100 ≤ n → n < 10 ^ 20 → i ≡ at + length (digits n) →
    x ≡ 48 + n / 10 % 10 → y ≡ 48 + n % 10 → laid (set (set l (i - 2) x) (i - 2 + 1) y) at (digits (n / 100)) ≡ laid l at (digits n)
fill_pair l at i n g h e first last =
    let long = length_pair n g h in
    let before : i - 2 ≡ i - 1 - 1 = omega arith in
    let behind : i - 1 - 1 + 1 ≡ i - 1 = omega arith in
    rw (before, behind, first, last, hundredth n)
    (ap (λ (m : List ℕ). laid m at (digits (n / 10 / 10))) (set_comm l (i - 1 - 1) (i - 1) _ _ (λ same. absurd (omega arith)))
    ∙ fill_digit (set l (i - 1) (48 + n % 10)) at (i - 1) (n / 10) (omega arith) (omega arith)
    (omega (arith, length_more n (omega arith) h))
    ∙ fill_digit l at i n (omega arith) h e)

-- the one digit left
pub fill_first : (l : List ℕ) (at n : ℕ) → n < 10 → set l at (48 + n) ≡ laid l at (digits n)
fill_first l at n h = sym (laid_one l at (48 + n)) ∙ ap (laid l at) (sym (digits_one n h))

-- a minus, and the digits behind it
pub laid_minus : (l : List ℕ) (at : ℕ) (a : List ℕ) → laid (set l at 45) (at + 1) a ≡ laid l at (45 ∷ a)
laid_minus l at a = ap (λ (m : List ℕ). laid m (at + 1) a) (sym (laid_one l at 45)) ∙ laid_laid l at (at + 1) (45 ∷ []) a refl
