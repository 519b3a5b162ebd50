-- Laws on the signed number that a text spells from a place on, from those on its magnitude.
use mathlib.Core.Path.{◌≡◌, refl, sym, ap, ◌∙◌}
use mathlib.Core.Bool.{Bool, true, false, cond, ◌&&◌}
use mathlib.Core.List.{List, ◌++◌}
use Prim.Native.Nat.{ℕ, zero, suc, ◌+◌, ◌-◌, ◌≤◌, ◌^◌}
use native.Mathlib.Nat.{add-zero}
use native.Mathlib.Numerals.{add-one}
use native.Mathlib.Omega.{arith}
use borrow.Author.Tests.{eq-eqb, ne_eqb, eqb-true, eqb-false}
use lib.Dec.{eqb}
use lib.IntN.{ℤ, pos, negsuc, neg_ℤ}
use lib.ListN.{length, get_or, drop}
use lib.Seq.{drop-cons, drop-drop, drop-append_seam}
use mir.Syntax.{w32}
use mir.Val.{SFits, bool_byte}
use Rattle.std.specs.Prelude.{Option, Some, None}
use Rattle.decimal.specs.Decimal.{digits, decimal}
use Rattle.decimal.specs.Spelled.{NoDigit, number_at, negated, as_integer, integer_at}
use Rattle.decimal.proofs.Pairs.{same_read}
use Rattle.decimal.proofs.Runs.{digit_range, head_drop}
use Rattle.decimal.proofs.NumberText.{number_sound, number_complete, digits_begin}

-- by the first byte
pub integer_minus : (s : List ℕ) (at : ℕ) → get_or s at 0 ≡ 45 → integer_at s at ≡ negated (number_at (2 ^ 31) s (at + 1))
unfolding integer_at
integer_minus s at e = rw (eq-eqb (get_or (drop at s) 0 0) 45 (head_drop at s ∙ e))

pub integer_as_integer : (s : List ℕ) (at : ℕ) → (get_or s at 0 ≡ 45 → ⊥) → integer_at s at ≡ as_integer (number_at (2 ^ 31 - 1) s at)
unfolding integer_at
integer_as_integer s at n = rw (ne_eqb (get_or (drop at s) 0 0) 45 (λ e. n (sym (head_drop at s) ∙ e)))

-- ---- one reading for both signs: where it begins and the most that it may be go by whether a minus stands at the place

pub integer_read :
    (s : List ℕ) (at : ℕ) (minus : Bool) (n : Option (ℕ × ℕ)) {most from : ℕ} → minus ≡ eqb (get_or s at 0) 45 → n ≡ number_at most s from →
    most ≡ 2147483647 + bool_byte minus → from ≡ at + bool_byte minus → cond minus (negated n) (as_integer n) ≡ integer_at s at
integer_read s at true n e q m f = ap negated (rw (m, f) at q) ∙ sym (integer_minus s at (eqb-true (get_or s at 0) 45 (sym e)))
integer_read s at false n e q m f =
    ap as_integer (rw (m, f ∙ add-zero at) at q) ∙ sym (integer_as_integer s at (eqb-false (get_or s at 0) 45 (sym e)))

-- no number, and a number with its sign
pub integer_none :
    (s : List ℕ) (at : ℕ) (minus : Bool) {most from : ℕ} → minus ≡ eqb (get_or s at 0) 45 → None ≡ number_at most s from →
    most ≡ 2147483647 + bool_byte minus → from ≡ at + bool_byte minus → None ≡ integer_at s at
unfolding negated as_integer
integer_none s at minus e q m f = by minus ∙ integer_read s at minus None e q m f
  where
    by : (minus : Bool) → ◌≡◌ {A = Option (ℤ × ℕ)} None (cond minus (negated None) (as_integer None))
    by true = refl
    by false = refl

pub integer_some :
    (s : List ℕ) (at : ℕ) (minus : Bool) (m e : ℕ) {most from : ℕ} → minus ≡ eqb (get_or s at 0) 45 → Some (m, e) ≡ number_at most s from →
    most ≡ 2147483647 + bool_byte minus → from ≡ at + bool_byte minus →
    cond (minus && eqb m 0) None (Some (cond minus (neg_ℤ (pos m)) (pos m), e)) ≡ integer_at s at
unfolding negated as_integer
integer_some s at minus m e b q o f = by minus ∙ integer_read s at minus (Some (m, e)) b q o f
  where
    by : (minus : Bool) →
        cond (minus && eqb m 0) None (Some (cond minus (neg_ℤ (pos m)) (pos m), e)) ≡ cond minus (negated (Some (m, e))) (as_integer (Some (m, e)))
    by true = refl
    by false = refl

pub most_either :
    (minus : Bool) (m most : ℕ) → most ≡ 2147483647 + bool_byte minus → m ≤ most → m ≤ cond minus (2 ^ 31) (2 ^ 31 - 1)
most_either true m most e h = omega arith
most_either false m most e h = omega arith

-- ---- soundness

negated_suc : (m e : ℕ) → negated (Some (suc m, e)) ≡ Some (negsuc m, e)
unfolding negated
negated_suc m e = rw (ne_eqb (suc m) 0 (λ q. absurd (omega arith)))

negated_value : (n : Option (ℕ × ℕ)) (z : ℤ) (e : ℕ) → negated n ≡ Some (z, e) → (m : ℕ) × (n ≡ Some (suc m, e)) × (z ≡ negsuc m)
unfolding negated
negated_value (Some (zero, f)) z e q = cc
negated_value (Some (suc m, f)) z e q =
    let r = same_read (negsuc m) z f e (sym (negated_suc m f) ∙ q) in
    (m, rw r.1, sym r.0)
negated_value None z e q = cc

as_integer_value : (n : Option (ℕ × ℕ)) (z : ℤ) (e : ℕ) → as_integer n ≡ Some (z, e) → (m : ℕ) × (n ≡ Some (m, e)) × (z ≡ pos m)
unfolding as_integer
as_integer_value (Some (m, f)) z e q = let r = same_read (pos m) z f e q in (m, rw r.1, sym r.0)
as_integer_value None z e q = cc

-- the number z fits 32 bits, and its text stands from `at` up to e
abbrev pub WrittenAt : List ℕ → ℕ → ℤ → ℕ → Type 0
WrittenAt s at z e = (drop at s ≡ decimal z ++ drop e s) × SFits w32 z × (e ≡ at + length (decimal z)) × (e ≤ length s)

minus_sound :
    (s : List ℕ) (at m e : ℕ) → get_or s at 0 ≡ 45 → number_at (2 ^ 31) s (at + 1) ≡ Some (suc m, e) → WrittenAt s at (negsuc m) e
unfolding decimal
minus_sound s at m e b q =
    let r = number_sound (2 ^ 31) s (at + 1) (suc m) e (omega arith) q in
    let t : drop (suc at) s ≡ digits (suc m) ++ drop e s = rw add-one at r.0 in
    (rw (drop-cons s at 0 (omega arith), b, t), record { sfits = omega arith }, omega arith, r.3)

as_integer_sound : (s : List ℕ) (at m e : ℕ) → number_at (2 ^ 31 - 1) s at ≡ Some (m, e) → WrittenAt s at (pos m) e
unfolding decimal
as_integer_sound s at m e q =
    let r = number_sound (2 ^ 31 - 1) s at m e (omega arith) q in
    (r.0, record { sfits = omega arith }, r.2, r.3)

pub integer_sound : (s : List ℕ) (at : ℕ) (z : ℤ) (e : ℕ) → integer_at s at ≡ Some (z, e) → WrittenAt s at z e
integer_sound s at z e q = by (eqb (get_or s at 0) 45) refl
  where
    by : (x : Bool) → eqb (get_or s at 0) 45 ≡ x → WrittenAt s at z e
    by true b =
        let m = eqb-true (get_or s at 0) 45 b in
        let n = negated_value (number_at (2 ^ 31) s (at + 1)) z e (sym (integer_minus s at m) ∙ q) in
        rw n.2 (minus_sound s at n.0 e m n.1)
    by false b =
        let n = as_integer_value (number_at (2 ^ 31 - 1) s at) z e (sym (integer_as_integer s at (eqb-false (get_or s at 0) 45 b)) ∙ q) in
        rw n.2 (as_integer_sound s at n.0 e n.1)

pub integer_end : (s : List ℕ) (at : ℕ) (z : ℤ) (e : ℕ) → integer_at s at ≡ Some (z, e) → e ≤ length s
integer_end s at z e q = (integer_sound s at z e q).3

-- ---- completeness

pub integer_complete :
    (s : List ℕ) (at : ℕ) (z : ℤ) (r : List ℕ) → drop at s ≡ decimal z ++ r → NoDigit r → SFits w32 z →
    integer_at s at ≡ Some (z, at + length (decimal z))
unfolding decimal as_integer
integer_complete s at (pos n) r e o f =
    let l = f.sfits in
    let q = number_complete (2 ^ 31 - 1) s at n r e o (omega arith) (omega arith) in
    let b : get_or s at 0 ≡ 45 → ⊥ =
    λ m. omega (arith, digit_range (get_or (digits n ++ r) 0 0) (digits_begin n r (omega arith)), rw e at (head_drop at s ∙ m)) in
    integer_as_integer s at b ∙ ap as_integer q
integer_complete s at (negsuc n) r e o f =
    let l = f.sfits in
    let t : drop (at + 1) s ≡ digits (suc n) ++ r = sym (drop-drop 1 at s) ∙ rw e in
    let q = number_complete (2 ^ 31) s (at + 1) (suc n) r t o (omega arith) (omega arith) in
    integer_minus s at (sym (head_drop at s) ∙ rw e) ∙ ap negated q ∙ negated_suc n (at + 1 + length (digits (suc n))) ∙ ap (λ (e : ℕ). Some (negsuc n, e)) (omega arith)

-- a claim of its own: a whole number behind any text reads back as written
pub integer_reads_back :
    (p : List ℕ) (z : ℤ) (r : List ℕ) → NoDigit r → SFits w32 z →
    integer_at (p ++ (decimal z ++ r)) (length p) ≡ Some (z, length p + length (decimal z))
integer_reads_back p z r n f =
    integer_complete (p ++ (decimal z ++ r)) (length p) z r (drop-append_seam p (decimal z ++ r)) n f
