-- Laws on the next line of a text: where a 0A stands, which ends it, and how long it is.
use mathlib.Core.Path.{◌≡◌, refl, sym, ap, ◌∙◌}
use mathlib.Core.Bool.{Bool, true, false, cond, ◌||◌, true≢false}
use mathlib.Core.List.{List, [], ◌∷◌, ◌++◌}
use Prim.Native.Nat.{ℕ, zero, suc, ◌+◌, ◌<◌, ◌≤◌}
use native.Mathlib.Omega.{arith}
use native.Mathlib.Numerals.{add-one}
use lib.Dec.{eqb}
use lib.ListN.{length, get_or, take, drop, take-append-drop}
use lib.Seq.{drop-cons, take-suc}
use Rattle.fields.specs.Line.{next_line, holds_line}

-- no 0A among the first n bytes, as none of them is one
pub no_end_before :
    (s : List ℕ) (n : ℕ) → n ≤ length s → ((k : ℕ) → k < n → eqb (get_or s k 0) 10 ≡ true → ⊥) → holds_line (take n s) ≡ false
unfolding holds_line
no_end_before s zero l h = refl
no_end_before [] (suc n) l h = refl
no_end_before (b ∷ s) (suc n) l h =
    by (eqb b 10) (h 0 (omega arith)) (no_end_before s n (omega arith) (λ k q. h (suc k) (omega arith)))
  where
    by : (x : Bool) → (x ≡ true → ⊥) → holds_line (take n s) ≡ false → (x || holds_line (take n s)) ≡ false
    by true other rest = absurd (other refl)
    by false other rest = rest

part_turn : (t : Bool) (b : ℕ) (x y : List ℕ) (h : Bool) → (t || h) ≡ false → (h ≡ false → x ≡ y) → cond t (b ∷ []) (b ∷ x) ≡ b ∷ y
part_turn true b x y h e same = absurd (true≢false e)
part_turn false b x y h e same = ap (λ (l : List ℕ). b ∷ l) (same e)

-- without a 0A the first line goes on, and a text is one line
pub part_append : (s t : List ℕ) → holds_line s ≡ false → next_line (s ++ t) ≡ s ++ next_line t
unfolding holds_line next_line
part_append [] t h = refl
part_append (b ∷ s) t h = part_turn (eqb b 10) b (next_line (s ++ t)) (s ++ next_line t) (holds_line s) h (λ k. part_append s t k)

pub part_line : (s : List ℕ) → holds_line s ≡ false → next_line s ≡ s
unfolding holds_line next_line
part_line [] h = refl
part_line (b ∷ s) h = part_turn (eqb b 10) b (next_line s) s (holds_line s) h (λ k. part_line s k)

-- the first 0A ends the line
pub line_found :
    (s : List ℕ) (i : ℕ) → i < length s → holds_line (take i s) ≡ false → eqb (get_or s i 0) 10 ≡ true → take (i + 1) s ≡ next_line s
unfolding next_line
line_found s i h none byte =
    let parts : next_line s ≡ take i s ++ next_line (drop i s) = ap next_line (sym (take-append-drop i s)) ∙ part_append (take i s) (drop i s) none in
    rw (add-one, take-suc s i 0 h) (sym (rw (drop-cons s i 0 h, byte) at parts))

some_within :
    (t : Bool) (b : ℕ) (x : List ℕ) (n : ℕ) → length x ≤ n →
    (0 < length (cond t (b ∷ []) (b ∷ x))) × (length (cond t (b ∷ []) (b ∷ x)) ≤ suc n)
some_within true b x n h = omega arith
some_within false b x n h = omega arith

-- the next line lies within the text, and has a byte where the text has: a walk from line to line ends
pub line_within : (s : List ℕ) → length (next_line s) ≤ length s
unfolding next_line
line_within [] = omega arith
line_within (b ∷ s) = (some_within (eqb b 10) b (next_line s) (length s) (line_within s)).1

pub line_some : (s : List ℕ) → 0 < length s → 0 < length (next_line s)
unfolding next_line
line_some [] h = omega arith
line_some (b ∷ s) h = (some_within (eqb b 10) b (next_line s) (length s) (line_within s)).0
