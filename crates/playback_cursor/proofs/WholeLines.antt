-- A text's first line, where there is a 0A and where there is none: what it is once more follows, and what follows it.
use mathlib.Core.Path.{◌≡◌, refl, sym, ap, ◌∙◌}
use mathlib.Core.Bool.{Bool, true, false, cond, ◌||◌, or-true}
use mathlib.Core.List.{List, [], ◌∷◌, ◌++◌}
use Prim.Native.Nat.{ℕ, zero, suc, ◌+◌, ◌-◌, ◌<◌, ◌≤◌}
use native.Mathlib.Omega.{arith}
use lib.Dec.{eqb}
use lib.ListN.{length, get_or, take, drop, length-drop, length-append}
use lib.Seq.{get_or-take, get_or-drop, drop-append-le, drop-append-add, drop-length}
use Rattle.fields.specs.Line.{next_line, holds_line}
use Rattle.fields.specs.Field.{ends_line}
use Rattle.fields.proofs.Lines.{no_end_before, part_append, part_line, line_within}
use Rattle.store.proofs.Choices.{not_both}
use Rattle.playback_cursor.specs.Cut.{behind_line}

whole_turn : (t : Bool) (b : ℕ) (x y : List ℕ) (h : Bool) → (t || h) ≡ true → (h ≡ true → x ≡ y)
    → cond t (b ∷ []) (b ∷ x) ≡ cond t (b ∷ []) (b ∷ y)
whole_turn true b x y h e same = refl
whole_turn false b x y h e same = ap (λ (l : List ℕ). b ∷ l) (same e)

-- with a 0A the first line is the same whatever follows
pub whole_append : (s t : List ℕ) → holds_line s ≡ true → next_line (s ++ t) ≡ next_line s
unfolding holds_line next_line
whole_append [] t h = not_both h refl
whole_append (b ∷ s) t h = whole_turn (eqb b 10) b (next_line (s ++ t)) (next_line s) (holds_line s) h (λ k. whole_append s t k)

-- ---- where a 0A stands

pub or_on : (o p q : Bool) → o || p ≡ true → (p ≡ true → q ≡ true) → o || q ≡ true
or_on true p q e f = refl
or_on false p q e f = f e

-- it makes the first line whole
pub held_at : (s : List ℕ) (i : ℕ) → i < length s → ends_line s i ≡ true → holds_line s ≡ true
unfolding holds_line ends_line
held_at [] i h e = absurd (omega arith)
held_at (b ∷ s) zero h e = ap (λ (t : Bool). t || holds_line s) e
held_at (b ∷ s) (suc i) h e = ap (λ (t : Bool). eqb b 10 || t) (held_at s i (omega arith) e) ∙ or-true (eqb b 10)

-- whatever follows
pub held_append : (s t : List ℕ) → holds_line s ≡ true → holds_line (s ++ t) ≡ true
unfolding holds_line
held_append [] t h = not_both h refl
held_append (b ∷ s) t h = or_on (eqb b 10) (holds_line s) (holds_line (s ++ t)) h (λ k. held_append s t k)

-- none stands between a place and itself
pub none_behind : (s : List ℕ) (n : ℕ) → holds_line (take (n - n) (drop n s)) ≡ false
unfolding holds_line
none_behind s n = let z : n - n ≡ 0 = omega arith in ap (λ (i : ℕ). holds_line (take i (drop n s))) z

-- none stands from a place on, as none of the bytes there is one
pub none_after :
    (s : List ℕ) (n r : ℕ) → n ≤ length s → ((k : ℕ) → r ≤ k → k < n → eqb (get_or (take n s) k 0) 10 ≡ true → ⊥)
    → holds_line (take (n - r) (drop r s)) ≡ false
none_after s n r within none =
    no_end_before (drop r s) (n - r) (omega (arith, length-drop r s))
    (λ k q e.
    none (r + k) (omega arith) (omega (arith, q))
    (ap (λ (b : ℕ). eqb b 10) (get_or-take n s (r + k) 0 (omega (arith, q)) ∙ sym (get_or-drop r s k 0)) ∙ e))

-- what follows the first line
pub behind_whole : (s t : List ℕ) → holds_line s ≡ true → behind_line (s ++ t) ≡ behind_line s ++ t
unfolding behind_line
behind_whole s t h = rw (whole_append s t h) (drop-append-le (length (next_line s)) s t (line_within s))

pub behind_part : (s t : List ℕ) → holds_line s ≡ false → behind_line (s ++ t) ≡ behind_line t
unfolding behind_line
behind_part s t h = rw (part_append s t h, length-append s (next_line t)) (drop-append-add s t (length (next_line t)))

pub behind_none : (s : List ℕ) → holds_line s ≡ false → behind_line s ≡ []
unfolding behind_line
behind_none s h = rw (part_line s h) (drop-length s)

pub behind_within : (s : List ℕ) → length (behind_line s) ≤ length s
unfolding behind_line
behind_within s = omega (arith, length-drop (length (next_line s)) s)
