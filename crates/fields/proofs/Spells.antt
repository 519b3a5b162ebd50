-- A text that spells given bytes from one place to another; stretches join, and a stretch in front can be cut off.
use mathlib.Core.Path.{◌≡◌, sym, ap, ◌∙◌}
use mathlib.Core.List.{List, [], ◌++◌, append_assoc, append-nil}
use Prim.Native.Nat.{ℕ, ◌+◌}
use native.Mathlib.Omega.{arith}
use lib.ListN.{length, drop, length-append}
use lib.Seq.{drop-drop, drop-length, drop-append_seam}

-- from `at` to e the text s spells t
pub record Spells (s : List ℕ) (at : ℕ) (t : List ℕ) (e : ℕ) : Type 0 where
  pub text : drop at s ≡ t ++ drop e s
  pub end : e ≡ at + length t

pub spells_append : {s t u : List ℕ} {at e f : ℕ} → Spells s at t e → Spells s e u f → Spells s at (t ++ u) f
spells_append {s} {t} {u} {at} {e} {f} p q =
    record {
      text = p.text ∙ ap (λ (r : List ℕ). t ++ r) q.text ∙ sym (append_assoc t u (drop f s));
      end = omega (arith, length-append t u, p.end, q.end);
    }

-- behind what is spelled stands the rest
pub spells_rest : (s t r : List ℕ) (at : ℕ) → drop at s ≡ t ++ r → drop (at + length t) s ≡ r
spells_rest s t r at p = sym (drop-drop (length t) at s) ∙ ap (drop (length t)) p ∙ drop-append_seam t r

pub spells_front : (s t r : List ℕ) (at : ℕ) → drop at s ≡ t ++ r → Spells s at t (at + length t)
spells_front s t r at p =
    record { text = p ∙ ap (λ (l : List ℕ). t ++ l) (sym (spells_rest s t r at p)); end = omega arith }

-- a stretch from the start to the end is the whole text, and the other way round
pub spells_whole : (s t : List ℕ) (e : ℕ) → Spells s 0 t e → e ≡ length s → s ≡ t
spells_whole s t e p q =
    p.text ∙ ap (λ (r : List ℕ). t ++ r) (ap (λ (n : ℕ). drop n s) q ∙ drop-length s) ∙ append-nil t

pub whole_spelled : (s t : List ℕ) → s ≡ t → drop 0 s ≡ t ++ []
whole_spelled s t p = p ∙ sym (append-nil t)
