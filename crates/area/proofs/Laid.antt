-- Laws on bytes laid over an area: runs join, lengths stay, and a run from the first place on is a new front.
use mathlib.Core.Path.{◌≡◌, refl, sym, ap, ◌∙◌}
use mathlib.Core.List.{List, [], ◌∷◌, ◌++◌, append_assoc}
use Prim.Native.Nat.{ℕ, suc, ◌+◌, ◌<◌, ◌≤◌}
use native.Mathlib.Omega.{arith}
use native.Mathlib.Nat.{zero-add}
use lib.ListN.{length, get_or, take, drop, set, length-append}
use lib.Seq.{sets, sets-eq, length-sets, drop-drop, length-take-le, take-suc}
use borrow.Rule.Slice.PartMut.{put_mid}
use Rattle.area.specs.Laid.{laid, in_front}

sets_sets : (a b l : List ℕ) (i j : ℕ) → j ≡ i + length a → sets (sets l i a) j b ≡ sets l i (a ++ b)
sets_sets [] b l i j e = ap (λ (k : ℕ). sets l k b) (omega arith)
sets_sets (x ∷ a) b l i j e = sets_sets a b (set l i x) (suc i) j (omega arith)

-- one run behind another is one run
pub laid_laid : (l : List ℕ) (i j : ℕ) (a b : List ℕ) → j ≡ i + length a → laid (laid l i a) j b ≡ laid l i (a ++ b)
unfolding laid
laid_laid l i j a b e = sets_sets a b l i j e

pub length_laid : (l : List ℕ) (i : ℕ) (a : List ℕ) → length (laid l i a) ≡ length l
unfolding laid
length_laid l i a = length-sets l i a

-- no bytes laid down, and one
pub laid_none : (l : List ℕ) (i : ℕ) → laid l i [] ≡ l
unfolding laid
laid_none l i = refl

pub laid_one : (l : List ℕ) (i x : ℕ) → laid l i (x ∷ []) ≡ set l i x
unfolding laid
laid_one l i x = refl

-- one byte behind the first i of a run
pub laid_more :
    (l : List ℕ) (at i : ℕ) (s : List ℕ) → i < length s → set (laid l at (take i s)) (at + i) (get_or s i 0) ≡ laid l at (take (suc i) s)
laid_more l at i s h =
    sym (laid_one (laid l at (take i s)) (at + i) (get_or s i 0))
    ∙ laid_laid l at (at + i) (take i s) (get_or s i 0 ∷ []) (omega (arith, length-take-le i s (omega arith)))
    ∙ ap (laid l at) (sym (take-suc s i 0 h))

-- a run from the first place on is a new front
pub laid_front : (l a : List ℕ) → length a ≤ length l → laid l 0 a ≡ in_front a l
unfolding laid in_front
laid_front l a h = sets-eq a l 0 (omega arith) ∙ rw zero-add

-- a run copied into its part of the area
pub put_mid_laid : (l a : List ℕ) (at n : ℕ) → n ≡ length a → at + n ≤ length l → put_mid at n l a ≡ laid l at a
unfolding laid
put_mid_laid l a at n e h =
    ap (λ (r : List ℕ). take at l ++ (a ++ r)) (drop-drop n at l ∙ ap (λ (k : ℕ). drop (at + k) l) e)
    ∙ sym (sets-eq a l at (omega arith) ∙ append_assoc (take at l) a (drop (at + length a) l))

-- three runs, each behind the one before, and four
module _ (l : List ℕ) (at : ℕ) (a b c : List ℕ) (e f : ℕ) (p : e ≡ at + length a) (q : f ≡ e + length b) where
  pub laid_three : laid (laid (laid l at a) e b) f c ≡ laid l at (a ++ (b ++ c))
  laid_three = laid_laid (laid l at a) e f b c q ∙ laid_laid l at e a (b ++ c) p

  pub laid_four : (d : List ℕ) (g : ℕ) → g ≡ f + length c → laid (laid (laid (laid l at a) e b) f c) g d ≡ laid l at (a ++ (b ++ (c ++ d)))
  laid_four d g r =
      laid_laid (laid (laid l at a) e b) f g c d r
      ∙ laid_laid (laid l at a) e f b (c ++ d) q
      ∙ laid_laid l at e a (b ++ (c ++ d)) p

-- how long three lists in a row are, and four
pub length_three : (a b c : List ℕ) → length (a ++ (b ++ c)) ≡ length a + (length b + length c)
length_three a b c = omega (arith, length-append a (b ++ c), length-append b c)

pub length_four : (a b c d : List ℕ) → length (a ++ (b ++ (c ++ d))) ≡ length a + (length b + (length c + length d))
length_four a b c d = omega (arith, length-append a (b ++ (c ++ d)), length_three b c d)
