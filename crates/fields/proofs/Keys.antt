-- Laws on a text that begins with given bytes: exactly if those bytes stand in front.
use mathlib.Core.Path.{◌≡◌, refl, sym, ap, ap₂, ◌∙◌}
use mathlib.Core.Bool.{Bool, true, false, ◌&&◌, and-eq-true_iff, and-false}
use mathlib.Core.List.{List, [], ◌∷◌, ◌++◌}
use Prim.Native.Nat.{ℕ, suc, ◌+◌, ◌<◌, ◌≤◌}
use native.Mathlib.Omega.{arith}
use native.Mathlib.Nat.{add-suc}
use native.Mathlib.Numerals.{add-one}
use lib.Dec.{eqb}
use lib.Pointwise.{pointwise}
use lib.ListN.{length, get_or, take, drop, drop_of_length-le, length-append}
use lib.Seq.{drop-cons}
use borrow.Author.Tests.{eq-eqb, ne_eqb, eqb-true}
use Rattle.fields.specs.Field.{starts_with}

-- the bytes stand in front, and whatever follows them
pub starts_complete : (key rest : List ℕ) → starts_with key (key ++ rest) ≡ true
unfolding starts_with
starts_complete [] rest = refl
starts_complete (k ∷ key) rest = rw (eq-eqb k k refl) (starts_complete key rest)

pub starts_sound : (key t : List ℕ) → starts_with key t ≡ true → t ≡ key ++ drop (length key) t
unfolding starts_with
starts_sound [] t e = refl
starts_sound (k ∷ key) [] e = absurd (let z : ◌≡◌ {A = ℕ} 0 1 = cc in omega arith)
starts_sound (k ∷ key) (b ∷ t) e =
    let both = (and-eq-true_iff (eqb k b) (starts_with key t)).0 e in
    ap₂ (λ (x : ℕ) (l : List ℕ). x ∷ l) (sym (eqb-true k b both.0)) (starts_sound key t both.1)

-- a text that is shorter than the bytes does not begin with them
pub starts_short : (key t : List ℕ) → length t < length key → starts_with key t ≡ false
unfolding starts_with
starts_short [] t h = absurd (omega arith)
starts_short (k ∷ key) [] h = refl
starts_short (k ∷ key) (b ∷ t) h = rw (starts_short key t (omega arith)) (and-false (eqb k b))

-- bytes that both begin with decide nothing
pub starts_behind : (a key t : List ℕ) → starts_with (a ++ key) (a ++ t) ≡ starts_with key t
unfolding starts_with
starts_behind [] key t = refl
starts_behind (k ∷ a) key t = rw (eq-eqb k k refl) (starts_behind a key t)

-- a turn of the comparison: an equal byte leaves the rest to compare, another byte decides
module _ (key s : List ℕ) (at i : ℕ) (h : i < length key) (k : at + i < length s) where
  opened : starts_with (drop i key) (drop (at + i) s) ≡ eqb (get_or key i 0) (get_or s (at + i) 0) && starts_with (drop (suc i) key) (drop (suc (at + i)) s)
  unfolding starts_with
  opened = rw (drop-cons key i 0 h, drop-cons s (at + i) 0 k)

  pub starts_further :
      get_or s (at + i) 0 ≡ get_or key i 0 → starts_with (drop i key) (drop (at + i) s) ≡ starts_with (drop (i + 1) key) (drop (at + (i + 1)) s)
  starts_further e =
      opened ∙ rw (eq-eqb (get_or key i 0) (get_or s (at + i) 0) (sym e), add-one, add-suc)

  pub starts_differs : (get_or s (at + i) 0 ≡ get_or key i 0 → ⊥) → starts_with (drop i key) (drop (at + i) s) ≡ false
  starts_differs n = opened ∙ rw (ne_eqb (get_or key i 0) (get_or s (at + i) 0) (λ e. n (sym e)))

-- no byte left to compare
pub starts_all : (key t : List ℕ) (i : ℕ) → length key ≤ i → starts_with (drop i key) t ≡ true
unfolding starts_with
starts_all key t i h = rw (drop_of_length-le key h)

-- bytes that stand in front of a text have room there
pub starts_room : (key t : List ℕ) → starts_with key t ≡ true → length key ≤ length t
starts_room key t e =
    omega (arith, ap length (starts_sound key t e), length-append key (drop (length key) t))

-- a text begins with the bytes if as many of its own are equal to them, one by one
pub starts_pointwise : (key t : List ℕ) → length key ≤ length t → pointwise eqb key (take (length key) t) ≡ starts_with key t
unfolding starts_with
starts_pointwise [] t h = refl
starts_pointwise (k ∷ key) [] h = absurd (omega arith)
starts_pointwise (k ∷ key) (b ∷ t) h = ap (λ (x : Bool). eqb k b && x) (starts_pointwise key t (omega arith))
