-- Parts of the buffer: what follows a line of what is unread, and what a read brings behind what is kept.
use mathlib.Core.Path.{◌≡◌, sym, ap, ◌∙◌}
use mathlib.Core.Bool.{Bool, true, false, cond}
use mathlib.Core.List.{List, [], ◌∷◌, ◌++◌}
use Prim.Native.Nat.{ℕ, zero, suc, ◌+◌, ◌-◌, ◌<◌, ◌≤◌}
use native.Mathlib.Omega.{arith}
use native.Mathlib.Nat.{sub-zero, zero-add}
use lib.ListN.{length, take, drop, length-take, length-drop}
use lib.Seq.{take-add, take-nil, drop-nil, drop-drop, take_all, take_at, length-take-le}
use borrow.Rule.Slice.PartMut.{put_mid}
use Rattle.playback_cursor.specs.Cut.{part}

-- the first n of the first m, and the others of them
drop_take : (n m : ℕ) (l : List ℕ) → drop n (take (n + m) l) ≡ take m (drop n l)
drop_take n m [] = rw (take-nil {A = ℕ} (n + m), drop-nil {A = ℕ} n) (sym (take-nil m))
drop_take zero m (b ∷ l) = rw zero-add
drop_take (suc n) m (b ∷ l) = let e : suc n + m ≡ suc (n + m) = omega arith in rw e (drop_take n m l)

-- what follows the first n of the bytes between two places
pub second_part : (buf : List ℕ) (at have n : ℕ) → at + n ≤ have → part buf (at + n) have ≡ drop n (part buf at have)
second_part buf at have n within =
    let e : have - at ≡ n + (have - (at + n)) = omega arith in
    rw e (sym (drop_take n (have - (at + n)) (drop at buf) ∙ ap (take (have - (at + n))) (drop-drop n at buf)))

-- a part cut in two
pub part_split : (l : List ℕ) (at mid end : ℕ) → at ≤ mid → mid ≤ end → part l at end ≡ part l at mid ++ part l mid end
part_split l at mid end h k =
    let size : end - at ≡ (mid - at) + (end - mid) = omega arith in
    let place : at + (mid - at) ≡ mid = omega arith in
    ap (λ (n : ℕ). take n (drop at l)) size
    ∙ take-add (mid - at) (end - mid) (drop at l)
    ∙ ap (λ (m : List ℕ). part l at mid ++ take (end - mid) m) (drop-drop (mid - at) at l ∙ ap (λ (i : ℕ). drop i l) place)

-- what is kept in front: all that is unread, but nothing of a line to pass over
pub kept_front : (passing : Bool) (n left : ℕ) (l m : List ℕ) → left ≡ cond passing 0 n → take left l ≡ take left m
    → take left l ≡ cond passing [] (take n m)
kept_front true n left l m e k = rw e
kept_front false n left l m e k = k ∙ ap (λ (i : ℕ). take i m) e

-- behind it stands what was read
pub read_behind : (left got : ℕ) (l s : List ℕ) → take left l ≡ s → take (left + got - 0) (drop 0 l) ≡ s ++ take got (drop left l)
read_behind left got l s e = rw (sub-zero (left + got), take-add left got l, e)

-- a part that was lent from a place on comes back behind what stands before it
pub lent_front : (at : ℕ) (l m : List ℕ) → at ≤ length l → take at (put_mid at (length l - at) l m) ≡ take at l
lent_front at l m h = take_at (take at l) _ at (length-take-le at l h)

-- some bytes of a part's front are some bytes
pub front_some : (n : ℕ) (l : List ℕ) → 0 < length (take n l) → 0 < n
front_some n l h = omega (arith, length-take n l)

module _ (at have : ℕ) (l : List ℕ) (h : at ≤ have) (k : have ≤ length l) where
  pub length_part : length (part l at have) ≡ have - at
  length_part = length-take-le (have - at) (drop at l) (omega (arith, length-drop at l))

  -- a part as long as the whole is the whole
  pub part_whole : have - at ≡ length l → part l at have ≡ l
  part_whole e =
      let none : at ≡ 0 = omega arith in
      rw none (take_all (have - 0) l (omega arith))

-- what is written into the part of an area behind a place lies within the area
pub part_used : (l : List ℕ) (at n : ℕ) → at ≤ length l → n ≤ length (take (length l - at) (drop at l)) → at + n ≤ length l
part_used l at n h k = omega (arith, length_part at (length l) l h (omega arith))
