-- A share read place by place: its first number, and the share behind it; and whether some of a list's first elements pass a test, where
-- there is one more of them.
use mathlib.Core.Path.{◌≡◌, refl, sym, ◌∙◌, ap}
use mathlib.Core.Bool.{Bool, ◌||◌, or_assoc, or-false}
use mathlib.Core.List.{List, [], ◌∷◌}
use Prim.Native.Nat.{ℕ, zero, suc, ◌+◌, ◌<◌, ◌≤◌}
use native.Mathlib.Omega.{arith}
use native.Mathlib.Numerals.{add-one}
use lib.ListN.{length, get_or, take, drop, length-take, length-drop}
use lib.Seq.{drop-cons, length-take-le}
use Rattle.store.specs.Lists.{some_of}
use Rattle.store.specs.Parts.{share}

module _ {A : Type 0} where
  pub length_share : (base n : ℕ) (xs : List A) → base + n ≤ length xs → length (share base n xs) ≡ n
  unfolding share
  length_share base n xs h = length-take-le n (drop base xs) (omega (arith, length-drop base xs))

  pub length_share_le : (base n : ℕ) (xs : List A) → length (share base n xs) ≤ n
  unfolding share
  length_share_le base n xs = omega (arith, length-take n (drop base xs))

  pub share_none : (base : ℕ) (xs : List A) → share base 0 xs ≡ []
  unfolding share
  share_none base xs = refl

  pub share_cons :
      (blank : A) (base n : ℕ) (xs : List A) → base + suc n ≤ length xs →
      share base (suc n) xs ≡ get_or xs base blank ∷ share (suc base) n xs
  unfolding share
  share_cons blank base n xs h = rw (drop-cons xs base blank (omega arith))

-- ---- whether some passes

module _ {A : Type 0} (test : A → Bool) (blank : A) where
  some_of_suc : (xs : List A) (i : ℕ) → i < length xs → some_of test (take (suc i) xs) ≡ some_of test (take i xs) || test (get_or xs i blank)
  unfolding some_of
  some_of_suc [] i h = absurd (omega arith)
  some_of_suc (x ∷ xs) zero h = or-false (test x)
  some_of_suc (x ∷ xs) (suc i) h =
      ap (λ (b : Bool). test x || b) (some_of_suc xs i (omega arith)) ∙ sym (or_assoc (test x) (some_of test (take i xs)) (test (get_or xs i blank)))

  -- one element more
  pub some_of_more : (xs : List A) (i : ℕ) → i < length xs → some_of test (take (i + 1) xs) ≡ some_of test (take i xs) || test (get_or xs i blank)
  some_of_more xs i h = rw add-one (some_of_suc xs i h)
