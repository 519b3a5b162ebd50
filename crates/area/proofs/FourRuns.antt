-- Four runs of bytes laid over an area, each behind the one before. Room for the four together is room for each in its turn, by their lengths;
-- laid down they are one run, by the law on joined runs.
use mathlib.Core.List.{List, ◌++◌}
use Prim.Native.Nat.{ℕ, ◌+◌, ◌≤◌}
use native.Mathlib.Omega.{arith}
use lib.ListN.{length}
use Rattle.area.proofs.Laid.{laid_four, length_four}
use Rattle.area.proofs.Runs.{LaidTo, length_laid_to}

module _ (l : List ℕ) (at : ℕ) (a b c d : List ℕ) where
  module _ (room : at + length (a ++ (b ++ (c ++ d))) ≤ length l) where
    pub room_first : at + length a ≤ length l
    room_first = omega (arith, length_four a b c d)

    pub room_second : {k : List ℕ} {e : ℕ} → LaidTo l at a e k → e + length b ≤ length k
    room_second {k} {e} p = omega (arith, length_four a b c d, length_laid_to l a k at e p)

    pub room_third : {k m : List ℕ} {e f : ℕ} → LaidTo l at a e k → LaidTo k e b f m → f + length c ≤ length m
    room_third {k} {m} {e} {f} p q = omega (arith, length_four a b c d, length_laid_to l a k at e p, length_laid_to k b m e f q)

    pub room_fourth : {k m n : List ℕ} {e f g : ℕ} → LaidTo l at a e k → LaidTo k e b f m → LaidTo m f c g n → g + length d ≤ length n
    room_fourth {k} {m} {n} {e} {f} {g} p q r =
        omega (arith, length_four a b c d, length_laid_to l a k at e p, length_laid_to k b m e f q, length_laid_to m c n f g r)

  pub runs_four :
      {k m n o : List ℕ} {e f g h : ℕ} → LaidTo l at a e k → LaidTo k e b f m → LaidTo m f c g n → LaidTo n g d h o →
      LaidTo l at (a ++ (b ++ (c ++ d))) h o
  runs_four {e = e} {f = f} {g = g} p q r s = (
    omega (arith, length_four a b c d),
    cc (laid_four l at a b c e f p.0 q.0 d g r.0),
  )
