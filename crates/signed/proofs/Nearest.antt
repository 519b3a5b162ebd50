-- `nearest` is the one number that lies at most half away from the quotient and, where it lies exactly half away, is even. Twice the rest
-- against the divisor tells which number that is; of two such numbers one would follow the other, both half away and both even.
use mathlib.Core.Path.{◌≡◌, refl, sym}
use mathlib.Core.Logic.{inl, inr, ⊎_elim}
use Prim.Native.Nat.{ℕ, zero, suc, ◌+◌, ◌*◌, ◌/◌, ◌%◌, ◌<◌, ◌≤◌}
use native.Mathlib.Omega.{arith}
use native.Mathlib.Nat.{mod-lt, div-add-mod', mul-le-mul_right, eq_of_mul-eq-mul_right, eq-or-lt_of_le, lt_of_not-le}
use borrow.Author.Tests.{lt-ltb, le-ltb, ne_eqb}
use Rattle.signed.specs.Nearest.{nearest}
use Rattle.signed.specs.Mean.{IsNearest}
use Rattle.signed.proofs.Comparing.{lt_or_le}

-- ---- the quotient or the next, by twice the rest

module _ (a n : ℕ) (p : 0 < n) where
  pub under_half : 2 * (a % n) < n → IsNearest a n (a / n)
  under_half h =
      let w : a / n * n + a % n ≡ a = div-add-mod' a n in
      record {
        above = omega arith;
        below = omega arith;
        even = ⊎_elim (λ e. absurd (omega arith)) (λ e. absurd (omega arith));
      }

  pub over_half : n < 2 * (a % n) → IsNearest a n (a / n + 1)
  over_half h =
      let w : a / n * n + a % n ≡ a = div-add-mod' a n in
      let l : a % n < n = mod-lt a p in
      record {
        above = omega arith;
        below = omega arith;
        even = ⊎_elim (λ e. absurd (omega arith)) (λ e. absurd (omega arith));
      }

  -- the one of both that is even
  pub at_half : {d : ℕ} → d ≤ 1 → (a / n + d) % 2 ≡ 0 → 2 * (a % n) ≡ n → IsNearest a n (a / n + d)
  at_half {d} l e h =
      let w : a / n * n + a % n ≡ a = div-add-mod' a n in
      let m : d * n ≤ 1 * n = mul-le-mul_right n l in
      record { above = omega arith; below = omega arith; even = λ _. e }

-- ---- what `nearest` is

pub nearest_none : (a : ℕ) → nearest a 0 ≡ 0
unfolding nearest
nearest_none a = refl

pub nearest_nearest : (a n : ℕ) → 0 < n → IsNearest a n (nearest a n)
unfolding nearest
nearest_nearest a n p =
    let twice = 2 * (a % n) in
    rw (ne_eqb n 0 (λ (e : n ≡ 0). omega arith))
    (⊎_elim
    (λ (h : twice < n). rw (lt-ltb twice n h) (under_half a n p h))
    (λ (h : n ≤ twice).
    rw (le-ltb twice n h)
    (⊎_elim
    (λ (e : n ≡ twice). rw (le-ltb n twice (omega arith)) (at_half a n p (omega arith) (omega arith) (sym e)))
    (λ (l : n < twice). rw (lt-ltb n twice l) (over_half a n p l))
    (eq-or-lt_of_le h)))
    (lt_or_le twice n))

-- of two that are nearest none is below the other
not_below : (a n q r : ℕ) → 0 < n → IsNearest a n q → IsNearest a n r → q < r → ⊥
not_below a n q r p v u h =
    let m : suc q * n ≤ r * n = mul-le-mul_right n h in
    let b : 2 * a ≡ 2 * (q * n) + n = omega (arith, v.below, u.above) in
    let t : 2 * (r * n) ≡ 2 * a + n = omega (arith, v.below, u.above) in
    let s : r ≡ suc q = eq_of_mul-eq-mul_right n p r (suc q) (omega arith) in
    omega (arith, v.even (inr b), u.even (inl t))

pub nearest_only : (a n q : ℕ) → 0 < n → IsNearest a n q → q ≡ nearest a n
nearest_only a n q p v =
    let u : IsNearest a n (nearest a n) = nearest_nearest a n p in
    let l : nearest a n < suc q = lt_of_not-le (not_below a n q (nearest a n) p v u) in
    let m : q < suc (nearest a n) = lt_of_not-le (not_below a n (nearest a n) q p u v) in
    omega arith

-- values of at most b have a mean of at most b
pub nearest_le : (a n b : ℕ) → a ≤ b * n → nearest a n ≤ b
nearest_le a zero b h = rw (nearest_none a) (omega arith)
nearest_le a (suc n) b h =
    let v : IsNearest a (suc n) (nearest a (suc n)) = nearest_nearest a (suc n) (omega arith) in
    let l : nearest a (suc n) < suc b =
    lt_of_not-le (λ (k : b < nearest a (suc n)). omega (arith, v.above, mul-le-mul_right (suc n) k)) in
    omega arith
