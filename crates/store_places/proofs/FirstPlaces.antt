-- The first place of a part of a list whose element passes a test: where the first element fails it, or a block of elements, it is the
-- first place of what is left. Each law goes by the first element of what is left.
use mathlib.Core.Path.{◌≡◌, refl, sym, ◌∙◌, ap}
use mathlib.Core.Bool.{Bool, true, false, not, ◌||◌, true≢false}
use mathlib.Core.List.{List, [], ◌∷◌, ◌++◌}
use Prim.Native.Nat.{ℕ, zero, suc, ◌+◌, ◌-◌, ◌*◌, ◌<◌, ◌≤◌}
use native.Mathlib.Omega.{arith}
use native.Mathlib.Nat.{add-zero}
use lib.ListN.{length, get_or, take, drop}
use lib.Seq.{take-add, drop-drop}
use Rattle.std.specs.Simd.{first_chunks}
use Rattle.store.specs.Lists.{some_of}
use Rattle.store.specs.Parts.{share}
use Rattle.store.proofs.Choices.{cond_either}
use Rattle.store.proofs.Shares.{length_share, length_share_le, share_none, share_cons}
use Rattle.store_places.specs.Places.{run_until, first_place, is_time_of}

run_le : {A : Type 0} (test : A → Bool) (xs : List A) → run_until test xs ≤ length xs
unfolding run_until
run_le test [] = omega arith
run_le test (x ∷ xs) = cond_either (λ (k : ℕ). k ≤ suc (length xs)) (test x) (λ e. omega arith) (λ e. omega (arith, run_le test xs))

-- the place lies in the part, or is its end
pub first_within :
    {A : Type 0} (test : A → Bool) (at end : ℕ) (xs : List A) → at ≤ end →
    (at ≤ first_place test at end xs) × (first_place test at end xs ≤ end)
unfolding first_place
first_within test at end xs h =
    (omega arith, omega (arith, run_le test (share at (end - at) xs), length_share_le at (end - at) xs))

module _ {A : Type 0} (blank : A) (test : A → Bool) (end : ℕ) (xs : List A) (room : end ≤ length xs) where
  -- there is nothing left
  pub first_none : (at : ℕ) → at ≡ end → first_place test at end xs ≡ end
  unfolding first_place run_until
  first_none at e =
      let n : end - at ≡ 0 = omega arith in
      rw (n, share_none at xs) (omega arith)

  -- the first element passes, or does not
  pub first_here : (at : ℕ) → at < end → test (get_or xs at blank) ≡ true → first_place test at end xs ≡ at
  unfolding first_place run_until
  first_here at h e =
      let n : end - at ≡ suc (end - suc at) = omega arith in
      rw (n, share_cons blank at (end - suc at) xs (omega arith), e) (omega arith)

  pub first_next : (at : ℕ) → at < end → test (get_or xs at blank) ≡ false → first_place test at end xs ≡ first_place test (suc at) end xs
  unfolding first_place run_until
  first_next at h e =
      let n : end - at ≡ suc (end - suc at) = omega arith in
      rw (n, share_cons blank at (end - suc at) xs (omega arith), e) (omega arith)

  -- no element of a block passes
  pub first_behind :
      (n at : ℕ) → at + n ≤ end → some_of test (share at n xs) ≡ false → first_place test at end xs ≡ first_place test (at + n) end xs
  unfolding some_of
  first_behind zero at h none = ap (λ (k : ℕ). first_place test k end xs) (sym (add-zero at))
  first_behind (suc n) at h none =
      let next : suc at + n ≡ at + suc n = omega arith in
      (elim (test (get_or xs at blank)) as (λ b. test (get_or xs at blank) ≡ b → b || some_of test (share (suc at) n xs) ≡ false → first_place test at end xs ≡ first_place test (at + suc n) end xs) [
        | true ↦ λ e g. absurd (true≢false g)
        | false ↦ λ e g. first_next at (omega arith) e ∙ first_behind n (suc at) (omega arith) g ∙ ap (λ (k : ℕ). first_place test k end xs) next
      ])
      refl
      (rw (share_cons blank at n xs (omega arith)) at none)

-- tests that agree on every element
module _ {A : Type 0} (blank : A) (p q : A → Bool) (xs : List A) (same : (i : ℕ) → p (get_or xs i blank) ≡ q (get_or xs i blank)) where
  run_same : (n at : ℕ) → at + n ≤ length xs → run_until p (share at n xs) ≡ run_until q (share at n xs)
  unfolding run_until
  run_same zero at h = rw (share_none at xs)
  run_same (suc n) at h = rw (share_cons blank at n xs h, same at, run_same n (suc at) (omega arith))

  pub first_same : (at end : ℕ) → at ≤ end → end ≤ length xs → first_place p at end xs ≡ first_place q at end xs
  unfolding first_place
  first_same at end h room = ap (λ (k : ℕ). at + k) (run_same (end - at) at (omega arith))

run_never : {A : Type 0} (xs : List A) → run_until (λ (x : A). false) xs ≡ length xs
unfolding run_until
run_never [] = refl
run_never (x ∷ xs) = ap suc (run_never xs)

-- no element passes at all
pub first_nowhere :
    {A : Type 0} (blank : A) (test : A → Bool) (xs : List A) (at end : ℕ) → at ≤ end → end ≤ length xs →
    ((i : ℕ) → test (get_or xs i blank) ≡ false) → first_place test at end xs ≡ end
unfolding first_place
first_nowhere blank test xs at end h room none =
    first_same blank test (λ _. false) xs none at end h room ∙
    omega (arith, run_never (share at (end - at) xs), length_share at (end - at) xs (omega arith))

-- the first time of another bucket behind the first of bucket j lies further on than the place where both are looked for
pub first_other :
    (bucket j at end : ℕ) (times : List ℕ) → at < end → end ≤ length times →
    at < first_place (is_time_of false bucket j) (first_place (is_time_of true bucket j) at end times) end times
unfolding is_time_of
first_other bucket j at end times h room =
    let inside = is_time_of true bucket j in
    let outside = is_time_of false bucket j in
    (elim (inside (get_or times at 0)) as
    (λ b. inside (get_or times at 0) ≡ b → at < first_place outside (first_place inside at end times) end times) [
      | true ↦ λ e.
          rw (first_here 0 inside end times room at h e, first_next 0 outside end times room at h (ap not e))
          (first_within outside (suc at) end times (omega arith)).0
      | false ↦ λ e.
          let (above, below) = first_within inside (suc at) end times (omega arith) in
          rw (first_next 0 inside end times room at h e)
          (omega (arith, first_within outside (first_place inside (suc at) end times) end times below))
    ])
    refl

-- ---- blocks

module _ {A : Type 0} (test : A → Bool) where
  none_joined : (xs ys : List A) → some_of test xs ≡ false → some_of test ys ≡ false → some_of test (xs ++ ys) ≡ false
  unfolding some_of
  none_joined [] ys e h = h
  none_joined (x ∷ xs) ys e h =
      (elim (test x) as (λ b. b || some_of test xs ≡ false → b || some_of test (xs ++ ys) ≡ false) [
        | true ↦ λ g. g
        | false ↦ λ g. none_joined xs ys g h
      ]) e

  chunk_at : (n k i : ℕ) (xs : List A) → i < k → get_or (first_chunks n k xs) i [] ≡ take n (drop (i * n) xs)
  chunk_at n zero i xs h = absurd (omega arith)
  chunk_at n (suc k) zero xs h =
      let none : 0 * n ≡ 0 = omega arith in
      rw none
  chunk_at n (suc k) (suc i) xs h =
      let more : suc i * n ≡ n + i * n = omega arith in
      chunk_at n k i (drop n xs) (omega arith) ∙ rw (more, drop-drop (i * n) n xs)

  -- no element of one block more passes
  pub block_passed :
      (n k i : ℕ) (xs : List A) → i < k → some_of test (take (i * n) xs) ≡ false →
      some_of test (get_or (first_chunks n k xs) i []) ≡ false → some_of test (take (i * n + n) xs) ≡ false
  block_passed n k i xs h before here =
      rw (take-add (i * n) n xs) (none_joined (take (i * n) xs) (take n (drop (i * n) xs)) before (rw (chunk_at n k i xs h) at here))

pub take_within : {A : Type 0} (m n : ℕ) (xs : List A) → m ≤ n → take m (take n xs) ≡ take m xs
take_within zero n xs h = refl
take_within (suc m) zero xs h = absurd (omega arith)
take_within (suc m) (suc n) [] h = refl
take_within (suc m) (suc n) (x ∷ xs) h = ap (λ (l : List _). x ∷ l) (take_within m n xs (omega arith))
