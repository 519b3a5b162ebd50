-- Numbers of 32 bits that step up by at most 2^23 each, wrapped: either none has gone round so far, and they rise, or one has, and then so
-- few of them stay below the first. Steps back are laid over each other, and what is left tells that all were small; some are laid twice.
use Rattle.std.proofs.Common.{◌≡◌, ℕ, zero, suc, ◌+◌, ◌-◌, ◌*◌, ◌%◌, ◌^◌, ◌<◌, ◌≤◌, true, false, ltb, ◌⊎◌, List, [], ◌∷◌, ◌++◌, length, get_or, set, take, drop, refl, inl, inr, le_trans, le_refl, add-one, arith, length-set, ltb-false, ltb-true, lt-ltb}
use Rattle.std.specs.List.{concat}
use lib.Bits.{bit_and, and_le_l, and_le_r}
use Rattle.store_columns.specs.Shape.{rises}
use Rattle.store_columns.specs.Steps.{SmallStep, AreSmallSteps, AreSmallBack, small_back}

-- a step told by what it wraps to, taken back
pub small_step : (a b : ℕ) → a < 2 ^ 32 → b < 2 ^ 32 → small_back ≤ (a + (2 ^ 32 - b)) % 2 ^ 32 → SmallStep a b
small_step a b fits fits' small =
    (elim (ltb a b) as (λ t. ltb a b ≡ t → SmallStep a b) [
      | true ↦ λ e. inl (ltb-true a b e, omega (arith, ltb-true))
      | false ↦ λ e. inr (omega (arith, ltb-false))
    ]) refl

-- ---- so few small steps rise

-- once one has gone round, k steps from the first on, they stay below it
stays_below :
    (first k x : ℕ) (xs : List ℕ) → x + 2 ^ 32 ≤ first + k * 2 ^ 23 → AreSmallSteps (x ∷ xs) xs →
    get_or (x ∷ xs) (length xs) 0 + 2 ^ 32 ≤ first + (k + length xs) * 2 ^ 23
unfolding AreSmallSteps
stays_below first k x [] round steps = omega arith
stays_below first k x (y ∷ ys) round (inl step, steps) = omega (arith, stays_below first (k + 1) y ys (omega arith) steps)
stays_below first k x (y ∷ ys) round (inr step, steps) = omega (arith, stays_below first (k + 1) y ys (omega arith) steps)

rise_on :
    (first k x : ℕ) (xs : List ℕ) → x ≤ first + k * 2 ^ 23 → k + length xs < 256 → first < get_or (x ∷ xs) (length xs) 0 →
    AreSmallSteps (x ∷ xs) xs → rises (x ∷ xs) ≡ true
unfolding AreSmallSteps rises
rise_on first k x [] near few above steps = refl
rise_on first k x (y ∷ ys) near few above (inl step, steps) =
    rw (lt-ltb x y step.0) (rise_on first (k + 1) y ys (omega arith) (omega arith) above steps)
rise_on first k x (y ∷ ys) near few above (inr step, steps) =
    absurd (omega (arith, stays_below first (k + 1) y ys (omega arith) steps))

-- the last number steps nowhere
all_but_last : (n : ℕ) (xs ys : List ℕ) → n ≡ length ys → AreSmallSteps (take n xs) (take n ys) → AreSmallSteps xs ys
unfolding AreSmallSteps
all_but_last n [] ys e steps = tt
all_but_last n (x ∷ xs) [] e steps = tt
all_but_last zero (x ∷ xs) (y ∷ ys) e steps = absurd (omega arith)
all_but_last (suc n) (x ∷ xs) (y ∷ ys) e (step, steps) = (step, all_but_last n xs ys (omega arith) steps)

-- so few, and the last above the first
pub small_steps_rise :
    (xs : List ℕ) (last : ℕ) → length xs ≤ 256 → last + 1 ≡ length xs → get_or xs 0 0 < get_or xs last 0 →
    AreSmallSteps (take last xs) (take last (drop 1 xs)) → rises xs ≡ true
unfolding rises
small_steps_rise [] last few there above steps = refl
small_steps_rise (x ∷ xs) last few there above steps =
    let e : last ≡ length xs = omega arith in
    rise_on x 0 x xs (omega arith) (omega arith) (rw e at above) (all_but_last last (x ∷ xs) xs e steps)

-- ---- steps in parts

-- no step is left
pub none_laid : (xs ys : List ℕ) → (length xs ≡ 0) ⊎ (length ys ≡ 0) → AreSmallSteps xs ys
unfolding AreSmallSteps
none_laid [] ys h = tt
none_laid (x ∷ xs) [] h = tt
none_laid (x ∷ xs) (y ∷ ys) (inl h) = absurd (omega arith)
none_laid (x ∷ xs) (y ∷ ys) (inr h) = absurd (omega arith)

pub steps_append :
    (xs ys zs ws : List ℕ) → length xs ≡ length ys → AreSmallSteps xs ys → AreSmallSteps zs ws → AreSmallSteps (xs ++ zs) (ys ++ ws)
unfolding AreSmallSteps
steps_append [] [] zs ws e steps rest = rest
steps_append [] (y ∷ ys) zs ws e steps rest = absurd (omega arith)
steps_append (x ∷ xs) [] zs ws e steps rest = absurd (omega arith)
steps_append (x ∷ xs) (y ∷ ys) zs ws e (step, steps) rest = (step, steps_append xs ys zs ws (omega arith) steps rest)

-- the first m, and those from one of them on
pub steps_cover :
    (m from : ℕ) (xs ys : List ℕ) → from ≤ m → AreSmallSteps (take m xs) (take m ys) → AreSmallSteps (drop from xs) (drop from ys) →
    AreSmallSteps xs ys
unfolding AreSmallSteps
steps_cover m zero xs ys h first last = last
steps_cover zero (suc from) xs ys h first last = absurd (omega arith)
steps_cover (suc m) (suc from) [] ys h first last = tt
steps_cover (suc m) (suc from) (x ∷ xs) [] h first last = tt
steps_cover (suc m) (suc from) (x ∷ xs) (y ∷ ys) h (step, first) last = (step, steps_cover m from xs ys (omega arith) first last)

-- no block is left
pub steps_done :
    (blocks next_blocks : List (List ℕ)) → (length blocks ≡ 0) ⊎ (length next_blocks ≡ 0) → AreSmallSteps (concat blocks) (concat next_blocks)
unfolding AreSmallSteps
steps_done [] bs h = tt
steps_done (a ∷ rest) [] h = none_laid (concat (a ∷ rest)) [] (inr refl)
steps_done (a ∷ rest) (b ∷ bs) (inl h) = absurd (omega arith)
steps_done (a ∷ rest) (b ∷ bs) (inr h) = absurd (omega arith)

steps_suc :
    (k : ℕ) (xs ys : List ℕ) → SmallStep (get_or xs k 0) (get_or ys k 0) → AreSmallSteps (take k xs) (take k ys) →
    AreSmallSteps (take (suc k) xs) (take (suc k) ys)
unfolding AreSmallSteps
steps_suc k [] ys step steps = tt
steps_suc k (x ∷ xs) [] step steps = tt
steps_suc zero (x ∷ xs) (y ∷ ys) step steps = (step, tt)
steps_suc (suc k) (x ∷ xs) (y ∷ ys) step (first, steps) = (first, steps_suc k xs ys step steps)

-- ---- a block laid over words

-- what is laid over a word leaves no word above what it was
laid_below :
    (words : List ℕ) (k step j : ℕ) → get_or (set words k (bit_and (get_or words k 0) step)) j 0 ≤ get_or words j 0
laid_below [] k step j = le_refl _
laid_below (w ∷ words) zero step zero = and_le_l w step
laid_below (w ∷ words) zero step (suc j) = le_refl _
laid_below (w ∷ words) (suc k) step zero = le_refl _
laid_below (w ∷ words) (suc k) step (suc j) = laid_below words k step j

-- and that word not above what is laid
laid_here :
    (words : List ℕ) (k step : ℕ) → k < length words → get_or (set words k (bit_and (get_or words k 0) step)) k 0 ≤ step
laid_here [] k step h = absurd (omega arith)
laid_here (w ∷ words) zero step h = and_le_r w step
laid_here (w ∷ words) (suc k) step h = laid_here words k step (omega arith)

pub steps_start : AreSmallSteps [] []
unfolding AreSmallSteps
steps_start = tt

-- k steps have been laid, and then one more
pub step_laid :
    (words₀ words xs ys : List ℕ) (k : ℕ) → k < length words → get_or xs k 0 < 2 ^ 32 → get_or ys k 0 < 2 ^ 32 →
    (AreSmallBack words → AreSmallBack words₀ × AreSmallSteps (take k xs) (take k ys)) →
    AreSmallBack (set words k (bit_and (get_or words k 0) ((get_or xs k 0 + (2 ^ 32 - get_or ys k 0)) % 2 ^ 32))) →
    AreSmallBack words₀ × AreSmallSteps (take (k + 1) xs) (take (k + 1) ys)
step_laid words₀ words xs ys k room fits fits' before small =
    let step : ℕ = (get_or xs k 0 + (2 ^ 32 - get_or ys k 0)) % 2 ^ 32 in
    let long = length-set words k (bit_and (get_or words k 0) step) in
    let (start, steps) = before (λ j g. le_trans (small j (omega (arith, long))) (laid_below words k step j)) in
    let here : small_back ≤ step = le_trans (small k (omega (arith, long))) (laid_here words k step room) in
    rw add-one (start, steps_suc k xs ys (small_step (get_or xs k 0) (get_or ys k 0) fits fits' here) steps)

-- ---- what words have in common

-- no word so far is below it, and then one more
pub common_more :
    (words : List ℕ) (common k : ℕ) → ((j : ℕ) → j < k → common ≤ get_or words j 0) →
    (j : ℕ) → j < k + 1 → bit_and common (get_or words k 0) ≤ get_or words j 0
common_more words common k v j h =
    (elim (ltb j k) as (λ t. ltb j k ≡ t → bit_and common (get_or words k 0) ≤ get_or words j 0) [
      | true ↦ λ e. le_trans (and_le_l common (get_or words k 0)) (v j (ltb-true j k e))
      | false ↦ λ e.
          let above : k ≤ j = ltb-false j k e in
          let here : j ≡ k = omega arith in
          rw here (and_le_r common (get_or words k 0))
    ]) refl

-- ---- one by one

-- the step from x to y has been laid
pub one_laid :
    (back x y : ℕ) (xs ys : List ℕ) → x < 2 ^ 32 → y < 2 ^ 32 → small_back ≤ bit_and back ((x + (2 ^ 32 - y)) % 2 ^ 32) →
    AreSmallSteps xs ys → AreSmallSteps (x ∷ xs) (y ∷ ys)
unfolding AreSmallSteps
one_laid back x y xs ys fits fits' small steps =
    (small_step x y fits fits' (le_trans small (and_le_r back ((x + (2 ^ 32 - y)) % 2 ^ 32))), steps)
