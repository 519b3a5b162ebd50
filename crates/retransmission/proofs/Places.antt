-- The store's places as results are laid, given up and fetched: what they should be is the results behind number n laid over empty places,
-- one behind the other, at most 512 of them.
use Prim.Native.Nat.{ℕ, zero, suc, ◌+◌, ◌-◌, ◌%◌, ◌≤◌, ◌<◌}
use mathlib.Core.Path.{◌≡◌, refl, sym, ◌∙◌, ap, ap₂, subst}
use mathlib.Core.Bool.{true, ◌&&◌}
use mathlib.Core.List.{List, [], ◌∷◌, ◌++◌, map}
use native.Mathlib.Omega.{arith}
use lib.ListN.{length, set, get_or, take, drop, replicate, length-set}
use lib.Seq.{set_comm, set-set, set-get_or, get_or-set_same, get_or-set_other, drop-cons}
use Rattle.record.specs.Fields.{fields_of}
use Rattle.retransmission.specs.Sizes.{held_results}
use Rattle.retransmission.specs.Places.{place_of, empty_place, given_up, held_behind, place_ok, places_ok}
unfoldable pub use Rattle.retransmission.specs.Places.{held_over}

module _ {A : Type 0} where
  get_d_same : (n i : ℕ) (a : A) → get_or (replicate n a) i a ≡ a
  get_d_same zero i a = refl
  get_d_same (suc n) zero a = refl
  get_d_same (suc n) (suc i) a = get_d_same n i a

  -- more of them
  pub held_append : (ps : List A) (n : ℕ) (xs ys : List A) → held_over ps n (xs ++ ys) ≡ held_over (held_over ps n xs) (n + length xs) ys
  unfolding held_over
  held_append ps n [] ys = let e : n + 0 ≡ n = omega arith in rw e
  held_append ps n (x ∷ xs) ys =
      let e : suc n + length xs ≡ n + suc (length xs) = omega arith in
      held_append (set ps (n % held_results) x) (suc n) xs ys ∙
      ap (λ (m : ℕ). held_over (held_over (set ps (n % held_results) x) (suc n) xs) m ys) e

  -- a place that none of them has is set before or after
  set_held :
      (ps : List A) (m n : ℕ) (z : A) (xs : List A) → m < n → n + length xs ≤ m + held_results →
      set (held_over ps n xs) (m % held_results) z ≡ held_over (set ps (m % held_results) z) n xs
  unfolding held_over
  set_held ps m n z [] h g = refl
  set_held ps m n z (x ∷ xs) h g =
      set_held (set ps (n % held_results) x) m (suc n) z xs (omega arith) (omega arith) ∙
      ap (λ (c : List A). held_over c (suc n) xs) (set_comm ps (n % held_results) (m % held_results) x z (λ e. omega arith))

  -- the oldest is given up
  pub give_up :
      (empty : A) (n : ℕ) (x : A) (xs : List A) → length xs < held_results →
      set (held_over (replicate held_results empty) n (x ∷ xs)) (n % held_results) empty ≡ held_over (replicate held_results empty) (suc n) xs
  unfolding held_over
  give_up empty n x xs h =
      set_held (set (replicate held_results empty) (n % held_results) x) n (suc n) empty xs (omega arith) (omega arith) ∙
      ap (λ (c : List A). held_over c (suc n) xs)
      (set-set (replicate held_results empty) (n % held_results) x empty ∙
      ap (set (replicate held_results empty) (n % held_results)) (sym (get_d_same held_results (n % held_results) empty)) ∙
      set-get_or (replicate held_results empty) (n % held_results) empty)

  pub length_held : (ps : List A) (n : ℕ) (xs : List A) → length (held_over ps n xs) ≡ length ps
  unfolding held_over
  length_held ps n [] = refl
  length_held ps n (x ∷ xs) = length_held (set ps (n % held_results) x) (suc n) xs ∙ length-set ps (n % held_results) x

  -- one laid later leaves an earlier place alone
  others :
      (ps : List A) (m n : ℕ) (d : A) (xs : List A) → m < n → n + length xs ≤ m + held_results →
      get_or (held_over ps n xs) (m % held_results) d ≡ get_or ps (m % held_results) d
  unfolding held_over
  others ps m n d [] h g = refl
  others ps m n d (x ∷ xs) h g =
      others (set ps (n % held_results) x) m (suc n) d xs (omega arith) (omega arith) ∙
      get_or-set_other ps (n % held_results) (m % held_results) x d (λ e. omega arith)

  -- each stands at its place
  pub found :
      (ps : List A) (n i : ℕ) (d : A) (xs : List A) → length ps ≡ held_results → i < length xs → length xs ≤ held_results →
      get_or (held_over ps n xs) ((n + i) % held_results) d ≡ get_or xs i d
  unfolding held_over
  found ps n i d [] size h g = absurd (omega arith)
  found ps n zero d (x ∷ xs) size h g =
      let e : n + 0 ≡ n = omega arith in
      ap (λ (m : ℕ). get_or (held_over (set ps (n % held_results) x) (suc n) xs) (m % held_results) d) e ∙
      others (set ps (n % held_results) x) n (suc n) d xs (omega arith) (omega arith) ∙
      get_or-set_same ps (n % held_results) x d (omega arith)
  found ps n (suc i) d (x ∷ xs) size h g =
      let e : n + suc i ≡ suc n + i = omega arith in
      ap (λ (m : ℕ). get_or (held_over (set ps (n % held_results) x) (suc n) xs) (m % held_results) d) e ∙
      found (set ps (n % held_results) x) (suc n) i d xs (length-set ps (n % held_results) x ∙ size) (omega arith) (omega arith)

  -- a place that is none of theirs is as it was
  pub untouched :
      (ps : List A) (n i : ℕ) (d : A) (xs : List A) → ((m : ℕ) → n ≤ m → m < n + length xs → m % held_results ≡ i → ⊥) →
      get_or (held_over ps n xs) i d ≡ get_or ps i d
  unfolding held_over
  untouched ps n i d [] h = refl
  untouched ps n i d (x ∷ xs) h =
      untouched (set ps (n % held_results) x) (suc n) i d xs (λ m a b e. h m (omega arith) (omega arith) e) ∙
      get_or-set_other ps (n % held_results) i x d (λ e. h n (omega arith) (omega arith) (sym e))

-- ---- as the definitions do it

one_back : (n : ℕ) → suc n - 1 ≡ n
one_back n = omega arith

pub place_behind : (n : ℕ) → place_of (suc n) ≡ n % held_results
unfolding place_of
place_behind n = ap (λ (m : ℕ). m % held_results) (one_back n)

-- the results up to number n + k are given up
pub given_up_lem :
    (n k : ℕ) (xs : List (List ℕ)) → k ≤ length xs → length xs ≤ held_results →
    given_up (held_over (replicate held_results empty_place) n xs) n k ≡ held_over (replicate held_results empty_place) (n + k) (drop k xs)
unfolding given_up
given_up_lem n zero xs h g = let e : n + 0 ≡ n = omega arith in rw e
given_up_lem n (suc k) [] h g = absurd (omega arith)
given_up_lem n (suc k) (x ∷ xs) h g =
    let e : suc n + k ≡ n + suc k = omega arith in
    ap (λ (ps : List (List ℕ)). given_up ps (suc n) k)
    (ap (λ (i : ℕ). set (held_over (replicate held_results empty_place) n (x ∷ xs)) i empty_place) (place_behind n) ∙
    give_up empty_place n x xs (omega arith)) ∙
    given_up_lem (suc n) k xs (omega arith) (omega arith) ∙
    ap (λ (m : ℕ). held_over (replicate held_results empty_place) m (drop k xs)) e

-- the results behind number n + i, k of them, are found
pub found_behind :
    (ps : List (List ℕ)) (n i k : ℕ) (xs : List (List ℕ)) →
    length ps ≡ held_results → i + k ≤ length xs → length xs ≤ held_results →
    held_behind (held_over ps n xs) (n + i) k ≡ map fields_of (take k (drop i xs))
unfolding held_behind
found_behind ps n i zero xs size h g = refl
found_behind ps n i (suc k) xs size h g =
    let e : suc (n + i) ≡ n + suc i = omega arith in
    ap₂ ◌∷◌
    (ap fields_of (ap (λ (m : ℕ). get_or (held_over ps n xs) m []) (place_behind (n + i)) ∙ found ps n i [] xs size (omega arith) g))
    (ap (λ (m : ℕ). held_behind (held_over ps n xs) m k) e ∙ found_behind ps n (suc i) k xs size (omega arith) g) ∙
    ap (λ (bs : List (List ℕ)). map fields_of (take (suc k) bs)) (sym (drop-cons xs i [] (omega arith)))

-- every held place passes its test where each result does
abbrev Passes : List (List ℕ) → ℕ → Type 0
Passes ps n = place_ok (suc n) (get_or ps (n % held_results) []) ≡ true

pub places_pass :
    (ps : List (List ℕ)) (n k : ℕ) →
    ((i : ℕ) → i < k → place_ok (suc (n + i)) (get_or ps ((n + i) % held_results) []) ≡ true) → places_ok ps n k ≡ true
unfolding places_ok
places_pass ps n zero h = refl
places_pass ps n (suc k) h =
    let none : n + 0 ≡ n = omega arith in
    let next : (i : ℕ) → n + suc i ≡ suc n + i = λ i. omega arith in
    ap₂ ◌&&◌ (ap (λ (m : ℕ). place_ok (suc n) (get_or ps m [])) (place_behind n) ∙ subst (Passes ps) none (h 0 (omega arith)))
    (places_pass ps (suc n) k (λ i l. subst (Passes ps) (next i) (h (suc i) (omega arith))))
