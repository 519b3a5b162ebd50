-- A share closed up, reading by reading. After i readings the first places hold those that stay, and the places behind them, up to the
-- i-th, are zeroed: a reading that is taken out makes the zeroed run longer by its place, and one that stays takes the first zeroed place.
use mathlib.Core.Path.{◌≡◌, refl, sym, ap, ◌∙◌}
use mathlib.Core.Bool.{Bool, true, false, cond}
use mathlib.Core.List.{List, [], ◌∷◌, ◌++◌, append_assoc, append-nil}
use Prim.Native.Nat.{ℕ, suc, ◌+◌, ◌-◌, ◌<◌, ◌≤◌}
use native.Mathlib.Omega.{arith}
use lib.ListN.{length, get_or, set, take, drop, replicate, length-append, length-replicate, length-drop}
use lib.Seq.{sets, take-suc, get_or-drop}
use Rattle.store.specs.Lists.{keep}
use Rattle.store.specs.Parts.{share}
use Rattle.store.proofs.Keeping.{keep_append, length_keep_share}
use Rattle.store.proofs.Runs.{sets_sets, get_d_behind_sets}
use Rattle.store_slots.proofs.Runs.{set_within_sets, replicate_more}

module _ {A : Type 0} (test : A → Bool) where
  keep_one : (x : A) → keep test (x ∷ []) ≡ cond (test x) (x ∷ []) []
  unfolding keep
  keep_one x = refl

  module _ (blank : A) (base : ℕ) (ys : List A) where
    -- those of the first i readings that stay
    abbrev pub kept : ℕ → List A
    kept i = keep test (share base i ys)

    -- the list where i readings have been looked at
    abbrev pub closed_run : ℕ → List A
    closed_run i = sets ys base (kept i ++ replicate (i - length (kept i)) blank)

    pub kept_at_most : (i : ℕ) → length (kept i) ≤ i
    kept_at_most i = length_keep_share test base i ys

    length_run : (i : ℕ) → length (kept i ++ replicate (i - length (kept i)) blank) ≡ i
    length_run i = omega (arith, length-append (kept i) (replicate (i - length (kept i)) blank), length-replicate (i - length (kept i)) blank, kept_at_most i)

    -- the next reading is still in its place
    closed_next : (i : ℕ) → get_or (closed_run i) (base + i) blank ≡ get_or ys (base + i) blank
    closed_next i = get_d_behind_sets (kept i ++ replicate (i - length (kept i)) blank) ys base (base + i) blank (omega (arith, length_run i))

    share_more : (i : ℕ) → base + i < length ys → share base (suc i) ys ≡ share base i ys ++ (get_or ys (base + i) blank ∷ [])
    unfolding share
    share_more i h =
        take-suc (drop base ys) i blank (omega (arith, length-drop base ys)) ∙ ap (λ (x : A). take i (drop base ys) ++ (x ∷ [])) (get_or-drop base ys i blank)

    kept_more : (i : ℕ) → base + i < length ys → kept (suc i) ≡ kept i ++ cond (test (get_or ys (base + i) blank)) (get_or ys (base + i) blank ∷ []) []
    kept_more i h =
        ap (keep test) (share_more i h) ∙ keep_append test (share base i ys) (get_or ys (base + i) blank ∷ []) ∙ ap (λ (l : List A). kept i ++ l) (keep_one (get_or ys (base + i) blank))

    kept_goes : (i : ℕ) → base + i < length ys → test (get_or ys (base + i) blank) ≡ false → kept (suc i) ≡ kept i
    kept_goes i h e = kept_more i h ∙ ap (λ (b : Bool). kept i ++ cond b (get_or ys (base + i) blank ∷ []) []) e ∙ append-nil (kept i)

    kept_stays : (i : ℕ) → base + i < length ys → test (get_or ys (base + i) blank) ≡ true → kept (suc i) ≡ kept i ++ (get_or ys (base + i) blank ∷ [])
    kept_stays i h e = kept_more i h ∙ ap (λ (b : Bool). kept i ++ cond b (get_or ys (base + i) blank ∷ []) []) e

    -- a reading is taken out of its place
    taken : (i : ℕ) → set (closed_run i) (base + i) blank ≡ sets ys base (kept i ++ replicate (suc i - length (kept i)) blank)
    taken i =
        let k = length (kept i) in
        let one_more : suc (i - k) ≡ suc i - k = omega (arith, kept_at_most i) in
        sets_sets (kept i ++ replicate (i - k) blank) (blank ∷ []) ys base (base + i) (omega (arith, length_run i))
        ∙ ap (sets ys base) (append_assoc (kept i) (replicate (i - k) blank) (blank ∷ []) ∙ ap (λ (l : List A). kept i ++ l) (replicate_more (i - k) blank ∙ ap (λ (m : ℕ). replicate m blank) one_more))

    -- before the first reading
    kept_none : kept 0 ≡ []
    unfolding keep share
    kept_none = refl

    pub closed_none : ys ≡ closed_run 0
    closed_none = ap (λ (l : List A). sets ys base (l ++ replicate (0 - length l) blank)) (sym kept_none)

    pub count_none : 0 ≡ length (kept 0)
    count_none = ap length (sym kept_none)

    module _ (i : ℕ) (within : base + i < length ys) where
      -- the reading that is looked at, and the list without it
      abbrev pub looked : A
      looked = get_or (closed_run i) (base + i) blank

      abbrev pub emptied : List A
      emptied = set (closed_run i) (base + i) blank

      pub closed_goes : test looked ≡ false → emptied ≡ closed_run (suc i)
      closed_goes e =
          taken i ∙ ap (λ (l : List A). sets ys base (l ++ replicate (suc i - length l) blank)) (sym (kept_goes i within (ap test (sym (closed_next i)) ∙ e)))

      pub count_goes : test looked ≡ false → length (kept i) ≡ length (kept (suc i))
      count_goes e = ap length (sym (kept_goes i within (ap test (sym (closed_next i)) ∙ e)))

      -- a reading that stays goes to the first place that is free
      pub closed_stays : test looked ≡ true → set emptied (base + length (kept i)) looked ≡ closed_run (suc i)
      closed_stays e =
          let r = get_or ys (base + i) blank in
          let k = length (kept i) in
          let one_more : suc i - k ≡ suc (i - k) = omega (arith, kept_at_most i) in
          let rest : i - k ≡ suc i - length (kept i ++ (r ∷ [])) = omega (arith, length-append (kept i) (r ∷ [])) in
          ap (λ (x : A). set emptied (base + k) x) (closed_next i)
          ∙ ap (λ (l : List A). set l (base + k) r) (taken i ∙ ap (λ (m : ℕ). sets ys base (kept i ++ replicate m blank)) one_more)
          ∙ set_within_sets (kept i) blank r (replicate (i - k) blank) ys base (base + k) refl
          ∙ ap (sets ys base) (sym (append_assoc (kept i) (r ∷ []) (replicate (i - k) blank)) ∙ ap (λ (m : ℕ). kept i ++ (r ∷ []) ++ replicate m blank) rest)
          ∙ ap (λ (l : List A). sets ys base (l ++ replicate (suc i - length l) blank)) (sym (kept_stays i within (ap test (sym (closed_next i)) ∙ e)))

      pub count_stays : test looked ≡ true → length (kept i) + 1 ≡ length (kept (suc i))
      count_stays e =
          let r = get_or ys (base + i) blank in
          omega (arith, length-append (kept i) (r ∷ []), ap length (kept_stays i within (ap test (sym (closed_next i)) ∙ e)))

    -- a turn at a place, by what is known of the list and of the place that is free before it, and of the reading that is taken out
    module _
        (i at to next : ℕ) (l : List A) (here : at ≡ base + i) (then : next ≡ suc i) (within : at < length ys)
        (e : to ≡ base + length (kept i)) (f : l ≡ closed_run i) (r left : A) (out : r ≡ get_or l at blank) (gone : left ≡ blank) where
      pub turn_stays : test r ≡ true → (to + 1 ≡ base + length (kept next)) × (set (set l at left) to r ≡ closed_run next)
      turn_stays t =
          let told = rw (out, here, f) at t in
          let inside : base + i < length ys = omega arith in
          rw (out, gone, then, here, e, f) (omega (arith, count_stays i inside told), closed_stays i inside told)

      pub turn_goes : test r ≡ false → (to ≡ base + length (kept next)) × (set l at left ≡ closed_run next)
      turn_goes t =
          let told = rw (out, here, f) at t in
          let inside : base + i < length ys = omega arith in
          rw (gone, then, here, e, f) (omega (arith, count_goes i inside told), closed_goes i inside told)
