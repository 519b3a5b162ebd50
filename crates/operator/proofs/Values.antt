-- The values that a run of readings brings to one meter, in order, with their number, sum and last: what a meter is to hold. A run of
-- readings behind another brings its values behind the other's, and number and sum do not mind the order. Sums are amounts that add up;
-- the other laws go by the list.
use Prim.Native.Nat.{ℕ}
use mathlib.Core.Path.{◌≡◌, refl, ap}
use mathlib.Core.Bool.{Bool, true, false, cond, ◌&&◌}
use mathlib.Core.List.{List, [], ◌∷◌, ◌++◌, foldr, map}
use lib.Dec.{eqb}
use lib.IntN.{ℤ, pos, ◌+ℤ◌, +ℤ_idr, +ℤ_assoc, +ℤ_comm}
use lib.ListN.{length}
use Rattle.settings.specs.declared.Settings.{Settings}
use Rattle.store.specs.declared.Reading.{Reading}
use Rattle.store.specs.Lists.{keep}
use Rattle.store.specs.Order.{Placed}
use Rattle.store.specs.Sorted.{Permutation}
use Rattle.store.proofs.Choices.{cond_map}
use Rattle.store.proofs.Amounts.{CommutativeMonoid}
use Rattle.store.proofs.Amounts as amounts
use Rattle.store.proofs.Permutations.{length_permuted, keep_permuted, map_permuted}
use Rattle.operator_meter.specs.Values.{is_counted}

-- a reading of meter i with a value that is not dropped
abbrev pub counts : Settings → ℕ → Reading → Bool
counts s i r = is_counted s r.value && eqb r.meter i

unfoldable pub counts_for : Settings → ℕ → Placed → Bool
counts_for s i r = counts s i r.reading

-- the values of these readings
unfoldable pub values_of : Settings → ℕ → List Placed → List ℤ
values_of s i [] = []
values_of s i (r ∷ rs) = cond (counts_for s i r) (r.reading.value ∷ values_of s i rs) (values_of s i rs)

unfoldable pub total : List ℤ → ℤ
total = foldr ◌+ℤ◌ (pos 0)

-- the last of these, or the first argument where there is none
unfoldable pub last_or : ℤ → List ℤ → ℤ
last_or old [] = old
last_or old (v ∷ vs) = last_or v vs

unfoldable pub count_of : Settings → ℕ → List Placed → ℕ
count_of s i rs = length (values_of s i rs)

unfoldable pub sum_of : Settings → ℕ → List Placed → ℤ
sum_of s i rs = total (values_of s i rs)

pub values_of_append : (s : Settings) (i : ℕ) (rs qs : List Placed) → values_of s i (rs ++ qs) ≡ values_of s i rs ++ values_of s i qs
unfolding values_of
values_of_append s i [] qs = refl
values_of_append s i (r ∷ rs) qs =
    elim (counts_for s i r) as
    (λ b.
    cond b (r.reading.value ∷ values_of s i (rs ++ qs)) (values_of s i (rs ++ qs)) ≡
    cond b (r.reading.value ∷ values_of s i rs) (values_of s i rs) ++ values_of s i qs) [
      | true ↦ ap (λ (vs : List ℤ). r.reading.value ∷ vs) (values_of_append s i rs qs)
      | false ↦ values_of_append s i rs qs
    ]

-- sums are amounts that add up
sums : CommutativeMonoid ℤ
sums = record { none = pos 0; plus = ◌+ℤ◌; plus_none = +ℤ_idr; plus_assoc = +ℤ_assoc; plus_comm = +ℤ_comm }

-- the last one is the last one
pub last_or_end : (old v : ℤ) (vs : List ℤ) → last_or old (vs ++ v ∷ []) ≡ v
unfolding last_or
last_or_end old v [] = refl
last_or_end old v (w ∷ ws) = last_or_end w v ws

-- ---- in any order

values_kept :
    (s : Settings) (i : ℕ) (rs : List Placed) → values_of s i rs ≡ map (λ (r : Placed). r.reading.value) (keep (counts_for s i) rs)
unfolding values_of keep
values_kept s i [] = refl
values_kept s i (r ∷ rs) =
    rw (values_kept s i rs)
    (cond_map (map (λ (a : Placed). a.reading.value)) (counts_for s i r) (r ∷ keep (counts_for s i) rs) (keep (counts_for s i) rs))

values_of_permuted : (s : Settings) (i : ℕ) {rs qs : List Placed} → Permutation rs qs → Permutation (values_of s i rs) (values_of s i qs)
values_of_permuted s i {rs} {qs} p =
    rw (values_kept s i rs, values_kept s i qs) (map_permuted (λ (r : Placed). r.reading.value) (keep_permuted (counts_for s i) p))

total_permuted : {vs ws : List ℤ} → Permutation vs ws → total vs ≡ total ws
unfolding total sums
total_permuted p = amounts.total_permuted sums (λ v. v) p

pub count_of_permuted : (s : Settings) (i : ℕ) {rs qs : List Placed} → Permutation rs qs → count_of s i rs ≡ count_of s i qs
unfolding count_of
count_of_permuted s i p = length_permuted (values_of_permuted s i p)

pub sum_of_permuted : (s : Settings) (i : ℕ) {rs qs : List Placed} → Permutation rs qs → sum_of s i rs ≡ sum_of s i qs
unfolding sum_of
sum_of_permuted s i p = total_permuted (values_of_permuted s i p)
