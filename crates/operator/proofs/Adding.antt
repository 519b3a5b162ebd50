-- Readings added: the numbering and the number of meters stay, runs of readings follow one another, and each meter takes the values of its
-- own readings and no others. A reading changes one place of the list, which is read at that place or at another.
use Prim.Native.Nat.{ℕ, ◌<◌}
use mathlib.Core.Path.{◌≡◌, refl, sym, ◌∙◌, ap}
use mathlib.Core.Bool.{true, false, cond, ◌&&◌}
use mathlib.Core.List.{List, [], ◌∷◌, ◌++◌}
use lib.Dec.{eqb}
use lib.IntN.{ℤ}
use lib.ListN.{length, get_or, set, length-set}
use lib.Seq.{get_or-set_same, get_or-set_other}
use borrow.Author.Tests.{eqb-true, eqb-false}
use Rattle.settings.specs.declared.Settings.{Settings}
use Rattle.store.specs.declared.Reading.{Reading}
use Rattle.store.specs.Order.{Placed}
use Rattle.operator_meter.specs.declared.Meter.{Meter}
use Rattle.operator.specs.Meters.{Operator, add, add_all}
use Rattle.operator_meter.specs.Values.{no_meter, with_value, is_counted}
use Rattle.operator.proofs.Values.{counts_for, values_of}

-- meter number i
unfoldable pub meter_of : Operator → ℕ → Meter
meter_of o i = get_or o.meters i no_meter

-- a meter with values more, one after the other
unfoldable pub with_values : List ℤ → Meter → Meter
with_values [] m = m
with_values (v ∷ vs) m = with_values vs (with_value v m)

add_number : (s : Settings) (o : Operator) (r : Reading) → (add s o r).number ≡ o.number
unfolding add
add_number s o r =
    elim (is_counted s r.value) as
    (λ b. (cond b (record { meters = set o.meters r.meter (with_value r.value (get_or o.meters r.meter no_meter)); number = o.number }) o).number ≡ o.number) [
      | true ↦ refl
      | false ↦ refl
    ]

pub add_length : (s : Settings) (o : Operator) (r : Reading) → length (add s o r).meters ≡ length o.meters
unfolding add
add_length s o r =
    elim (is_counted s r.value) as
    (λ b. length (cond b (record { meters = set o.meters r.meter (with_value r.value (get_or o.meters r.meter no_meter)); number = o.number }) o).meters ≡ length o.meters) [
      | true ↦ length-set o.meters r.meter _
      | false ↦ refl
    ]

pub add_all_number : (s : Settings) (o : Operator) (rs : List Placed) → (add_all s o rs).number ≡ o.number
unfolding add_all
add_all_number s o [] = refl
add_all_number s o (r ∷ rs) = add_all_number s (add s o r.reading) rs ∙ add_number s o r.reading

pub add_all_length : (s : Settings) (o : Operator) (rs : List Placed) → length (add_all s o rs).meters ≡ length o.meters
unfolding add_all
add_all_length s o [] = refl
add_all_length s o (r ∷ rs) = add_all_length s (add s o r.reading) rs ∙ add_length s o r.reading

pub add_all_append : (s : Settings) (o : Operator) (rs qs : List Placed) → add_all s o (rs ++ qs) ≡ add_all s (add_all s o rs) qs
unfolding add_all
add_all_append s o [] qs = refl
add_all_append s o (r ∷ rs) qs = add_all_append s (add s o r.reading) rs qs

-- one place of the list set, read at any place
pub set_read : {A : Type 0} (xs : List A) (m i : ℕ) (d : A) (f : ℕ → A) → i < length xs → get_or (set xs m (f m)) i d ≡ cond (eqb m i) (f i) (get_or xs i d)
set_read xs m i d f h =
    (elim (eqb m i) as (λ b. eqb m i ≡ b → get_or (set xs m (f m)) i d ≡ cond b (f i) (get_or xs i d)) [
      | true ↦ λ e. rw (eqb-true m i e) (get_or-set_same xs i (f i) d h)
      | false ↦ λ e. get_or-set_other xs m i (f m) d (λ q. eqb-false m i e (sym q))
    ])
    refl

pub add_meter : (s : Settings) (o : Operator) (r : Placed) (i : ℕ) → i < length o.meters → meter_of (add s o r.reading) i ≡ cond (counts_for s i r) (with_value r.reading.value (meter_of o i)) (meter_of o i)
unfolding meter_of add counts_for
add_meter s o r i h =
    elim (is_counted s r.reading.value) as
    (λ b.
    get_or
    (cond b
    (record {
      meters = set o.meters r.reading.meter (with_value r.reading.value (get_or o.meters r.reading.meter no_meter));
      number = o.number;
    })
    o).meters
    i
    no_meter ≡
    cond (b && eqb r.reading.meter i) (with_value r.reading.value (get_or o.meters i no_meter)) (get_or o.meters i no_meter)) [
      | true ↦ set_read o.meters r.reading.meter i no_meter (λ (j : ℕ). with_value r.reading.value (get_or o.meters j no_meter)) h
      | false ↦ refl
    ]

pub add_all_meter : (s : Settings) (o : Operator) (rs : List Placed) (i : ℕ) → i < length o.meters → meter_of (add_all s o rs) i ≡ with_values (values_of s i rs) (meter_of o i)
unfolding add_all values_of with_values
add_all_meter s o [] i h = refl
add_all_meter s o (r ∷ rs) i h =
    add_all_meter s (add s o r.reading) rs i (rw (add_length s o r.reading) h) ∙
    ap (with_values (values_of s i rs)) (add_meter s o r i h) ∙
    elim (counts_for s i r) as
    (λ b.
    with_values (values_of s i rs) (cond b (with_value r.reading.value (meter_of o i)) (meter_of o i)) ≡
    with_values (cond b (r.reading.value ∷ values_of s i rs) (values_of s i rs)) (meter_of o i)) [
      | true ↦ refl
      | false ↦ refl
    ]
