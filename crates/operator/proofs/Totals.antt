-- What a meter holds after readings were added: the old count and the number of its values, the old sum and their sum, and the last of
-- them. The laws are those of a run of values, carried over by `add_all_meter`.
use Prim.Native.Nat.{ℕ, ◌+◌, ◌<◌}
use mathlib.Core.Path.{◌≡◌, refl, sym, ◌∙◌, ap}
use mathlib.Core.Bool.{true}
use mathlib.Core.List.{List, [], ◌∷◌, ◌++◌}
use native.Mathlib.Omega.{arith}
use lib.IntN.{ℤ, ◌+ℤ◌, +ℤ_idr, +ℤ_assoc}
use lib.ListN.{length}
use Rattle.settings.specs.declared.Settings.{Settings}
use Rattle.store.specs.Order.{Placed}
use Rattle.operator_meter.specs.declared.Meter.{Meter}
use Rattle.operator.specs.Meters.{Operator, add_all}
use Rattle.operator_meter.specs.Values.{with_value}
use Rattle.operator.proofs.Values.{counts_for, values_of, total, last_or, count_of, sum_of, values_of_append, last_or_end}
use Rattle.operator.proofs.Adding.{meter_of, with_values, add_all_meter}

values_count : (vs : List ℤ) (m : Meter) → (with_values vs m).count ≡ m.count + length vs
unfolding with_values with_value
values_count [] m = omega arith
values_count (v ∷ vs) m = omega (arith, values_count vs (with_value v m))

values_sum : (vs : List ℤ) (m : Meter) → (with_values vs m).sum ≡ m.sum +ℤ total vs
unfolding with_values with_value total
values_sum [] m = sym (+ℤ_idr m.sum)
values_sum (v ∷ vs) m = values_sum vs (with_value v m) ∙ +ℤ_assoc m.sum v (total vs)

values_last : (vs : List ℤ) (m : Meter) → (with_values vs m).last ≡ last_or m.last vs
unfolding with_values with_value last_or
values_last [] m = refl
values_last (v ∷ vs) m = values_last vs (with_value v m)

module _ (s : Settings) (o : Operator) (rs : List Placed) (i : ℕ) (h : i < length o.meters) where
  pub add_all_count : (meter_of (add_all s o rs) i).count ≡ (meter_of o i).count + count_of s i rs
  unfolding count_of
  add_all_count = ap (λ (m : Meter). m.count) (add_all_meter s o rs i h) ∙ values_count (values_of s i rs) (meter_of o i)

  pub add_all_sum : (meter_of (add_all s o rs) i).sum ≡ (meter_of o i).sum +ℤ sum_of s i rs
  unfolding sum_of
  add_all_sum = ap (λ (m : Meter). m.sum) (add_all_meter s o rs i h) ∙ values_sum (values_of s i rs) (meter_of o i)

  pub add_all_last : (meter_of (add_all s o rs) i).last ≡ last_or (meter_of o i).last (values_of s i rs)
  add_all_last = ap (λ (m : Meter). m.last) (add_all_meter s o rs i h) ∙ values_last (values_of s i rs) (meter_of o i)

  -- where none of the readings counts, the old one stays
  pub add_all_last_stays : values_of s i rs ≡ [] → (meter_of (add_all s o rs) i).last ≡ (meter_of o i).last
  unfolding last_or
  add_all_last_stays e = add_all_last ∙ ap (last_or (meter_of o i).last) e

-- the value of the last reading that counts, with none behind it
pub add_all_last_reading : (s : Settings) (o : Operator) (rs qs : List Placed) (r : Placed) (i : ℕ) → i < length o.meters → counts_for s i r ≡ true → values_of s i qs ≡ [] → (meter_of (add_all s o (rs ++ r ∷ qs)) i).last ≡ r.reading.value
unfolding values_of
add_all_last_reading s o rs qs r i h c e =
    add_all_last s o (rs ++ r ∷ qs) i h ∙
    ap (last_or (meter_of o i).last) (values_of_append s i rs (r ∷ qs) ∙ ap (λ (vs : List ℤ). values_of s i rs ++ vs) (rw (c, e))) ∙
    last_or_end (meter_of o i).last r.reading.value (values_of s i rs)
