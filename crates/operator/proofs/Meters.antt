-- What holds of every meter while readings are added. A law on meters that may grow with each reading is carried along the list; two
-- instances: the last value fits 32 bits, and the sum stays in the range of a count that grows by at most one a reading.
use Prim.Native.Nat.{ℕ, suc, ◌+◌, ◌<◌, ◌^◌}
use mathlib.Core.Path.{◌≡◌}
use mathlib.Core.Bool.{true, false, cond}
use mathlib.Core.List.{List, [], ◌∷◌}
use native.Mathlib.Omega.{arith}
use native.Mathlib.Nat.{add-zero}
use lib.IntN.{ℤ}
use lib.ListN.{length, get_or, set}
use lib.Signed.{mag}
use Rattle.settings.specs.declared.Settings.{Settings}
use Rattle.store.specs.declared.Reading.{Reading}
use Rattle.store.specs.Order.{Placed}
use Rattle.store.proofs.Pairs.{every_to}
use Rattle.store.specs.Lists.{Every}
use Rattle.operator_meter.specs.declared.Meter.{Meter}
use Rattle.operator.specs.Meters.{Operator, add, add_all}
use Rattle.operator_meter.specs.Values.{no_meter, with_value, is_counted}
use Rattle.operator_meter.proofs.Bounds.{LastFits, Counted, no_last, no_counted, counted_value, last_value}
use Rattle.store.proofs.Pairs.{every_set, every_at}

-- a reading's value fits 32 bits
abbrev pub ValueFits : Placed → Type 0
ValueFits r = mag r.reading.value < 2 ^ 31

module _
    (law : ℕ → Meter → Type 0)
    (none : (n : ℕ) → law n no_meter)
    (more : (n : ℕ) (m : Meter) → law n m → law (suc n) m)
    (valued : (n : ℕ) (v : ℤ) (m : Meter) → mag v < 2 ^ 31 → law n m → law (suc n) (with_value v m))
    (s : Settings)
  where
    every_add : (n : ℕ) (o : Operator) (r : Reading) → mag r.value < 2 ^ 31 → Every (law n) o.meters → Every (law (suc n)) (add s o r).meters
    unfolding add
    every_add n o r f h =
        elim (is_counted s r.value) as
        (λ b.
        Every (law (suc n))
        (cond b
        (record { meters = set o.meters r.meter (with_value r.value (get_or o.meters r.meter no_meter)); number = o.number })
        o
        ).meters) [
          | true ↦
              every_set (law (suc n)) o.meters r.meter (with_value r.value (get_or o.meters r.meter no_meter))
              (valued n r.value (get_or o.meters r.meter no_meter) f (every_at (law n) o.meters r.meter no_meter (none n) h))
              (every_to o.meters (more n) h)
          | false ↦ every_to o.meters (more n) h
        ]

    pub every_add_all : (n : ℕ) (o : Operator) (rs : List Placed) → Every ValueFits rs → Every (law n) o.meters → Every (law (n + length rs)) (add_all s o rs).meters
    unfolding add_all
    every_add_all n o [] f h = rw (add-zero n) h
    every_add_all n o (r ∷ rs) f h =
        let e : n + suc (length rs) ≡ suc n + length rs = omega arith in
        rw e (every_add_all (suc n) (add s o r.reading) rs f.1 (every_add n o r.reading f.0 h))

pub lasts_add_all : (s : Settings) (o : Operator) (rs : List Placed) → Every ValueFits rs → Every LastFits o.meters → Every LastFits (add_all s o rs).meters
lasts_add_all s o rs f h = every_add_all (λ n m. LastFits m) (λ n. no_last) (λ n m g. g) (λ n v m g _. last_value v m g) s 0 o rs f h

pub counted_add_all : (s : Settings) (n : ℕ) (o : Operator) (rs : List Placed) → Every ValueFits rs → Every (Counted n) o.meters → Every (Counted (n + length rs)) (add_all s o rs).meters
counted_add_all s n o rs f h =
    every_add_all Counted no_counted (λ n m g. record { count = omega (arith, g.count); range = g.range }) counted_value s n o rs f h
