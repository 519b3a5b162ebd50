-- What the operator that the code holds stands for fixes its columns, of the lengths that their types have. By the meter at each place.
use Prim.Native.Nat.{ℕ, ◌<◌}
use mathlib.Core.Path.{◌≡◌, sym, ◌∙◌, ap}
use native.Mathlib.Omega.{arith}
use lib.IntN.{pos}
use lib.ListN.{get_or}
use lib.Seq.{ext_get_or}
use Rattle.operator_meter.specs.declared.Meter.{Meter}
use Rattle.operator_meter.specs.Values.{no_meter}
use Rattle.operator.specs.Meters.{Operator, meter_count}
use Rattle.operator.specs.Loaded.{meter_at, operator_of}
use Rattle.operator.specs.declared.Operator.{Operator as Loaded}
use Rattle.operator.proofs.Loaded.{Long, meter_of}

module _ (o p : Loaded) (a : Long o) (b : Long p) (same : operator_of o ≡ operator_of p) where
  meter_same : (i n : ℕ) → n ≡ meter_count → i < n → meter_at o.counts o.sums o.lasts i ≡ meter_at p.counts p.sums p.lasts i
  meter_same i n e g =
      let within : i < meter_count = omega arith in
      sym (meter_of o.counts o.sums o.lasts i within) ∙ ap (λ (k : Operator). get_or k.meters i no_meter) same ∙
      meter_of p.counts p.sums p.lasts i within

  counts_same : o.counts ≡ p.counts
  unfolding meter_at
  counts_same =
      ext_get_or 0 o.counts p.counts (a.counts ∙ sym b.counts) (λ i g. ap (λ (m : Meter). m.count) (meter_same i _ a.counts g))

  sums_same : o.sums ≡ p.sums
  unfolding meter_at
  sums_same =
      ext_get_or (pos 0) o.sums p.sums (a.sums ∙ sym b.sums) (λ i g. ap (λ (m : Meter). m.sum) (meter_same i _ a.sums g))

  lasts_same : o.lasts ≡ p.lasts
  unfolding meter_at
  lasts_same =
      ext_get_or (pos 0) o.lasts p.lasts (a.lasts ∙ sym b.lasts) (λ i g. ap (λ (m : Meter). m.last) (meter_same i _ a.lasts g))

  pub pinned : o ≡ p
  pinned = λ t. record {
    sums = sums_same t;
    counts = counts_same t;
    lasts = lasts_same t;
    number = ap (λ (k : Operator). k.number) same t;
  }
