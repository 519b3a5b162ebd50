-- A bucket's work on an operator: its meters' counts stay below 2,048 for each bucket of the window so far, its number rises by at most
-- 64, and the buckets that can be worked are few, since their times fit 32 bits.
use Prim.Native.Nat.{ℕ, suc, ◌+◌, ◌*◌, ◌%◌, ◌≤◌, ◌<◌, ◌^◌}
use mathlib.Core.Path.{◌≡◌, refl, ◌∙◌, ap}
use mathlib.Core.Bool.{true, false, cond}
use mathlib.Core.List.{List, []}
use native.Mathlib.Omega.{arith}
use native.Mathlib.Nat.{mul-le-mul_left, suc-mod, mod-lt, mod-eq_of_lt, mod_self}
use native.Mathlib.Numerals.{add-one}
use borrow.Author.Tests.{eqb-false}
use lib.ListN.{length}
use Rattle.clock.specs.Buckets.{bucket_end}
use Rattle.clock.specs.Windows.{closes_window}
use Rattle.settings.specs.declared.Settings.{Settings}
use Rattle.settings.specs.Limits.{max_lines, min_bucket}
use Rattle.store.specs.Lists.{Every}
use Rattle.store.specs.Order.{Placed}
use Rattle.store.proofs.Pairs.{every_to}
use Rattle.operator_meter.specs.declared.Meter.{Meter}
use Rattle.operator.specs.Meters.{Operator, meter_count, clear, add_all}
use Rattle.operator_meter.specs.Values.{no_meter}
use Rattle.operator.specs.Work.{close, work}
use Rattle.operator.proofs.Closing.{work_number}
use Rattle.store.specs.Sizes.{readings_per_line}
use Rattle.node.specs.Sizes.{results_per_bucket, last_bucket}
use Rattle.node.proofs.Lists.{every_replicate}
use Rattle.operator_meter.proofs.Bounds.{Counted, no_counted}
use Rattle.operator.proofs.Meters.{ValueFits, counted_add_all}
use Rattle.node.proofs.Fits.{OperatorFits}
use Rattle.node.proofs.Results.{length_work}

-- readings that one bucket can have
abbrev pub readings_per_bucket : ℕ
readings_per_bucket = max_lines * readings_per_line

-- ---- counts

-- a bucket that closes no window is followed by the next place in it
next_place : (window j : ℕ) → 1 ≤ window → ((j + 1) % window ≡ 0 → ⊥) → suc j % window ≡ suc (j % window)
next_place window j some goesOn =
    let below : j % window < window = mod-lt j some in
    let whole : suc j % window ≡ suc (j % window) % window = suc-mod j window in
    let inside : suc (j % window) < window =
    less (suc (j % window)) window (omega arith)
    (λ e. goesOn (ap (λ (n : ℕ). n % window) (add-one j) ∙ whole ∙ ap (λ (n : ℕ). n % window) e ∙ mod_self window)) in
    whole ∙ mod-eq_of_lt inside
  where
    less : (a b : ℕ) → a ≤ b → (a ≡ b → ⊥) → a < b
    less a b h g = omega arith

-- the meters' counts after so many buckets of a window
abbrev pub CountedAt : Settings → ℕ → List Meter → Type 0
CountedAt s j ms = Every (Counted (readings_per_bucket * (j % s.window))) ms

pub work_counted :
    (s : Settings) (kind j : ℕ) (rs : List Placed) (o : Operator) → 1 ≤ s.window → Every ValueFits rs → length rs ≤ readings_per_bucket →
    CountedAt s j o.meters → CountedAt s (suc j) (work s kind j rs o).operator.meters
unfolding work close clear closes_window
work_counted s kind j rs o some values few h =
    (elim (closes_window s.window j) as
    (λ b.
    closes_window s.window j ≡ b →
    CountedAt s (suc j) (cond b (close s kind j (add_all s o rs)) (record { operator = add_all s o rs; records = [] })).operator.meters) [
      | true ↦ λ e.
          every_replicate (Counted (readings_per_bucket * (suc j % s.window))) meter_count no_meter
          (no_counted (readings_per_bucket * (suc j % s.window)))
      | false ↦ λ e.
          let place : suc j % s.window ≡ suc (j % s.window) = next_place s.window j some (eqb-false _ _ e) in
          every_to (add_all s o rs).meters
          (λ (m : Meter) (g : Counted (readings_per_bucket * (j % s.window) + length rs) m).
          record { count = omega (arith, g.count); range = g.range })
          (counted_add_all s (readings_per_bucket * (j % s.window)) o rs values h)
    ])
    refl

-- ---- numbers

pub work_few :
    (s : Settings) (kind j : ℕ) (rs : List Placed) (o : Operator) → OperatorFits o →
    (work s kind j rs o).operator.number ≤ o.number + results_per_bucket
work_few s kind j rs o fits = omega (arith, work_number s kind j rs o, length_work s kind j rs o fits.meters)

pub work_onwards : (s : Settings) (kind j : ℕ) (rs : List Placed) (o : Operator) → o.number ≤ (work s kind j rs o).operator.number
work_onwards s kind j rs o = omega (arith, work_number s kind j rs o)

-- ---- buckets

pub stable_top : (size j : ℕ) → min_bucket ≤ size → bucket_end size j < 2 ^ 32 → suc j ≤ last_bucket
unfolding bucket_end
stable_top size j h e = omega (arith, mul-le-mul_left {m = min_bucket} {n = size} j h)

pub tentative_top : (size j : ℕ) → min_bucket ≤ size → j * size < 2 ^ 32 → suc j ≤ last_bucket
tentative_top size j h e = omega (arith, mul-le-mul_left {m = min_bucket} {n = size} j h)
