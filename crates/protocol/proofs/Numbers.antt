-- Results and their numbers: those of a bucket's work are of its kind and numbered above the operator's number before and up to the one
-- after; so are those of the failure-free run, from 1.
use Prim.Native.Nat.{ℕ, zero, suc, ◌+◌, ◌≤◌, ◌<◌}
use mathlib.Core.Path.{◌≡◌, refl}
use mathlib.Core.Bool.{true, false, cond}
use mathlib.Core.List.{List, [], ◌∷◌}
use native.Mathlib.Omega.{arith}
use native.Mathlib.Nat.{le_refl}
use lib.ListN.{length}
use Rattle.clock.specs.declared.ReadingTime.{ReadingTime}
use Rattle.clock.specs.Windows.{closes_window, window_start}
use Rattle.settings.specs.declared.Settings.{Settings}
use Rattle.journal.specs.Kinds.{letter_s}
use Rattle.record.specs.declared.Record.{Record}
use Rattle.store.specs.declared.Reading.{Reading}
use Rattle.store.specs.Order.{Placed, in_bucket}
use Rattle.store.specs.Lists.{Every}
use Rattle.store.proofs.Pairs.{every_to, every_append}
use Rattle.operator_meter.specs.declared.Meter.{Meter}
use Rattle.operator.specs.Meters.{Operator, add_all}
use Rattle.operator_meter.specs.Values.{has_result}
use Rattle.operator.specs.Results.{result_of, results}
use Rattle.operator.specs.Work.{Worked, window_results, close, work}
use Rattle.operator.proofs.Adding.{add_all_number}
use Rattle.protocol.specs.FailureFree.{failure_free}

-- a record of this kind, numbered above `from` and up to `to`
pub record Numbered (letter from to : ℕ) (r : Record) : Type 0 where
  pub kind : r.kind ≡ letter
  pub above : from < r.id
  pub up : r.id ≤ to

pub wider :
    {kind from to : ℕ} (from₁ to₁ : ℕ) → from₁ ≤ from → to ≤ to₁ → (r : Record) → Numbered kind from to r → Numbered kind from₁ to₁ r
wider from₁ to₁ h g r b = record { kind = b.kind; above = omega (arith, b.above); up = omega (arith, b.up) }

pub results_numbered :
    (kind : ℕ) (start : ReadingTime) (i number : ℕ) (ms : List Meter) →
    Every (Numbered kind number (number + length (results kind start i number ms))) (results kind start i number ms)
unfolding results result_of
results_numbered kind start i number [] = tt
results_numbered kind start i number (m ∷ ms) =
    elim (has_result m) as
    (λ b.
    Every
    (Numbered kind number
    (number +
    length
    (cond b (result_of kind start i (suc number) m ∷ results kind start (suc i) (suc number) ms)
    (results kind start (suc i) number ms))))
    (cond b (result_of kind start i (suc number) m ∷ results kind start (suc i) (suc number) ms)
    (results kind start (suc i) number ms))) [
      | true ↦ (
        record { kind = refl; above = le_refl _; up = omega arith },
        every_to (results kind start (suc i) (suc number) ms) (wider number _ (omega arith) (omega arith))
            (results_numbered kind start (suc i) (suc number) ms),
      )
      | false ↦ results_numbered kind start (suc i) number ms
    ]

-- work from this operator numbers its records onward
pub record Onward (kind : ℕ) (o : Operator) (w : Worked) : Type 0 where
  pub rises : o.number ≤ w.operator.number
  pub each : Every (Numbered kind o.number w.operator.number) w.records

closed_onward : (s : Settings) (kind j : ℕ) (o : Operator) → Onward kind o (close s kind j o)
unfolding close window_results
closed_onward s kind j o =
    record {
      rises = omega arith;
      each = results_numbered kind (record { 0 = window_start s.bucket s.window j }) 0 o.number o.meters;
    }

-- from an operator with the same number
same_onward : {kind : ℕ} {o : Operator} {w : Worked} (o₁ : Operator) → o.number ≡ o₁.number → Onward kind o w → Onward kind o₁ w
same_onward {w = w} o₁ e h =
    record {
      rises = omega (arith, h.rises);
      each = every_to w.records (wider o₁.number w.operator.number (omega arith) (le_refl _)) h.each;
    }

pub work_onward : (s : Settings) (kind j : ℕ) (rs : List Placed) (o : Operator) → Onward kind o (work s kind j rs o)
unfolding work
work_onward s kind j rs o =
    same_onward {o = add_all s o rs} o (add_all_number s o rs)
    (elim (closes_window s.window j) as
    (λ b.
    Onward kind (add_all s o rs)
    (cond b (close s kind j (add_all s o rs)) (record { operator = add_all s o rs; records = [] }))) [
      | true ↦ closed_onward s kind j (add_all s o rs)
      | false ↦ record { rises = le_refl _; each = tt }
    ])

-- the records of the failure-free run are stable results, numbered from 1
pub failure_free_numbered :
    (s : Settings) (ls : List (List Reading)) (n : ℕ) →
    Every (Numbered letter_s 0 (failure_free s ls n).operator.number) (failure_free s ls n).records
unfolding failure_free
failure_free_numbered s ls zero = tt
failure_free_numbered s ls (suc n) =
    let past : Worked = failure_free s ls n in
    let last : Worked = work s letter_s n (in_bucket s.bucket n ls) past.operator in
    let f : Onward letter_s past.operator last = work_onward s letter_s n (in_bucket s.bucket n ls) past.operator in
    every_append _ past.records last.records
    (every_to past.records (wider 0 _ (le_refl _) f.rises) (failure_free_numbered s ls n))
    (every_to last.records (wider 0 _ (omega arith) (le_refl _)) f.each)
