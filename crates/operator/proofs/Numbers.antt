-- The numbering of a window's results: the first has the number behind the newest, each next one the next, and their meters rise.
-- By the list of meters.
use Prim.Native.Nat.{ℕ, zero, suc, ◌+◌, ◌≤◌, ◌<◌}
use mathlib.Core.Path.{◌≡◌, ◌∙◌}
use mathlib.Core.Bool.{true, false, cond}
use mathlib.Core.List.{List, [], ◌∷◌}
use native.Mathlib.Omega.{arith}
use lib.ListN.{length, get_or}
use Rattle.clock.specs.declared.ReadingTime.{ReadingTime}
use Rattle.record.specs.declared.Record.{Record}
use Rattle.operator_meter.specs.declared.Meter.{Meter}
use Rattle.operator_meter.specs.Values.{has_result}
use Rattle.operator.specs.Results.{result_of, results}

-- meters from i on, each above the one before it
abbrev pub Rising : ℕ → List Record → Type 0
Rising i [] = Unit {0}
Rising i (r ∷ rs) = (i ≤ r.meter) × Rising (suc r.meter) rs

rising_from : (i : ℕ) (rs : List Record) → Rising (suc i) rs → Rising i rs
rising_from i [] h = tt
rising_from i (r ∷ rs) h = (omega arith, h.1)

module _ (kind : ℕ) (start : ReadingTime) where
  pub results_rise : (i n : ℕ) (ms : List Meter) → Rising i (results kind start i n ms)
  unfolding results result_of
  results_rise i n [] = tt
  results_rise i n (m ∷ ms) =
      elim (has_result m) as
      (λ b. Rising i (cond b (result_of kind start i (suc n) m ∷ results kind start (suc i) (suc n) ms) (results kind start (suc i) n ms))) [
        | true ↦ (omega arith, results_rise (suc i) (suc n) ms)
        | false ↦ rising_from i (results kind start (suc i) n ms) (results_rise (suc i) n ms)
      ]

  -- result number k of the window, counted from 0
  pub results_id : (i n : ℕ) (ms : List Meter) (k : ℕ) (d : Record) → k < length (results kind start i n ms) → (get_or (results kind start i n ms) k d).id ≡ n + 1 + k
  unfolding results result_of
  results_id i n [] k d h = absurd (omega arith)
  results_id i n (m ∷ ms) zero d h =
      (elim (has_result m) as
      (λ b.
      zero < length (cond b (result_of kind start i (suc n) m ∷ results kind start (suc i) (suc n) ms) (results kind start (suc i) n ms)) →
      (get_or (cond b (result_of kind start i (suc n) m ∷ results kind start (suc i) (suc n) ms) (results kind start (suc i) n ms)) zero d).id ≡ n + 1 + zero) [
        | true ↦ λ g. omega arith
        | false ↦ λ g. results_id (suc i) n ms zero d g
      ])
      h
  results_id i n (m ∷ ms) (suc k) d h =
      (elim (has_result m) as
      (λ b.
      suc k < length (cond b (result_of kind start i (suc n) m ∷ results kind start (suc i) (suc n) ms) (results kind start (suc i) n ms)) →
      (get_or (cond b (result_of kind start i (suc n) m ∷ results kind start (suc i) (suc n) ms) (results kind start (suc i) n ms)) (suc k) d).id ≡ n + 1 + suc k) [
        | true ↦ λ g. results_id (suc i) (suc n) ms k d (omega arith) ∙ omega arith
        | false ↦ λ g. results_id (suc i) n ms (suc k) d g
      ])
      h
