-- The results of a closing window: as many as meters with a count above 0; no more than there are meters. By the list of meters.
use Prim.Native.Nat.{ℕ, suc, ◌≤◌, ◌<◌}
use mathlib.Core.Path.{◌≡◌, refl, ap}
use mathlib.Core.Bool.{true, false, cond}
use mathlib.Core.List.{List, [], ◌∷◌}
use mathlib.Core.Logic.{◌↔◌}
use lib.ListN.{length}
use borrow.Author.Tests.{ltb-true, lt-ltb}
use Rattle.clock.specs.declared.ReadingTime.{ReadingTime}
use Rattle.store.specs.Lists.{keep}
use Rattle.store.proofs.Keeping.{length_keep}
use Rattle.operator_meter.specs.declared.Meter.{Meter}
use Rattle.operator_meter.specs.Values.{has_result}
use Rattle.operator.specs.Results.{result_of, results}

-- a meter gives a result exactly if its count is above 0
pub has_result_count : (m : Meter) → (has_result m ≡ true) ↔ (0 < m.count)
unfolding has_result
has_result_count m = (ltb-true 0 m.count, lt-ltb 0 m.count)

-- how many meters of the list give one
unfoldable pub givers : List Meter → ℕ
givers ms = length (keep has_result ms)

pub givers_most : (ms : List Meter) → givers ms ≤ length ms
unfolding givers
givers_most ms = length_keep has_result ms

module _ (kind : ℕ) (start : ReadingTime) where
  pub results_length : (i n : ℕ) (ms : List Meter) → length (results kind start i n ms) ≡ givers ms
  unfolding results givers keep
  results_length i n [] = refl
  results_length i n (m ∷ ms) =
      elim (has_result m) as
      (λ b.
      length (cond b (result_of kind start i (suc n) m ∷ results kind start (suc i) (suc n) ms) (results kind start (suc i) n ms)) ≡
      length (cond b (m ∷ keep has_result ms) (keep has_result ms))) [
        | true ↦ ap suc (results_length (suc i) (suc n) ms)
        | false ↦ results_length (suc i) n ms
      ]

  pub results_most : (i n : ℕ) (ms : List Meter) → length (results kind start i n ms) ≤ length ms
  results_most i n ms = rw (results_length i n ms) (givers_most ms)
