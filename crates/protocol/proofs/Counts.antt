-- Results are numbered one after the other: a bucket's behind the operator's number, which goes on by as many; the failure-free run's from
-- 1 on.
use Prim.Native.Nat.{ℕ, zero, suc, ◌+◌}
use mathlib.Core.Path.{◌≡◌, refl, subst}
use mathlib.Core.Bool.{true, false, cond}
use mathlib.Core.List.{List, [], ◌∷◌, ◌++◌}
use native.Mathlib.Omega.{arith}
use lib.ListN.{length, length-append}
use Rattle.clock.specs.declared.ReadingTime.{ReadingTime}
use Rattle.clock.specs.Windows.{closes_window, window_start}
use Rattle.settings.specs.declared.Settings.{Settings}
use Rattle.journal.specs.Kinds.{letter_s}
use Rattle.record.specs.declared.Record.{Record}
use Rattle.store.specs.declared.Reading.{Reading}
use Rattle.store.specs.Order.{Placed, in_bucket}
use Rattle.operator_meter.specs.declared.Meter.{Meter}
use Rattle.operator.specs.Meters.{Operator, add_all, fresh}
use Rattle.operator_meter.specs.Values.{has_result}
use Rattle.operator.specs.Results.{result_of, results}
use Rattle.operator.specs.Work.{Worked, window_results, close, work}
use Rattle.operator.proofs.Adding.{add_all_number}
use Rattle.operator.proofs.Closing.{work_number}
use Rattle.protocol.specs.FailureFree.{failure_free}
use Rattle.protocol.specs.SentBack.{Consecutive}

consecutive_append : (n m : ℕ) (xs ys : List Record) → m ≡ n + length xs → Consecutive n xs → Consecutive m ys → Consecutive n (xs ++ ys)
consecutive_append n m [] ys e h k = subst (λ (i : ℕ). Consecutive i ys) (let q : m ≡ n = omega arith in q) k
consecutive_append n m (x ∷ xs) ys e h k = (h.0, consecutive_append (suc n) m xs ys (omega arith) h.1 k)

results_consecutive :
    (kind : ℕ) (start : ReadingTime) (i number : ℕ) (ms : List Meter) → Consecutive number (results kind start i number ms)
unfolding results result_of
results_consecutive kind start i number [] = tt
results_consecutive kind start i number (m ∷ ms) =
    elim (has_result m) as
    (λ b.
    Consecutive number
    (cond b (result_of kind start i (suc number) m ∷ results kind start (suc i) (suc number) ms)
    (results kind start (suc i) number ms))) [
      | true ↦ (refl, results_consecutive kind start (suc i) (suc number) ms)
      | false ↦ results_consecutive kind start (suc i) number ms
    ]

pub work_consecutive : (s : Settings) (kind j : ℕ) (rs : List Placed) (o : Operator) → Consecutive o.number (work s kind j rs o).records
unfolding work close window_results
work_consecutive s kind j rs o =
    subst (λ (n : ℕ). Consecutive n (work s kind j rs o).records) (add_all_number s o rs)
    (elim (closes_window s.window j) as
    (λ b.
    Consecutive (add_all s o rs).number
    (cond b (close s kind j (add_all s o rs)) (record { operator = add_all s o rs; records = [] })).records) [
      | true ↦ results_consecutive kind (record { 0 = window_start s.bucket s.window j }) 0 (add_all s o rs).number (add_all s o rs).meters
      | false ↦ tt
    ])

pub failure_free_count :
    (s : Settings) (ls : List (List Reading)) (n : ℕ) → (failure_free s ls n).operator.number ≡ length (failure_free s ls n).records
unfolding failure_free fresh
failure_free_count s ls zero = refl
failure_free_count s ls (suc n) =
    let past : Worked = failure_free s ls n in
    let rs = in_bucket s.bucket n ls in
    omega (
      arith,
      failure_free_count s ls n,
      work_number s letter_s n rs past.operator,
      length-append past.records (work s letter_s n rs past.operator).records,
    )

pub failure_free_consecutive : (s : Settings) (ls : List (List Reading)) (n : ℕ) → Consecutive 0 (failure_free s ls n).records
unfolding failure_free
failure_free_consecutive s ls zero = tt
failure_free_consecutive s ls (suc n) =
    let past : Worked = failure_free s ls n in
    let rs = in_bucket s.bucket n ls in
    consecutive_append 0 past.operator.number past.records (work s letter_s n rs past.operator).records
    (omega (arith, failure_free_count s ls n)) (failure_free_consecutive s ls n) (work_consecutive s letter_s n rs past.operator)
