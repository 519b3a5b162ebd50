-- Which meters give the results of a window: each result is that of its own meter, whose count is above 0, and each such meter has one.
-- By the list of meters; the results of later meters have later numbers of meters.
use Prim.Native.Nat.{ℕ, zero, suc, ◌+◌, ◌<◌}
use mathlib.Core.Path.{◌≡◌, refl, sym, ◌∙◌, ap}
use mathlib.Core.Bool.{Bool, true, false, cond}
use mathlib.Core.List.{List, [], ◌∷◌}
use mathlib.Core.Logic.{◌↔◌}
use native.Mathlib.Omega.{arith}
use lib.Dec.{eqb}
use lib.ListN.{length, get_or}
use borrow.Author.Tests.{eq-eqb, ne_eqb}
use Rattle.clock.specs.declared.ReadingTime.{ReadingTime}
use Rattle.record.specs.declared.Record.{Record}
use Rattle.store.specs.Lists.{Every, some_of}
use Rattle.store.proofs.Pairs.{every_to}
use Rattle.operator_meter.specs.declared.Meter.{Meter}
use Rattle.operator_meter.specs.Values.{no_meter, has_result}
use Rattle.operator.specs.Results.{result_of, results}
use Rattle.operator.proofs.Results.{has_result_count}

-- the record is the result of one of these meters, numbered from i on, and that meter has values
pub record Given (kind : ℕ) (start : ReadingTime) (i : ℕ) (ms : List Meter) (r : Record) : Type 0 where
  pub place : ℕ
  pub within : place < length ms
  pub counted : 0 < (get_or ms place no_meter).count
  pub its : r ≡ result_of kind start (i + place) r.id (get_or ms place no_meter)

-- a record names meter number j
unfoldable pub is_of : ℕ → Record → Bool
is_of j r = eqb r.meter j

module _ (kind : ℕ) (start : ReadingTime) where
  given_later : (i : ℕ) (m : Meter) (ms : List Meter) (r : Record) → Given kind start (suc i) ms r → Given kind start i (m ∷ ms) r
  given_later i m ms r g =
      record {
        place = suc g.place;
        within = omega (arith, g.within);
        counted = g.counted;
        its =
            g.its ∙
            ap (λ (j : ℕ). result_of kind start j r.id (get_or ms g.place no_meter))
            (let e : suc i + g.place ≡ i + suc g.place = omega arith in e);
      }

  given_first : (i n : ℕ) (m : Meter) (ms : List Meter) → has_result m ≡ true → Given kind start i (m ∷ ms) (result_of kind start i (suc n) m)
  unfolding result_of
  given_first i n m ms e =
      record {
        place = 0;
        within = omega arith;
        counted = (has_result_count m).0 e;
        its = ap (λ (j : ℕ). result_of kind start j (suc n) m) (let q : i ≡ i + 0 = omega arith in q);
      }

  pub results_given : (i n : ℕ) (ms : List Meter) → Every (Given kind start i ms) (results kind start i n ms)
  unfolding results
  results_given i n [] = tt
  results_given i n (m ∷ ms) =
      (elim (has_result m) as
      (λ b.
      has_result m ≡ b →
      Every (Given kind start i (m ∷ ms))
      (cond b (result_of kind start i (suc n) m ∷ results kind start (suc i) (suc n) ms) (results kind start (suc i) n ms))) [
        | true ↦
            λ e. (
              given_first i n m ms e,
              every_to (results kind start (suc i) (suc n) ms) (given_later i m ms) (results_given (suc i) (suc n) ms),
            )
        | false ↦ λ e. every_to (results kind start (suc i) n ms) (given_later i m ms) (results_given (suc i) n ms)
      ])
      refl

  -- no result of the meters from i on names an earlier one
  none_earlier : (i n : ℕ) (ms : List Meter) (j : ℕ) → j < i → some_of (is_of j) (results kind start i n ms) ≡ false
  unfolding results result_of some_of is_of
  none_earlier i n [] j h = refl
  none_earlier i n (m ∷ ms) j h =
      elim (has_result m) as
      (λ b.
      some_of (is_of j) (cond b (result_of kind start i (suc n) m ∷ results kind start (suc i) (suc n) ms) (results kind start (suc i) n ms)) ≡ false) [
        | true ↦
            rw (ne_eqb i j (λ q. omega arith)) (none_earlier (suc i) (suc n) ms j (omega arith))
        | false ↦ none_earlier (suc i) n ms j (omega arith)
      ]

  named_later : (i n : ℕ) (ms : List Meter) (j : ℕ) → j < length ms → some_of (is_of (i + j)) (results kind start i n ms) ≡ has_result (get_or ms j no_meter)
  unfolding results result_of some_of is_of
  named_later i n [] j h = absurd (omega arith)
  named_later i n (m ∷ ms) zero h =
      elim (has_result m) as
      (λ b.
      some_of (is_of (i + zero)) (cond b (result_of kind start i (suc n) m ∷ results kind start (suc i) (suc n) ms) (results kind start (suc i) n ms)) ≡ b) [
        | true ↦ rw (eq-eqb i (i + zero) (omega arith))
        | false ↦ none_earlier (suc i) n ms (i + zero) (omega arith)
      ]
  named_later i n (m ∷ ms) (suc j) h =
      let e : i + suc j ≡ suc i + j = omega arith in
      elim (has_result m) as
      (λ b.
      some_of (is_of (i + suc j)) (cond b (result_of kind start i (suc n) m ∷ results kind start (suc i) (suc n) ms) (results kind start (suc i) n ms)) ≡
      has_result (get_or ms j no_meter)) [
        | true ↦
            rw (ne_eqb i (i + suc j) (λ q. omega arith))
            (ap (λ (k : ℕ). some_of (is_of k) (results kind start (suc i) (suc n) ms)) e ∙ named_later (suc i) (suc n) ms j (omega arith))
        | false ↦ ap (λ (k : ℕ). some_of (is_of k) (results kind start (suc i) n ms)) e ∙ named_later (suc i) n ms j (omega arith)
      ]

  -- meter j has a result exactly if its count is above 0
  pub results_iff : (n : ℕ) (ms : List Meter) (j : ℕ) → j < length ms → (some_of (is_of j) (results kind start 0 n ms) ≡ true) ↔ (0 < (get_or ms j no_meter).count)
  results_iff n ms j h = (
    λ e. (has_result_count (get_or ms j no_meter)).0 (sym named ∙ e),
    λ c. named ∙ (has_result_count (get_or ms j no_meter)).1 c,
  )
    where
      named : some_of (is_of j) (results kind start 0 n ms) ≡ has_result (get_or ms j no_meter)
      named =
          ap (λ (i : ℕ). some_of (is_of i) (results kind start 0 n ms)) (let q : j ≡ 0 + j = omega arith in q) ∙
          named_later 0 n ms j h
