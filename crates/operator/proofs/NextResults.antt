-- The next marked meter is the first one at or above a place that has a result, and the results from that place on begin with its own;
-- where none is marked, there are no results. As many meters are marked as give a result.
use Prim.Native.Nat.{ℕ, zero, suc, ◌+◌, ◌*◌, ◌-◌, ◌≤◌, ◌<◌}
use mathlib.Core.Path.{◌≡◌, refl, sym, ◌∙◌, ap}
use mathlib.Core.Bool.{true, false, cond}
use mathlib.Core.List.{List, [], ◌∷◌, map}
use mathlib.Core.Logic.{⊎_elim}
use native.Mathlib.Omega.{arith}
use native.Mathlib.Nat.{add-zero}
use lib.ListN.{length, get_or, drop, length-map, get_or-map, get_or-eq_default}
use Rattle.std.specs.Prelude.{Some, None}
use Rattle.clock.specs.declared.ReadingTime.{ReadingTime}
use Rattle.signed.proofs.Comparing.{lt_or_le}
use Rattle.marks.specs.Words.{word_bits, word_count}
use Rattle.marks.specs.Marks.{is_marked, next_marked, marked_count}
use Rattle.marks.proofs.Next.{next_is_next}
use Rattle.marks.proofs.Words.{trues, marked_of, marked_count_of}
use Rattle.store.specs.Lists.{keep}
use Rattle.store.proofs.Choices.{not_both}
use Rattle.operator_meter.specs.declared.Meter.{Meter}
use Rattle.operator_meter.specs.Values.{no_meter, has_result}
use Rattle.operator.specs.Meters.{meter_count}
use Rattle.operator.specs.Results.{result_of, results}
use Rattle.operator.specs.Parts.{marks_of}
use Rattle.operator.proofs.Results.{givers}
use Rattle.operator.proofs.FromPlace.{results_from_giver, results_from_other, results_from_end}

-- meter number i is the first at or above `from` with a result
pub record FirstGiver (from : ℕ) (ms : List Meter) (i : ℕ) : Type 0 where
  pub above : from ≤ i
  pub within : i < length ms
  pub gives : has_result (get_or ms i no_meter) ≡ true
  pub first : (k : ℕ) → from ≤ k → k < i → has_result (get_or ms k no_meter) ≡ false

trues_given : (ms : List Meter) → trues (map has_result ms) ≡ givers ms
unfolding trues givers keep
trues_given [] = refl
trues_given (m ∷ ms) =
    let rest = trues_given ms in
    elim (has_result m) as
    (λ b. cond b 1 0 + trues (map has_result ms) ≡ length (cond b (m ∷ keep has_result ms) (keep has_result ms))) [
      | true ↦ omega arith
      | false ↦ omega arith
    ]

-- a meter without numbers gives none
gives_nothing : has_result no_meter ≡ false
unfolding has_result no_meter
gives_nothing = refl

-- ---- the marks of all meters

module _ (ms : List Meter) (sized : length ms ≡ meter_count) where
  fit : length (map has_result ms) ≤ word_bits * word_count
  fit = rw (length-map ms has_result) (omega arith)

  marked_gives : (i : ℕ) → is_marked (marks_of ms) i ≡ has_result (get_or ms i no_meter)
  unfolding marks_of
  marked_gives i =
      marked_of word_count (map has_result ms) i fit ∙
      ap (get_or (map has_result ms) i) (sym gives_nothing) ∙
      get_or-map has_result ms i no_meter

  pub marked_givers : marked_count (marks_of ms) ≡ givers ms
  unfolding marks_of
  marked_givers = marked_count_of word_count (map has_result ms) fit ∙ trues_given ms

  giver_within : (i : ℕ) → has_result (get_or ms i no_meter) ≡ true → i < length ms
  giver_within i e =
      ⊎_elim (λ h. h)
      (λ h. not_both e (ap has_result (get_or-eq_default ms no_meter h) ∙ gives_nothing))
      (lt_or_le i (length ms))

  pub next_gives : (from i : ℕ) → next_marked (marks_of ms) from ≡ Some i → FirstGiver from ms i
  next_gives from i e =
      let n = ((next_is_next (marks_of ms) from).one i).0 e in
      let g : has_result (get_or ms i no_meter) ≡ true = sym (marked_gives i) ∙ n.marked in
      record {
        above = n.above;
        within = giver_within i g;
        gives = g;
        first = λ k p q. sym (marked_gives k) ∙ n.smallest k p q;
      }

  none_gives : (from : ℕ) → next_marked (marks_of ms) from ≡ None → (k : ℕ) → from ≤ k → has_result (get_or ms k no_meter) ≡ false
  none_gives from e k h = sym (marked_gives k) ∙ (next_is_next (marks_of ms) from).none.0 e k h

-- ---- the results from a place on

module _ (kind : ℕ) (start : ReadingTime) (ms : List Meter) where
  -- meters without a result are passed over
  passed_over : (k from n : ℕ) → from + k ≤ length ms → ((j : ℕ) → from ≤ j → j < from + k → has_result (get_or ms j no_meter) ≡ false)
      → results kind start from n (drop from ms) ≡ results kind start (from + k) n (drop (from + k) ms)
  passed_over zero from n h none = rw (add-zero from)
  passed_over (suc k) from n h none =
      let e : suc from + k ≡ from + suc k = omega arith in
      results_from_other kind start ms from n (omega arith) (none from (omega arith) (omega arith)) ∙
      passed_over k (suc from) n (omega arith) (λ j p q. none j (omega arith) (omega arith)) ∙
      ap (λ (i : ℕ). results kind start i n (drop i ms)) e

  module _ (sized : length ms ≡ meter_count) where
    pub results_next : (from n i : ℕ) → next_marked (marks_of ms) from ≡ Some i
        → results kind start from n (drop from ms) ≡
        result_of kind start i (suc n) (get_or ms i no_meter) ∷ results kind start (suc i) (suc n) (drop (suc i) ms)
    results_next from n i e =
        let g = next_gives ms sized from i e in
        let there : from + (i - from) ≡ i = omega (arith, g.above) in
        passed_over (i - from) from n (omega (arith, g.above, g.within)) (λ j p q. g.first j p (omega (arith, g.above))) ∙
        ap (λ (k : ℕ). results kind start k n (drop k ms)) there ∙
        results_from_giver kind start ms i n g.within g.gives

    pub results_nothing : (from n : ℕ) → next_marked (marks_of ms) from ≡ None → results kind start from n (drop from ms) ≡ []
    results_nothing from n e =
        ⊎_elim
        (λ l.
        let there : from + (length ms - from) ≡ length ms = omega arith in
        passed_over (length ms - from) from n (omega arith) (λ j p q. none_gives ms sized from e j p) ∙
        ap (λ (k : ℕ). results kind start k n (drop k ms)) there ∙
        results_from_end kind start ms (length ms) n (omega arith))
        (results_from_end kind start ms from n)
        (lt_or_le from (length ms))
