-- Measures of readings: what a reading brings, a meter holds and a result reports. None of it is lost or made: what readings bring, their
-- meter holds on top of what it held; a closing window's result reports what the meter holds, and the meter is left with nothing. Which
-- measure is left open, as long as it adds up.
use Prim.Native.Nat.{ℕ, zero, suc, ◌+◌, ◌<◌}
use mathlib.Core.Path.{◌≡◌, refl, sym, ◌∙◌, ap, ap₂, subst}
use mathlib.Core.Bool.{Bool, true, false, cond, ◌&&◌}
use mathlib.Core.List.{List, [], ◌∷◌, ◌++◌, map}
use native.Mathlib.Omega.{arith}
use lib.Dec.{eqb}
use lib.IntN.{ℤ}
use lib.ListN.{length, get_or}
use borrow.Author.Tests.{lt-ltb, eq-eqb, ne_eqb}
use Rattle.clock.specs.declared.ReadingTime.{ReadingTime}
use Rattle.clock.specs.Windows.{closes_window}
use Rattle.settings.specs.declared.Settings.{Settings}
use Rattle.record.specs.declared.Record.{Record}
use Rattle.store.specs.declared.Reading.{Reading}
use Rattle.store.specs.Lists.{keep}
use Rattle.store.specs.Order.{Placed}
use Rattle.store.specs.Sorted.{Permutation}
use Rattle.store.proofs.Choices.{not_both, cond_either}
use Rattle.store.proofs.Permutations.{keep_permuted}
use Rattle.store.proofs.Splitting.{EitherOf, keep_split}
use Rattle.store.proofs.Amounts.{CommutativeMonoid, none_plus, total_of, kept_append, total_permuted}
use Rattle.operator_meter.specs.declared.Meter.{Meter}
use Rattle.operator.specs.Meters.{Operator, meter_count, add, add_all, clear}
use Rattle.operator_meter.specs.Values.{no_meter, with_value, has_result}
use Rattle.operator.specs.Results.{result_of, results}
use Rattle.operator.specs.Work.{Worked, window_results, close, work}
use Rattle.operator.proofs.Values.{counts, counts_for}
use Rattle.operator.proofs.Adding.{meter_of, add_meter, add_length, add_all_length}
use Rattle.operator.proofs.Closing.{cleared_length, cleared_meter}

pub record Measure (M : Type 0) : Type 0 where
  pub amounts : CommutativeMonoid M
  -- what a reading brings, a meter holds, a result reports
  pub of_reading : Reading → M
  pub of_meter : Meter → M
  pub of_result : Record → M
  pub blank : of_meter no_meter ≡ amounts.none
  pub added : (r : Reading) (m : Meter) → of_meter (with_value r.value m) ≡ amounts.plus (of_meter m) (of_reading r)
  pub reported : (kind : ℕ) (start : ReadingTime) (i number : ℕ) (m : Meter) → of_result (result_of kind start i number m) ≡ of_meter m

-- a result of meter i of this kind
abbrev pub reports : ℕ → ℕ → Record → Bool
reports kind i r = eqb r.kind kind && eqb r.meter i

module _ {M : Type 0} (m : Measure M) where
  abbrev plus : M → M → M
  plus = m.amounts.plus

  abbrev none : M
  none = m.amounts.none

  -- what readings bring to meter i, and what results report of it
  abbrev pub brought : Settings → ℕ → List Reading → M
  brought s i rs = total_of m.amounts m.of_reading (keep (counts s i) rs)

  abbrev pub reported_of : ℕ → ℕ → List Record → M
  reported_of kind i rs = total_of m.amounts m.of_result (keep (reports kind i) rs)

  pub brought_append : (s : Settings) (i : ℕ) (rs qs : List Reading) → brought s i (rs ++ qs) ≡ plus (brought s i rs) (brought s i qs)
  brought_append s i rs qs = kept_append m.amounts m.of_reading (counts s i) rs qs

  pub brought_permuted : (s : Settings) (i : ℕ) {rs qs : List Reading} → Permutation rs qs → brought s i rs ≡ brought s i qs
  brought_permuted s i p = total_permuted m.amounts m.of_reading (keep_permuted (counts s i) p)

  -- those that pass a test, where each passes just one of two others
  pub brought_split :
      (s : Settings) (i : ℕ) (p q r : Reading → Bool) → ((x : Reading) → EitherOf (p x) (q x) (r x)) → (rs : List Reading) →
      brought s i (keep p rs) ≡ plus (brought s i (keep q rs)) (brought s i (keep r rs))
  brought_split s i p q r either rs =
      brought_permuted s i (keep_split p q r either rs) ∙ brought_append s i (keep q rs) (keep r rs)

  pub reported_append :
      (kind i : ℕ) (rs qs : List Record) → reported_of kind i (rs ++ qs) ≡ plus (reported_of kind i rs) (reported_of kind i qs)
  reported_append kind i rs qs = kept_append m.amounts m.of_result (reports kind i) rs qs

  -- ---- readings added

  -- what a meter holds can be reported: without a result it holds nothing
  abbrev pub Reportable : Meter → Type 0
  Reportable meter = has_result meter ≡ false → m.of_meter meter ≡ none

  module _ (s : Settings) (i : ℕ) where
    holds_added :
        (o : Operator) (rs : List Placed) → i < length o.meters →
        m.of_meter (meter_of (add_all s o rs) i) ≡ plus (m.of_meter (meter_of o i)) (brought s i (map (λ (a : Placed). a.reading) rs))
    unfolding add_all keep counts_for
    holds_added o [] h = sym (m.amounts.plus_none _)
    holds_added o (r ∷ rs) h =
        let rest : List Reading = keep (counts s i) (map (λ (a : Placed). a.reading) rs) in
        let old : Meter = meter_of o i in
        holds_added (add s o r.reading) rs (rw (add_length s o r.reading) h) ∙
        ap (λ (n : Meter). plus (m.of_meter n) (total_of m.amounts m.of_reading rest)) (add_meter s o r i h) ∙
        one (counts_for s i r) old rest
      where
        one :
            (b : Bool) (old : Meter) (rest : List Reading) →
            plus (m.of_meter (cond b (with_value r.reading.value old) old)) (total_of m.amounts m.of_reading rest) ≡
            plus (m.of_meter old) (total_of m.amounts m.of_reading (cond b (r.reading ∷ rest) rest))
        one true old rest =
            ap (λ (a : M). plus a (total_of m.amounts m.of_reading rest)) (m.added r.reading old) ∙
            m.amounts.plus_assoc (m.of_meter old) (m.of_reading r.reading) (total_of m.amounts m.of_reading rest)
        one false old rest = refl

    -- a meter with a value has a result
    valued_reportable : (v : ℤ) (meter : Meter) → Reportable (with_value v meter)
    unfolding with_value has_result
    valued_reportable v meter e = not_both (lt-ltb 0 (meter.count + 1) (omega arith)) e

    added_reportable :
        (o : Operator) (rs : List Placed) → i < length o.meters → Reportable (meter_of o i) → Reportable (meter_of (add_all s o rs) i)
    unfolding add_all
    added_reportable o [] h q = q
    added_reportable o (r ∷ rs) h q =
        added_reportable (add s o r.reading) rs (rw (add_length s o r.reading) h)
        (subst Reportable (sym (add_meter s o r i h))
        (cond_either Reportable (counts_for s i r) (λ e. valued_reportable r.reading.value (meter_of o i)) (λ e. q)))

  -- ---- a window closed

  module _ (kind : ℕ) (start : ReadingTime) (i : ℕ) where
    -- meters above i report nothing of it
    reported_above : (k number : ℕ) (ms : List Meter) → i < k → reported_of kind i (results kind start k number ms) ≡ none
    unfolding results keep result_of
    reported_above k number [] h = refl
    reported_above k number (meter ∷ ms) h =
        elim (has_result meter) as
        (λ b.
        reported_of kind i
        (cond b (result_of kind start k (suc number) meter ∷ results kind start (suc k) (suc number) ms)
        (results kind start (suc k) number ms)) ≡
        none) [
          | true ↦ rw (eq-eqb kind kind refl, ne_eqb k i (omega arith)) (reported_above (suc k) (suc number) ms (omega arith))
          | false ↦ reported_above (suc k) number ms (omega arith)
        ]

    -- of the meters from number k on, the one at place d is number i: the results report what it holds
    reported_results :
        (d k number : ℕ) (ms : List Meter) → k + d ≡ i → d < length ms → Reportable (get_or ms d no_meter) →
        reported_of kind i (results kind start k number ms) ≡ m.of_meter (get_or ms d no_meter)
    unfolding results keep result_of
    reported_results d k number [] e h q = absurd (omega arith)
    reported_results zero k number (meter ∷ ms) e h q =
        (elim (has_result meter) as
        (λ b.
        has_result meter ≡ b →
        reported_of kind i
        (cond b (result_of kind start k (suc number) meter ∷ results kind start (suc k) (suc number) ms)
        (results kind start (suc k) number ms)) ≡
        m.of_meter meter) [
          | true ↦
              λ t.
              rw (eq-eqb kind kind refl, eq-eqb k i (omega arith), reported_above (suc k) (suc number) ms (omega arith))
              (m.amounts.plus_none _ ∙ m.reported kind start k (suc number) meter)
          | false ↦ λ t. reported_above (suc k) number ms (omega arith) ∙ sym (q t)
        ])
        refl
    reported_results (suc d) k number (meter ∷ ms) e h q =
        elim (has_result meter) as
        (λ b.
        reported_of kind i
        (cond b (result_of kind start k (suc number) meter ∷ results kind start (suc k) (suc number) ms)
        (results kind start (suc k) number ms)) ≡
        m.of_meter (get_or ms d no_meter)) [
          | true ↦
              rw (eq-eqb kind kind refl, ne_eqb k i (omega arith))
              (reported_results d (suc k) (suc number) ms (omega arith) (omega arith) q)
          | false ↦ reported_results d (suc k) number ms (omega arith) (omega arith) q
        ]

  -- ---- a bucket worked

  -- an operator with all its meters, of which number i is reportable
  pub record Whole (i : ℕ) (o : Operator) : Type 0 where
    pub size : length o.meters ≡ meter_count
    pub reportable : Reportable (meter_of o i)

  module _ (i : ℕ) (inside : i < meter_count) where
    pub blank_holds : (o : Operator) → o.meters ≡ (clear o).meters → m.of_meter (meter_of o i) ≡ none
    unfolding meter_of
    blank_holds o e =
        ap (λ (ms : List Meter). m.of_meter (get_or ms i no_meter)) e ∙ ap m.of_meter (cleared_meter o i inside) ∙ m.blank

    pub blank_whole : (o : Operator) → o.meters ≡ (clear o).meters → Whole i o
    blank_whole o e = record { size = ap length e ∙ cleared_length o; reportable = λ h. blank_holds o e }

  module _ (s : Settings) (kind i : ℕ) (inside : i < meter_count) where
    -- what is reported and what is held afterwards make up what was held before and what the readings bring
    pub record Carried (o : Operator) (rs : List Reading) (w : Worked) : Type 0 where
      pub whole : Whole i w.operator
      pub amount :
          plus (reported_of kind i w.records) (m.of_meter (meter_of w.operator i)) ≡
          plus (m.of_meter (meter_of o i)) (brought s i rs)

    module _ (o : Operator) (rs : List Placed) (v : Whole i o) where
      abbrev read : List Reading
      read = map (λ (a : Placed). a.reading) rs

      gone_on : Carried o read (record { operator = add_all s o rs; records = [] })
      unfolding keep
      gone_on =
          let there : i < length o.meters = rw v.size inside in
          record {
            whole = record { size = add_all_length s o rs ∙ v.size; reportable = added_reportable s i o rs there v.reportable };
            amount = none_plus m.amounts _ ∙ holds_added s i o rs there;
          }

      closed : (j : ℕ) → Carried o read (close s kind j (add_all s o rs))
      unfolding close clear window_results meter_of
      closed j =
          let there : i < length o.meters = rw v.size inside in
          let past : Operator = add_all s o rs in
          let left : Operator = (close s kind j past).operator in
          record {
            whole = blank_whole i inside left refl;
            amount =
                ap₂ plus
                (reported_results kind _ i i 0 past.number past.meters (omega arith) (rw (add_all_length s o rs ∙ v.size) inside)
                (added_reportable s i o rs there v.reportable))
                (blank_holds i inside left refl) ∙
                m.amounts.plus_none _ ∙ holds_added s i o rs there;
          }

      pub worked : (j : ℕ) → Carried o read (work s kind j rs o)
      unfolding work
      worked j = cond_either (Carried o read) (closes_window s.window j) (λ e. closed j) (λ e. gone_on)
