-- The failure-free run by any measure of readings: what its results report of a meter and what the window still open holds of it is what
-- the readings of the buckets worked bring. By induction on the buckets, each taken from the readings below the next.
use Prim.Native.Nat.{ℕ, zero, suc, ◌<◌}
use mathlib.Core.Path.{◌≡◌, refl, sym, ◌∙◌, ap, ap₂}
use mathlib.Core.Bool.{Bool, true, false}
use mathlib.Core.List.{List, [], map, flatten}
use native.Mathlib.Omega.{arith}
use lib.Dec.{ltb, leb, eqb}
use borrow.Author.Tests.{lt-ltb, le-ltb, le-leb, lt-leb, eq-eqb, ne_eqb}
use Rattle.clock.specs.Buckets.{bucket_of}
use Rattle.settings.specs.declared.Settings.{Settings}
use Rattle.journal.specs.Kinds.{letter_s}
use Rattle.record.specs.declared.Record.{Record}
use Rattle.store.specs.declared.Reading.{Reading}
use Rattle.store.specs.Lists.{keep}
use Rattle.store.specs.Order.{Placed, is_in, in_bucket}
use Rattle.store.proofs.Pairs.{every_any}
use Rattle.store.proofs.Permutations.{permutation_back, map_permuted}
use Rattle.store.proofs.Keeping.{keep_all, keep_none}
use Rattle.store.proofs.Splitting.{EitherOf, one, other, neither}
use Rattle.store.proofs.Amounts.{none_plus}
use Rattle.store.proofs.Order.{Compared, below, same, above, compare}
use Rattle.store.proofs.Gathering.{gather_readings}
use Rattle.store.proofs.Bucket.{in_bucket_permutes}
use Rattle.operator.specs.Meters.{meter_count, clear, fresh}
use Rattle.operator.specs.Work.{Worked, work}
use Rattle.operator.proofs.Adding.{meter_of}
use Rattle.operator.proofs.Measures.{Measure, brought, brought_permuted, brought_split, reported_of, reported_append}
use Rattle.operator.proofs.Measures.{Whole, blank_holds, blank_whole, worked}
use Rattle.protocol.specs.FailureFree.{failure_free}
use Rattle.protocol.proofs.Lines.{is_from}

-- a reading of a bucket below n
unfoldable pub is_below : ℕ → ℕ → Reading → Bool
is_below length n r = ltb (bucket_of length r.time) n

-- below bucket n + 1: below n or in it
next_bucket : (length n : ℕ) (r : Reading) → EitherOf (is_below length (suc n) r) (is_below length n r) (is_in length n r)
unfolding is_below is_in
next_bucket length n r = by (bucket_of length r.time) (compare (bucket_of length r.time) n)
  where
    by : (b : ℕ) → Compared b n → EitherOf (ltb b (suc n)) (ltb b n) (eqb b n)
    by b (below h) = rw (lt-ltb b (suc n) (omega arith), lt-ltb b n h, ne_eqb b n (omega arith)) one
    by b (same e) = rw (lt-ltb b (suc n) (omega arith), le-ltb b n (omega arith), eq-eqb b n e) other
    by b (above h) = rw (le-ltb b (suc n) (omega arith), le-ltb b n (omega arith), ne_eqb b n (omega arith)) neither

-- any: below bucket n or from it on
below_or_from : (length n : ℕ) (r : Reading) → EitherOf true (is_below length n r) (is_from length n r)
unfolding is_below is_from
below_or_from length n r = by (bucket_of length r.time) (compare (bucket_of length r.time) n)
  where
    by : (b : ℕ) → Compared b n → EitherOf true (ltb b n) (leb n b)
    by b (below h) = rw (lt-ltb b n h, lt-leb n b h) one
    by b (same e) = rw (le-ltb b n (omega arith), le-leb n b (omega arith)) other
    by b (above h) = rw (le-ltb b n (omega arith), le-leb n b (omega arith)) other

none_below : (length : ℕ) (rs : List Reading) → keep (is_below length 0) rs ≡ []
unfolding is_below
none_below length rs =
    keep_none (is_below length 0) rs
    (every_any (λ r. is_below length 0 r ≡ false) rs (λ r. le-ltb (bucket_of length r.time) 0 (omega arith)))

module _ {M : Type 0} (m : Measure M) (s : Settings) (i : ℕ) where
  abbrev plus : M → M → M
  plus = m.amounts.plus

  -- a bucket's readings, in any order
  brought_bucket :
      (length j : ℕ) (lines : List (List Reading)) →
      brought m s i (map (λ (a : Placed). a.reading) (in_bucket length j lines)) ≡ brought m s i (keep (is_in length j) (flatten lines))
  brought_bucket length j lines =
      brought_permuted m s i (map_permuted (λ (a : Placed). a.reading) (permutation_back (in_bucket_permutes length j lines))) ∙
      ap (brought m s i) (gather_readings length j 1 lines)

  -- all readings: those below bucket n and those from it on
  pub brought_parts :
      (length n : ℕ) (rs : List Reading) →
      brought m s i rs ≡ plus (brought m s i (keep (is_below length n) rs)) (brought m s i (keep (is_from length n) rs))
  brought_parts length n rs =
      ap (brought m s i) (sym (keep_all (λ r. true) rs (every_any (λ r. true ≡ true) rs (λ r. refl)))) ∙
      brought_split m s i (λ r. true) (is_below length n) (is_from length n) (below_or_from length n) rs

  abbrev reported : List Record → M
  reported = reported_of m letter_s i

  module _ (inside : i < meter_count) (lines : List (List Reading)) where
    pub record Total (n : ℕ) : Type 0 where
      pub whole : Whole m i (failure_free s lines n).operator
      pub amount :
          plus (reported (failure_free s lines n).records) (m.of_meter (meter_of (failure_free s lines n).operator i)) ≡
          brought m s i (keep (is_below s.bucket n) (flatten lines))

    pub run_total : (n : ℕ) → Total n
    unfolding failure_free fresh clear keep
    run_total zero =
        record {
          whole = blank_whole m i inside fresh refl;
          amount =
              none_plus m.amounts _ ∙ blank_holds m i inside fresh refl ∙
              ap (brought m s i) (sym (none_below s.bucket (flatten lines)));
        }
    run_total (suc n) =
        let past : Total n = run_total n in
        let before : Worked = failure_free s lines n in
        let rs : List Placed = in_bucket s.bucket n lines in
        let after : Worked = work s letter_s n rs before.operator in
        let carried = worked m s letter_s i inside before.operator rs past.whole n in
        let held : M = m.of_meter (meter_of after.operator i) in
        record {
          whole = carried.whole;
          amount =
              ap (λ (a : M). plus a held) (reported_append m letter_s i before.records after.records) ∙
              m.amounts.plus_assoc _ _ _ ∙ ap (plus _) carried.amount ∙ sym (m.amounts.plus_assoc _ _ _) ∙
              ap₂ plus past.amount (brought_bucket s.bucket n lines) ∙
              sym
              (brought_split m s i (is_below s.bucket (suc n)) (is_below s.bucket n) (is_in s.bucket n)
              (next_bucket s.bucket n) (flatten lines));
        }
