-- The table of starred examples. Most rows compute; the last bucket's end lies past every boundary of 32 bits, and at equal times the
-- order's law puts the lower line first.
use Prim.Native.Nat.{ℕ, ◌<◌}
use mathlib.Core.Path.{◌≡◌, refl, sym, ◌∙◌, ap, ap₂}
use mathlib.Core.Bool.{true, false, ◌&&◌}
use mathlib.Core.List.{[], ◌∷◌}
use native.Mathlib.Omega.{arith}
use lib.Dec.{eqb}
use borrow.Author.Tests.{lt-leb}
use Rattle.clock.specs.declared.ReadingTime.{ReadingTime}
use Rattle.clock.specs.Buckets.{bucket_of, bucket_end, finishes}
use Rattle.signed.specs.Nearest.{nearest}
use Rattle.signed.specs.Mean.{mean}
use Rattle.store.specs.declared.Reading.{Reading}
use Rattle.store.specs.Lists.{keep, all_of}
use Rattle.store.specs.Order.{insert, sort, is_in, gather, in_bucket}
use Rattle.store.proofs.Order.{by_line, earlier_before}
use Rattle.protocol.specs.Kinds.{kind_of, uses, is_step}
use Rattle.protocol.specs.Node.{Line, is_stable_bucket}
use Rattle.protocol.specs.Refusals.{first_failed, named_line, wrong_line, is_zero, unused_field, wrong_meter, wrong_id, too_early, is_held_back, is_full, call_tests, line_tests, step_tests, tests_of, answer_to}
use Rattle.protocol_examples.specs.Given.{settings, tick, on, line, node, undo}
use Rattle.protocol_examples.specs.Starred.{Starred}

-- a boundary below a bucket's end does not finish the bucket
not_finished : (m : ReadingTime) (j : ℕ) → m.0 < bucket_end 100 j → finishes 100 m j ≡ false
unfolding finishes
not_finished m j h = lt-leb (bucket_end 100 j) m.0 h

-- of two lines only the boundaries count
two_lines :
    (a b : Line) {m n : ReadingTime} → a.boundary ≡ m → b.boundary ≡ n →
    is_stable_bucket settings 0 (a ∷ b ∷ []) ≡ finishes 100 m 0 && (finishes 100 n 0 && true)
unfolding settings is_stable_bucket all_of
two_lines a b p q = ap₂ (λ (m n : ReadingTime). finishes 100 m 0 && (finishes 100 n 0 && true)) p q

-- a reading's bucket is its time's
in_bucket_lem : (r : Reading) {t : ReadingTime} → r.time ≡ t → is_in 100 0 r ≡ eqb (bucket_of 100 t) 0
unfolding is_in
in_bucket_lem r p = ap (λ (t : ReadingTime). eqb (bucket_of 100 t) 0) p

-- at equal times of bucket 0 the lower line's reading is the first
lower_line_first :
    (r s : Reading) → is_in 100 0 r ≡ true → is_in 100 0 s ≡ true → r.time ≡ s.time →
    in_bucket 100 0 ((r ∷ []) ∷ (s ∷ []) ∷ []) ≡ on 1 r ∷ on 2 s ∷ []
unfolding in_bucket gather keep sort insert
lower_line_first r s p q e =
    rw (p, q, earlier_before (on 1 r) (on 2 s) (by_line (ap (λ (t : ReadingTime). t.0) e) (omega arith)))

pub starred : Starred
unfolding settings bucket_of bucket_end finishes nearest mean node line undo answer_to tests_of call_tests line_tests step_tests first_failed kind_of uses is_step named_line wrong_line is_zero unused_field wrong_meter wrong_id too_early is_held_back is_full
starred =
    record {
      time99 = refl;
      time100 = refl;
      last_time = (refl, λ m h. not_finished (tick m) 42_949_672 (omega arith));
      boundaries99 = λ a b p q. two_lines a b p q;
      boundaries100 = λ a b p q. two_lines a b p q;
      five_halves = refl;
      minus_five_halves = refl;
      seven_halves = refl;
      seven_thirds = refl;
      minus_eight_thirds = refl;
      equal_times = λ r s p _ q _. lower_line_first r s (in_bucket_lem r p) (in_bucket_lem s q) (p ∙ sym q);
      undo_to2 = refl;
      undo_to1 = refl;
    }
