-- What records do to an output with its undos applied: results go to the end and strike nothing; an undo at a number takes away exactly the
-- results above it.
use Prim.Native.Nat.{ℕ, ◌≤◌, ◌<◌}
use mathlib.Core.Path.{◌≡◌, refl, sym, ◌∙◌, ap, ap₂}
use mathlib.Core.Bool.{Bool, true, false, cond, not}
use mathlib.Core.List.{List, [], ◌∷◌, ◌++◌, append-nil, append_assoc}
use lib.Dec.{eqb}
use borrow.Author.Tests.{le-leb, lt-leb}
use Rattle.clock.specs.declared.ReadingTime.{ReadingTime}
use Rattle.journal.specs.Kinds.{letter_s, letter_t, letter_u, letter_r}
use Rattle.record.specs.declared.Record.{Record}
use Rattle.record.specs.Kinds.{is_stable, is_tentative, is_result}
use Rattle.store.specs.Lists.{Every}
use Rattle.store.proofs.Pairs.{every_to}
use Rattle.store.proofs.Keeping.{keep_append, keep_all, keep_none}
use Rattle.record.specs.Markers.{marker}
use Rattle.protocol.specs.Undos.{apply_one, applied, struck_by_one, struck, done_due}
use Rattle.protocol.specs.Demand.{itself}

pub applied_append : (results xs ys : List Record) → applied itself results (xs ++ ys) ≡ applied itself (applied itself results xs) ys
unfolding applied
applied_append results [] ys = refl
applied_append results (x ∷ xs) ys = applied_append (apply_one itself results x) xs ys

pub struck_append :
    (results xs ys : List Record) →
    struck itself results (xs ++ ys) ≡ struck itself results xs ++ struck itself (applied itself results xs) ys
unfolding struck applied
struck_append results [] ys = refl
struck_append results (x ∷ xs) ys =
    rw (struck_append (apply_one itself results x) xs ys)
    (sym (append_assoc (struck_by_one itself results x) (struck itself (apply_one itself results x) xs) (struck itself (applied itself (apply_one itself results x) xs) ys)))

pub done_due_append : (due : Bool) (xs ys : List Record) → done_due itself due (xs ++ ys) ≡ done_due itself (done_due itself due xs) ys
unfolding done_due
done_due_append due [] ys = refl
done_due_append due (x ∷ xs) ys =
    done_due_append (cond (eqb x.kind letter_u) true (cond (eqb x.kind letter_r) false due)) xs ys

-- a result, by the tests that go by its kind
pub record IsResult (r : Record) : Type 0 where
  pub result : is_result r.kind ≡ true
  pub no_undo : eqb r.kind letter_u ≡ false
  pub no_done : eqb r.kind letter_r ≡ false

pub stable_result : (r : Record) → r.kind ≡ letter_s → IsResult r
unfolding is_result is_stable
stable_result r e =
    record { result = ap is_result e; no_undo = ap (λ n. eqb n letter_u) e; no_done = ap (λ n. eqb n letter_r) e }

pub tentative_result : (r : Record) → r.kind ≡ letter_t → IsResult r
unfolding is_result is_stable is_tentative
tentative_result r e =
    record { result = ap is_result e; no_undo = ap (λ n. eqb n letter_u) e; no_done = ap (λ n. eqb n letter_r) e }

pub applied_results : (results rs : List Record) → Every IsResult rs → applied itself results rs ≡ results ++ rs
unfolding applied apply_one
applied_results results [] h = sym (append-nil results)
applied_results results (r ∷ rs) h =
    rw h.0.result (applied_results (results ++ r ∷ []) rs h.1 ∙ append_assoc results (r ∷ []) rs)

pub struck_results : (results rs : List Record) → Every IsResult rs → struck itself results rs ≡ []
unfolding struck struck_by_one
struck_results results [] h = refl
struck_results results (r ∷ rs) h = rw h.0.no_undo (struck_results (apply_one itself results r) rs h.1)

pub done_due_results : (due : Bool) (rs : List Record) → Every IsResult rs → done_due itself due rs ≡ due
unfolding done_due
done_due_results due [] h = refl
done_due_results due (r ∷ rs) h = rw (h.0.no_undo, h.0.no_done) (done_due_results due rs h.1)

-- an undo at n of results up to n and then results above it
module _ (n : ℕ) (time : ReadingTime) (xs ys : List Record) (low : Every (λ (r : Record). r.id ≤ n) xs) (high : Every (λ (r : Record). n < r.id) ys) where
  pub undo_applied : applied itself (xs ++ ys) (marker letter_u n time ∷ []) ≡ xs
  unfolding applied apply_one is_result is_stable is_tentative marker
  undo_applied =
      keep_append _ xs ys ∙
      ap₂ ◌++◌ (keep_all _ xs (every_to xs (λ x h. le-leb x.id n h) low))
      (keep_none _ ys (every_to ys (λ x h. lt-leb x.id n h) high)) ∙
      append-nil xs

  pub undo_struck : struck itself (xs ++ ys) (marker letter_u n time ∷ []) ≡ ys
  unfolding struck struck_by_one marker
  undo_struck =
      append-nil _ ∙
      keep_append _ xs ys ∙
      ap₂ ◌++◌ (keep_none _ xs (every_to xs (λ x h. ap not (le-leb x.id n h)) low))
      (keep_all _ ys (every_to ys (λ x h. ap not (lt-leb x.id n h)) high))
