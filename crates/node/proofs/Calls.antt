-- A call: a refused one changes nothing; an accepted one passed every test, and leaves the outcome of the call that was read, laid into
-- state, store and area. By cases on the first test that fails and on what the text is read as.
use Prim.Native.Nat.{ℕ, ◌≤◌}
use mathlib.Core.Path.{◌≡◌, refl, ◌∙◌, ap}
use mathlib.Core.Bool.{Bool, true, false, cond}
use mathlib.Core.List.{List}
use native.Mathlib.Omega.{arith}
use borrow.Author.Tests.{ltb-false, eqb-true, eqb-false, not-false, le-ltb}
use lib.Dec.{eqb}
use lib.ListN.{length}
use Rattle.std.specs.Prelude.{Option, Some, None}
use Rattle.journal.specs.declared.Call.{Call}
use Rattle.journal.specs.JournalLine.{line_text, call_answer, CallFits}
use Rattle.journal.specs.ReadLine.{call_of}
use Rattle.journal.proofs.Exact.{accepted_line}
use Rattle.store.specs.Lists.{all_of}
use Rattle.protocol.specs.Refusals.{first_failed, answer_to}
use Rattle.protocol.specs.Calls.{outcome_of}
use Rattle.protocol.proofs.FirstFailed.{numbered, fails_with, passes_each}
use Rattle.node.specs.Sizes.{area_bytes}
use Rattle.store.specs.Columns.{store_length}
use Rattle.retransmission.specs.Sizes.{held_bytes}
use Rattle.node.proofs.Opening.{not_short, long_enough}
use Rattle.node.specs.View.{Lent, places, view}
use Rattle.node.specs.Shape.{in_shape}
use Rattle.node.specs.Calls.{Called, host_tests, laid_outcome, refused_with, called_with, called_on}
use Rattle.node.specs.Held.{Held}

-- what a refused call hands back
pub record Untouched (st : Held) (x : Lent) (area : List ℕ) (r : Called) : Type 0 where
  pub records : r.records ≡ 0
  pub state : r.state ≡ st
  pub lent : r.lent ≡ x
  pub bytes : r.area ≡ area

-- what an accepted call returns and leaves
abbrev pub laid_down : Held → Lent → List ℕ → Call → Called
laid_down st x area k = laid_outcome st x area (outcome_of st.settings (view st x.readings) k)

-- the host's three tests passed
pub record HostPassed (st : Held) (x : Lent) (area : List ℕ) : Type 0 where
  pub room : places st ≤ store_length x.readings
  pub sent : held_bytes ≤ length x.sent
  pub shape : in_shape st x ≡ true
  pub bytes : area_bytes ≤ length area

-- what an accepted call was handed, and what it leaves
pub record AcceptedOn (st : Held) (x : Lent) (text area : List ℕ) : Type 0 where
  pub host : HostPassed st x area
  pub call : Call
  pub read : call_of text ≡ Some call
  pub fits : CallFits call
  pub spelled : text ≡ line_text call
  pub answered : answer_to st.settings (view st x.readings) call ≡ 0
  pub leaves : called_on st x text area ≡ laid_down st x area call

-- ---- the host's tests

module _ (st : Held) (x : Lent) (area : List ℕ) where
  pub host_passed : first_failed (host_tests st x area) ≡ 0 → HostPassed st x area
  unfolding host_tests places numbered all_of fails_with
  host_passed e =
      let passes = passes_each (host_tests st x area) refl e in
      let long = not_short st.settings.lines x (passes 3) in
      record { room = long.0; sent = long.1; shape = not-false _ (passes 4); bytes = ltb-false _ _ (passes 5) }

  pub host_passes : HostPassed st x area → first_failed (host_tests st x area) ≡ 0
  unfolding host_tests places first_failed
  host_passes h =
      rw (
        long_enough st.settings.lines x h.room h.sent,
        h.shape,
        le-ltb (length area) area_bytes h.bytes,
      )

  -- a call that was read, accepted or not
  abbrev journal_if : Call → Bool → Called
  journal_if k b = cond b (laid_down st x area k) (refused_with (answer_to st.settings (view st x.readings) k) st x area)

  pub refused_with_lem : (n : ℕ) → Untouched st x area (refused_with n st x area)
  unfolding refused_with
  refused_with_lem n = record { records = refl; state = refl; lent = refl; bytes = refl }

  refused_read : (r : Option Call) → ((called_with st x area r).answer ≡ 0 → ⊥) → Untouched st x area (called_with st x area r)
  unfolding called_with
  refused_read (Some k) e =
      (elim (eqb (answer_to st.settings (view st x.readings) k) 0) as
      (λ b. ((journal_if k b).answer ≡ 0 → ⊥) → Untouched st x area (journal_if k b)) [
        | true ↦ λ e. absurd (e refl)
        | false ↦ λ e. refused_with_lem (answer_to st.settings (view st x.readings) k)
      ])
      e
  refused_read None e = refused_with_lem (call_answer None)

-- ---- a call

module _ (st : Held) (x : Lent) (text area : List ℕ) where
  -- a call, the host's tests passed or not
  abbrev host_if : Bool → Called
  host_if b = cond b (called_with st x area (call_of text)) (refused_with (first_failed (host_tests st x area)) st x area)

  -- a refused call changes nothing and gives no record
  pub refused_call : ((called_on st x text area).answer ≡ 0 → ⊥) → Untouched st x area (called_on st x text area)
  unfolding called_on
  refused_call e =
      (elim (eqb (first_failed (host_tests st x area)) 0) as (λ b. ((host_if b).answer ≡ 0 → ⊥) → Untouched st x area (host_if b)) [
        | true ↦ λ e. refused_read st x area (call_of text) e
        | false ↦ λ e. refused_with_lem st x area (first_failed (host_tests st x area))
      ])
      e

  -- past the host's tests the text decides
  pub called_past_host : HostPassed st x area → called_on st x text area ≡ called_with st x area (call_of text)
  unfolding called_on
  called_past_host h = rw (host_passes st x area h)

  accepted_read : HostPassed st x area → (r : Option Call) → call_of text ≡ r → (called_with st x area r).answer ≡ 0 → AcceptedOn st x text area
  unfolding called_with refused_with call_answer
  accepted_read h (Some k) q e =
      (elim (eqb (answer_to st.settings (view st x.readings) k) 0) as
      (λ b. eqb (answer_to st.settings (view st x.readings) k) 0 ≡ b → (journal_if st x area k b).answer ≡ 0 → AcceptedOn st x text area) [
        | true ↦ λ t e.
            record {
              host = h;
              call = k;
              read = q;
              fits = (accepted_line text k q).0;
              spelled = (accepted_line text k q).1;
              answered = eqb-true _ _ t;
              leaves = called_past_host h ∙ ap (called_with st x area) q ∙ rw t;
            }
        | false ↦ λ t e. absurd (eqb-false _ _ t e)
      ])
      refl e
  accepted_read h None q e = absurd (omega (arith, e))

  -- an accepted call passed every test
  pub accepted_call : (called_on st x text area).answer ≡ 0 → AcceptedOn st x text area
  unfolding called_on refused_with
  accepted_call e =
      (elim (eqb (first_failed (host_tests st x area)) 0) as
      (λ b. eqb (first_failed (host_tests st x area)) 0 ≡ b → (host_if b).answer ≡ 0 → AcceptedOn st x text area) [
        | true ↦ λ t e. accepted_read (host_passed st x area (eqb-true _ _ t)) (call_of text) refl e
        | false ↦ λ t e. absurd (eqb-false _ _ t e)
      ])
      refl e

  -- what holds after a refused call and after an accepted one holds after any
  pub either_way :
      (P : Called → Type 0) → (Untouched st x area (called_on st x text area) → P (called_on st x text area)) →
      (AcceptedOn st x text area → P (called_on st x text area)) → P (called_on st x text area)
  either_way P refused accepted =
      (elim (eqb (called_on st x text area).answer 0) as
      (λ b. eqb (called_on st x text area).answer 0 ≡ b → P (called_on st x text area)) [
        | true ↦ λ t. accepted (accepted_call (eqb-true _ _ t))
        | false ↦ λ t. refused (refused_call (eqb-false _ _ t))
      ])
      refl
