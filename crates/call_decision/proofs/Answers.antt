-- What is decided of a call: the host's first refusal, else the text's, else the call's; and that a call answers what is decided.
use Prim.Native.Nat.{ℕ, ◌*◌, ◌≤◌}
use mathlib.Core.Path.{◌≡◌, refl, ◌∙◌, ap}
use mathlib.Core.Bool.{true, false, cond}
use mathlib.Core.List.{List}
use borrow.Author.Tests.{ne_eqb, eqb-true}
use lib.Dec.{eqb}
use Rattle.std.specs.Prelude.{Option, Some, None, Result, Ok, Err}
use Rattle.std.specs.Option.{ok_or}
use Rattle.answer.specs.Refusals.{number}
use Rattle.answer.specs.declared.Refusal.{Refusal}
use Rattle.journal.specs.declared.Call.{Call}
use Rattle.journal.specs.JournalLine.{call_answer}
use Rattle.journal.specs.ReadLine.{call_of}
use lib.ListN.{length, replicate, take, length-replicate}
use Rattle.settings.specs.Limits.{max_lines}
use Rattle.store.specs.Sizes.{readings_per_line}
use Rattle.store.specs.Lists.{Every}
use Rattle.store.specs.Columns.{Columns, store_length}
use Rattle.store.specs.Lent.{columns}
use Rattle.store.proofs.Pairs.{every_to}
use Rattle.store.proofs.Columns.{room}
use Rattle.protocol.specs.Refusals.{first_failed, answer_to}
use Rattle.node.specs.declared.LineHead.{LineHead}
use Rattle.node.specs.declared.Stores.{Stores}
use Rattle.node.specs.Held.{Held}
use Rattle.node.specs.View.{Lent, lent_of, lent, places, view}
use Rattle.node.specs.Shape.{state_in_shape, displays_ok}
use Rattle.node.specs.Calls.{host_tests, refused_with, called_with, called_on}
use Rattle.node.proofs.Limits.{limits_hold}
use Rattle.node.proofs.Shape.{HeadShape, InShape, in_shape_facts, state_in_shape_lem, displays_in_shape}
use Rattle.node.proofs.Calls.{HostPassed, host_passed}
use Rattle.node.proofs.Opening.{refused_some}
use Rattle.call_decision.specs.Stores.{StepOf}
use Rattle.call_decision.specs.Deciding.{decided_with, decided_on, numbered}

-- what the call's tests ask of state and stores
pub record RefusalReady (st : Held) (x : Lent) : Type 0 where
  pub lines : st.settings.lines ≤ max_lines
  pub room : st.settings.lines * readings_per_line ≤ store_length x.readings
  pub kinds : st.settings.lines * readings_per_line ≤ length x.readings.kinds
  pub shape : state_in_shape st x.readings ≡ true
  pub displays : displays_ok st ≡ true
  pub small : Every (λ (h : LineHead). h.kept ≤ readings_per_line) (take st.settings.lines st.heads)

pub refusal_ready : (st : Held) (x : Lent) (area : List ℕ) → first_failed (host_tests st x area) ≡ 0 → RefusalReady st x
unfolding places
refusal_ready st x area e =
    let h : HostPassed st x area = host_passed st x area e in
    let f : InShape st x = in_shape_facts st x h.shape in
    record {
      lines = (limits_hold st.settings f.limits).lines;
      room = h.room;
      kinds = (room (st.settings.lines * readings_per_line) x.readings h.room).kinds;
      shape = state_in_shape_lem st x h.shape;
      displays = displays_in_shape st x h.shape;
      small = every_to (take st.settings.lines st.heads) (λ (h : LineHead) (v : HeadShape h). v.kept) f.heads;
    }

-- where no test of the host's fails on any area of a length: there is such an area
pub ready_by_room :
    (st : Held) (x : Lent) (room : ℕ) → ((area : List ℕ) → length area ≡ room → first_failed (host_tests st x area) ≡ 0) →
    RefusalReady st x
ready_by_room st x room passed =
    let area : List ℕ = replicate room 0 in refusal_ready st x area (passed area (length-replicate room 0))

-- and the store is one that a step can be done on
pub step_of : (st : Held) (x : Stores) → RefusalReady st (lent x) → StepOf st x.readings (columns x.readings)
unfolding places
step_of st x r =
    record {
      work = record { of_times = refl; of_values = refl; of_meters = refl; room = r.room; shape = r.shape };
      of_arrivals = refl;
    }

-- the host's tests look at the columns alone, however they are lent
pub of_viewed :
    (st : Held) (sent area : List ℕ) {x y : Columns} {n : ℕ} →
    x ≡ y → n ≡ first_failed (host_tests st (lent_of x sent) area) → n ≡ first_failed (host_tests st (lent_of y sent) area)
of_viewed st sent area e found = found ∙ ap (λ (x : Columns). first_failed (host_tests st (lent_of x sent) area)) e

-- ---- what a text is read as, with its refusal beside it

unread : (read : Option Call) {refusal : Refusal} → ok_or read Refusal.Malformed ≡ Err refusal → (read ≡ None) × (refusal ≡ Refusal.Malformed)
unread (Some k) e = absurd (cc)
unread None e = (refl, cc)

pub read_as : (read : Option Call) {k : Call} → ok_or read Refusal.Malformed ≡ Ok k → read ≡ Some k
read_as (Some k) e = cc
read_as None e = absurd (cc)

-- ---- each way out is what is decided

module _ (st : Held) (x : Lent) (read : Option Call) (area : List ℕ) where
  pub host_refused :
      (refusal : Refusal) → number refusal ≡ first_failed (host_tests st x area) → numbered (Err refusal) ≡ decided_on st x read area
  unfolding numbered decided_on
  host_refused refusal e = rw (e, ne_eqb (first_failed (host_tests st x area)) 0 (λ z. refused_some refusal (e ∙ z)))

  module _ (host : first_failed (host_tests st x area) ≡ 0) where
    past_host : {r : Option Call} → read ≡ r → decided_with st x r ≡ decided_on st x read area
    unfolding decided_on
    past_host e = rw (host, e)

    pub text_refused :
        (refusal : Refusal) → ok_or read Refusal.Malformed ≡ Err refusal → numbered (Err refusal) ≡ decided_on st x read area
    unfolding numbered decided_with call_answer
    text_refused refusal e = let u = unread read e in rw u.1 (past_host u.0)

    module _ (k : Call) (is : read ≡ Some k) where
      pub call_refused :
          (refusal : Refusal) → number refusal ≡ answer_to st.settings (view st x.readings) k →
          numbered (Err refusal) ≡ decided_on st x read area
      unfolding numbered decided_with
      call_refused refusal e =
          rw e
          (rw (ne_eqb (answer_to st.settings (view st x.readings) k) 0 (λ z. refused_some refusal (e ∙ z))) at (past_host is))

      pub call_accepted : answer_to st.settings (view st x.readings) k ≡ 0 → numbered (Ok k) ≡ decided_on st x read area
      unfolding numbered decided_with
      call_accepted e = rw e at (past_host is)

-- ---- what is decided is what a call answers

-- no test fails, and the call is what the text asks for
pub record Passed (st : Held) (x : Lent) (text area : List ℕ) (k : Call) : Type 0 where
  pub host : first_failed (host_tests st x area) ≡ 0
  pub call : answer_to st.settings (view st x.readings) k ≡ 0
  pub done : called_with st x area (Some k) ≡ called_on st x text area

unfoldable pub Answered : Held → Lent → List ℕ → List ℕ → Result Call ℕ → Type 0
Answered st x text area (Err n) = refused_with n st x area ≡ called_on st x text area
Answered st x text area (Ok k) = Passed st x text area k

module _ (st : Held) (x : Lent) (text area : List ℕ) where
  module _ (host : first_failed (host_tests st x area) ≡ 0) where
    left_to_text : {r : Option Call} → call_of text ≡ r → called_with st x area r ≡ called_on st x text area
    unfolding called_on
    left_to_text e = rw (host, e)

    answered_with : (r : Option Call) → call_of text ≡ r → Answered st x text area (decided_with st x r)
    unfolding decided_with Answered called_with
    answered_with (Some k) e =
        let answer : ℕ = answer_to st.settings (view st x.readings) k in
        (elim (eqb answer 0) as
        (λ b. eqb answer 0 ≡ b → Answered st x text area (cond b (Ok k) (Err answer))) [
          | true ↦ λ t. record { host = host; call = eqb-true _ _ t; done = left_to_text e }
          | false ↦ λ t. rw t at (left_to_text e)
        ]) refl
    answered_with None e = left_to_text e

  pub answered : Answered st x text area (decided_on st x (call_of text) area)
  unfolding decided_on Answered called_on
  answered =
      let host : ℕ = first_failed (host_tests st x area) in
      (elim (eqb host 0) as
      (λ b. eqb host 0 ≡ b → Answered st x text area (cond b (decided_with st x (call_of text)) (Err host))) [
        | true ↦ λ t. answered_with (eqb-true _ _ t) (call_of text) refl
        | false ↦ λ t. rw t
      ]) refl
