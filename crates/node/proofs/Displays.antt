-- A display's two calls: a refused one changes nothing; an accepted one passed every test. An acknowledgement leaves a state that stands
-- for the node with that display's last id. By cases on the host's tests and on the call's own.
use Prim.Native.Nat.{ℕ, ◌-◌, ◌<◌}
use mathlib.Core.Path.{◌≡◌, refl, ap}
use mathlib.Core.Bool.{Bool, true, false, cond}
use mathlib.Core.List.{List}
use native.Mathlib.Omega.{arith}
use borrow.Author.Tests.{eqb-true, eqb-false, eq-eqb}
use lib.Dec.{eqb}
use lib.ListN.{length-set}
use lib.Seq.{take-set-lt}
use Rattle.area.specs.Laid.{in_front}
use Rattle.record.specs.Layout.{all_bytes}
use Rattle.retransmission.specs.Places.{places_of, held_behind}
use Rattle.protocol.specs.Tests.{first_failed}
use Rattle.protocol.specs.Displays.{given_up_to, answer_to_acknowledgement, answer_to_fetch, acknowledging, fetch_count}
use Rattle.protocol.specs.Calls.{acknowledged_after, acknowledged_by}
use Rattle.protocol.proofs.Displays.{AcknowledgementFits, acknowledgement_fits}
use Rattle.store.specs.Columns.{Columns}
use Rattle.node.specs.View.{Lent, places, view, with_acknowledged}
use Rattle.node.specs.Calls.{Called, host_tests, refused_with}
use Rattle.node.specs.Displays.{freed, acknowledged_with, acknowledged_on, fetched_with, fetched_on}
use Rattle.node.specs.Held.{Held}
use Rattle.node.proofs.View.{Fits}
use Rattle.node.proofs.Calls.{Untouched, HostPassed, host_passed, host_passes, refused_with_lem}

-- ---- a call with tests of its own behind the host's

module _ (st : Held) (x : Lent) (area : List ℕ) (answer : ℕ) (down : Called) where
  abbrev own_if : Bool → Called
  own_if b = cond b down (refused_with answer st x area)

  abbrev judged_if : Bool → Called
  judged_if b = cond b (own_if (eqb answer 0)) (refused_with (first_failed (host_tests st x area)) st x area)

  abbrev judged : Called
  judged = judged_if (eqb (first_failed (host_tests st x area)) 0)

  own_refused : down.answer ≡ 0 → (b : Bool) → ((own_if b).answer ≡ 0 → ⊥) → Untouched st x area (own_if b)
  own_refused q true e = absurd (e q)
  own_refused q false e = refused_with_lem st x area answer

  judged_refused : down.answer ≡ 0 → (judged.answer ≡ 0 → ⊥) → Untouched st x area judged
  judged_refused q e =
      (elim (eqb (first_failed (host_tests st x area)) 0) as (λ b. ((judged_if b).answer ≡ 0 → ⊥) → Untouched st x area (judged_if b)) [
        | true ↦ λ e. own_refused q (eqb answer 0) e
        | false ↦ λ e. refused_with_lem st x area (first_failed (host_tests st x area))
      ])
      e

  -- what an accepted one passed
  record Judged : Type 0 where
    pub host : HostPassed st x area
    pub own : answer ≡ 0
    pub leaves : judged ≡ down

  judged_passes : HostPassed st x area → answer ≡ 0 → judged ≡ down
  judged_passes h e = rw (host_passes st x area h, eq-eqb answer 0 e)

  own_accepted : HostPassed st x area → (b : Bool) → eqb answer 0 ≡ b → (own_if b).answer ≡ 0 → Judged
  unfolding refused_with
  own_accepted h true q e = record { host = h; own = eqb-true _ _ q; leaves = judged_passes h (eqb-true _ _ q) }
  own_accepted h false q e = absurd (eqb-false _ _ q e)

  judged_accepted : judged.answer ≡ 0 → Judged
  unfolding refused_with
  judged_accepted e =
      (elim (eqb (first_failed (host_tests st x area)) 0) as
      (λ b. eqb (first_failed (host_tests st x area)) 0 ≡ b → (judged_if b).answer ≡ 0 → Judged) [
        | true ↦ λ q e. own_accepted (host_passed st x area (eqb-true _ _ q)) (eqb answer 0) refl e
        | false ↦ λ q e. absurd (eqb-false _ _ q e)
      ])
      refl e

-- ---- an acknowledgement

-- what an accepted one leaves
abbrev pub acknowledged_down : Held → Lent → ℕ → ℕ → List ℕ → Called
acknowledged_down st x display id area =
    record {
      answer = 0;
      records = 0;
      state = with_acknowledged (acknowledging st.acknowledged display id) st;
      lent =
          record {
            readings = x.readings;
            sent = freed x.sent (given_up_to (view st x.readings)) (given_up_to (acknowledged_by st.settings (view st x.readings) display id));
          };
      area = area;
    }

pub record AcknowledgedOn (st : Held) (x : Lent) (display id : ℕ) (area : List ℕ) : Type 0 where
  pub host : HostPassed st x area
  pub answered : answer_to_acknowledgement st.settings (view st x.readings) display id ≡ 0
  pub fits : AcknowledgementFits st.settings (view st x.readings) display id
  pub leaves : acknowledged_on st x display id area ≡ acknowledged_down st x display id area

module _ (st : Held) (x : Lent) (display id : ℕ) (area : List ℕ) where
  abbrev ack_answer : ℕ
  ack_answer = answer_to_acknowledgement st.settings (view st x.readings) display id

  pub refused_acknowledgement :
      ((acknowledged_on st x display id area).answer ≡ 0 → ⊥) → Untouched st x area (acknowledged_on st x display id area)
  unfolding acknowledged_on acknowledged_with
  refused_acknowledgement e = judged_refused st x area ack_answer (acknowledged_down st x display id area) refl e

  pub accepted_acknowledgement : (acknowledged_on st x display id area).answer ≡ 0 → AcknowledgedOn st x display id area
  unfolding acknowledged_on acknowledged_with
  accepted_acknowledgement e =
      let v = judged_accepted st x area ack_answer (acknowledged_down st x display id area) e in
      record {
        host = v.host;
        answered = v.own;
        fits = acknowledgement_fits st.settings (view st x.readings) display id v.own;
        leaves = v.leaves;
      }

  pub accepts_acknowledgement :
      HostPassed st x area → answer_to_acknowledgement st.settings (view st x.readings) display id ≡ 0 →
      acknowledged_on st x display id area ≡ acknowledged_down st x display id area
  unfolding acknowledged_on acknowledged_with
  accepts_acknowledgement h e = judged_passes st x area ack_answer (acknowledged_down st x display id area) h e

-- the state stands for the node with that last id
module _ (st : Held) (x : Columns) (display id : ℕ) (e : answer_to_acknowledgement st.settings (view st x) display id ≡ 0) where
  abbrev acknowledged_state : Held
  acknowledged_state = with_acknowledged (acknowledging st.acknowledged display id) st

  pub acknowledged_view : view acknowledged_state x ≡ acknowledged_by st.settings (view st x) display id
  unfolding view acknowledged_by acknowledged_after acknowledging places
  acknowledged_view =
      let f = acknowledgement_fits st.settings (view st x) display id e in
      let at : display - 1 < st.settings.displays = omega (arith, f.first, f.last) in
      rw (eq-eqb (answer_to_acknowledgement st.settings (view st x) display id) 0 e, take-set-lt st.settings.displays st.acknowledged (display - 1) id at)

  pub acknowledged_fits : Fits st x → Fits acknowledged_state x
  unfolding places acknowledging
  acknowledged_fits f =
      record {
        heads = f.heads;
        kept = f.kept;
        room = f.room;
        displays = omega (arith, length-set st.acknowledged (display - 1) id, f.displays);
      }

-- ---- a fetch

abbrev pub fetched_down : Held → Lent → ℕ → List ℕ → Called
fetched_down st x from area =
    record {
      answer = 0;
      records = fetch_count (view st x.readings) from;
      state = st;
      lent = x;
      area = in_front (all_bytes (held_behind (places_of x.sent) (from - 1) (fetch_count (view st x.readings) from))) area;
    }

pub record FetchedOn (st : Held) (x : Lent) (display from : ℕ) (area : List ℕ) : Type 0 where
  pub host : HostPassed st x area
  pub answered : answer_to_fetch st.settings (view st x.readings) display from ≡ 0
  pub leaves : fetched_on st x display from area ≡ fetched_down st x from area

module _ (st : Held) (x : Lent) (display from : ℕ) (area : List ℕ) where
  abbrev fetch_answer : ℕ
  fetch_answer = answer_to_fetch st.settings (view st x.readings) display from

  pub refused_fetch : ((fetched_on st x display from area).answer ≡ 0 → ⊥) → Untouched st x area (fetched_on st x display from area)
  unfolding fetched_on fetched_with
  refused_fetch e = judged_refused st x area fetch_answer (fetched_down st x from area) refl e

  pub accepted_fetch : (fetched_on st x display from area).answer ≡ 0 → FetchedOn st x display from area
  unfolding fetched_on fetched_with
  accepted_fetch e =
      let v = judged_accepted st x area fetch_answer (fetched_down st x from area) e in
      record { host = v.host; answered = v.own; leaves = v.leaves }

  pub accepts_fetch :
      HostPassed st x area → answer_to_fetch st.settings (view st x.readings) display from ≡ 0 →
      fetched_on st x display from area ≡ fetched_down st x from area
  unfolding fetched_on fetched_with
  accepts_fetch h e = judged_passes st x area fetch_answer (fetched_down st x from area) h e

  -- a fetch changes nothing but the area
  pub fetch_leaves : ((fetched_on st x display from area).state ≡ st) × ((fetched_on st x display from area).lent ≡ x)
  fetch_leaves =
      (elim (eqb (fetched_on st x display from area).answer 0) as
      (λ b. eqb (fetched_on st x display from area).answer 0 ≡ b → ((fetched_on st x display from area).state ≡ st) × ((fetched_on st x display from area).lent ≡ x)) [
        | true ↦ λ q.
            let v = accepted_fetch (eqb-true _ _ q) in
            (ap (λ (r : Called). r.state) v.leaves, ap (λ (r : Called). r.lent) v.leaves)
        | false ↦ λ q. let u = refused_fetch (eqb-false _ _ q) in (u.state, u.lent)
      ])
      refl
