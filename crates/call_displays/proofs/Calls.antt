-- A display's call as the code makes it: refused by the host's tests, refused by its own, or done.
use Prim.Native.Nat.{ℕ, ◌+◌, ◌-◌, ◌^◌, ◌≤◌, ◌<◌, min}
use mathlib.Core.Path.{◌≡◌, refl, sym, ◌∙◌, ap, ap₂}
use mathlib.Core.List.{List}
use native.Mathlib.Omega.{arith}
use borrow.Author.Tests.{ne_eqb}
use lib.ListN.{length, take, set, length-set, length-take}
use lib.Seq.{length-take-le}
use Rattle.answer.specs.declared.Refusal.{Refusal}
use Rattle.answer.specs.Refusals.{number}
use Rattle.area.specs.Laid.{in_front}
use Rattle.settings.specs.Limits.{max_displays}
use Rattle.record.specs.Layout.{all_bytes}
use Rattle.retransmission.specs.Sizes.{fetch_limit}
use Rattle.retransmission.specs.Places.{places_of, with_places, given_up, held_behind}
use Rattle.protocol.specs.Tests.{first_failed}
use Rattle.protocol.specs.Displays.{least_of, given_up_to, answer_to_acknowledgement, answer_to_fetch, acknowledging, fetch_count}
use Rattle.protocol.specs.Calls.{acknowledged_by}
use Rattle.node.specs.Held.{Held}
use Rattle.node.specs.View.{Lent, lent_of, view, with_acknowledged}
use Rattle.node.specs.Calls.{host_tests, refused_with}
use Rattle.node.specs.Displays.{freed, acknowledged_with, acknowledged_on, fetched_with, fetched_on}
use Rattle.node.proofs.Limits.{limits_hold}
use Rattle.node.proofs.Shape.{in_shape_facts}
use Rattle.node.proofs.Calls.{HostPassed, host_passed, host_passes}
use Rattle.node.proofs.Opening.{refused_some}
use Rattle.node.proofs.Displays.{accepts_acknowledgement, acknowledged_view, accepts_fetch}

-- what is known of a state that passed the host's tests
pub record Ready (st : Held) (x : Lent) (area : List ℕ) : Type 0 where
  pub host : HostPassed st x area
  pub few : st.settings.displays ≤ max_displays
  pub some : 1 ≤ length (take st.settings.displays st.acknowledged)
  pub newest : st.checkpoint.number + 1 < 2 ^ 64

pub ready :
    (st : Held) (x : Lent) (area : List ℕ) → length st.acknowledged ≡ max_displays → 0 ≡ first_failed (host_tests st x area) →
    Ready st x area
ready st x area size passed =
    let h : HostPassed st x area = host_passed st x area (sym passed) in
    let f = in_shape_facts st x h.shape in
    let l = limits_hold st.settings f.limits in
    record {
      host = h;
      few = l.displays;
      some = omega (arith, length-take-le st.settings.displays st.acknowledged (omega (arith, l.displays, size)), l.some_displays);
      newest = omega (arith, f.numbers.stable, f.buckets.order, f.buckets.last);
    }

-- there are as many displays behind an acknowledgement
pub still_some :
    (st : Held) (x : Lent) (area : List ℕ) → Ready st x area →
    (i id : ℕ) → 1 ≤ length (take st.settings.displays (set st.acknowledged i id))
still_some st x area r i id =
    omega (
      arith,
      r.some,
      length-take st.settings.displays st.acknowledged,
      length-take st.settings.displays (set st.acknowledged i id),
      length-set st.acknowledged i id,
    )

module _ (st : Held) (x : Lent) (area : List ℕ) (display id : ℕ) where
  -- the displays' ids as they are, and all that the state holds with this one
  abbrev ids : List ℕ
  ids = take st.settings.displays st.acknowledged

  abbrev raised : List ℕ
  raised = set st.acknowledged (display - 1) id

  -- ---- an acknowledgement

  abbrev acknowledgement_answer : ℕ
  acknowledgement_answer = answer_to_acknowledgement st.settings (view st x.readings) display id

  pub acknowledge_host_refused :
      (refusal : Refusal) → number refusal ≡ first_failed (host_tests st x area) →
      refused_with (number refusal) st x area ≡ acknowledged_on st x display id area
  unfolding acknowledged_on
  acknowledge_host_refused refusal e = rw (e, ne_eqb (first_failed (host_tests st x area)) 0 (λ z. refused_some refusal (e ∙ z)))

  pub acknowledge_refused :
      HostPassed st x area → (refusal : Refusal) → number refusal ≡ acknowledgement_answer →
      refused_with (number refusal) st x area ≡ acknowledged_on st x display id area
  unfolding acknowledged_on acknowledged_with
  acknowledge_refused host refusal e =
      rw (host_passes st x area host, e, ne_eqb acknowledgement_answer 0 (λ z. refused_some refusal (e ∙ z)))

  least_before : least_of ids ≡ given_up_to (view st x.readings)
  unfolding given_up_to view
  least_before = refl

  least_after : acknowledgement_answer ≡ 0 →
      least_of (take st.settings.displays raised) ≡
      given_up_to (acknowledged_by st.settings (view st x.readings) display id)
  unfolding given_up_to view acknowledging
  least_after e = ap given_up_to (acknowledged_view st x.readings display id e)

  pub acknowledge_done : HostPassed st x area → acknowledgement_answer ≡ 0 → {from to : ℕ} {sent : List ℕ} →
      from ≡ least_of ids → to ≡ least_of (take st.settings.displays raised) →
      sent ≡ with_places x.sent (given_up (places_of x.sent) from (to - from)) →
      record {
        answer = 0;
        records = 0;
        state = with_acknowledged raised st;
        lent = lent_of x.readings sent;
        area = area;
      } ≡ acknowledged_on st x display id area
  unfolding freed acknowledging
  acknowledge_done host e f g h =
      let left = h ∙ ap₂ (freed x.sent) (f ∙ least_before) (g ∙ least_after e) in
      (λ i.
      record {
        answer = 0;
        records = 0;
        state = with_acknowledged raised st;
        lent = lent_of x.readings (left i);
        area = area;
      }) ∙ sym (accepts_acknowledgement st x display id area host e)

  -- ---- a fetch

  abbrev fetch_answer : ℕ
  fetch_answer = answer_to_fetch st.settings (view st x.readings) display id

  pub fetch_host_refused :
      (refusal : Refusal) → number refusal ≡ first_failed (host_tests st x area) →
      refused_with (number refusal) st x area ≡ fetched_on st x display id area
  unfolding fetched_on
  fetch_host_refused refusal e = rw (e, ne_eqb (first_failed (host_tests st x area)) 0 (λ z. refused_some refusal (e ∙ z)))

  pub fetch_refused :
      HostPassed st x area → (refusal : Refusal) → number refusal ≡ fetch_answer →
      refused_with (number refusal) st x area ≡ fetched_on st x display id area
  unfolding fetched_on fetched_with
  fetch_refused host refusal e = rw (host_passes st x area host, e, ne_eqb fetch_answer 0 (λ z. refused_some refusal (e ∙ z)))

  pub fetch_done : HostPassed st x area → fetch_answer ≡ 0 → {n : ℕ} {bytes : List ℕ} →
      n ≡ min (st.checkpoint.number + 1 - id) fetch_limit →
      bytes ≡ in_front (all_bytes (held_behind (places_of x.sent) (id - 1) n)) area →
      record { answer = 0; records = n; state = st; lent = x; area = bytes } ≡ fetched_on st x display id area
  unfolding fetch_count view
  fetch_done host e f g =
      let count : min (st.checkpoint.number + 1 - id) fetch_limit ≡ fetch_count (view st x.readings) id = omega arith in
      let all = f ∙ count in
      let laid = g ∙ ap (λ (n : ℕ). in_front (all_bytes (held_behind (places_of x.sent) (id - 1) n)) area) all in
      (λ i. record { answer = 0; records = all i; state = st; lent = x; area = laid i }) ∙
      sym (accepts_fetch st x display id area host e)
