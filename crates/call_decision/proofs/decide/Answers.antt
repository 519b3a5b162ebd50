-- `call_decision::decide` meets its contract: each way out is the law of what was refused first, or all tests passed.
use Rattle.std.proofs.Common.{◌≡◌, refl, sym, ◌∙◌, ap, ℕ, List, length, Err, rules}
use Rattle.protocol.specs.Node.{Node}
use Rattle.protocol.specs.Refusals.{first_failed}
use Rattle.node.specs.Held.{Held, held}
use Rattle.node.specs.View.{Lent, lent, places, view}
use Rattle.node.specs.Calls.{host_tests}
use Rattle.node.proofs.Opening.{refused_some}
use Rattle.call_decision.specs.Deciding.{numbered}
use Rattle.call_decision.proofs.InOrder.{first_tests, answer_first, answer_15, answer_0}
use Rattle.call_decision.proofs.Answers.{read_as, host_refused, text_refused, call_refused, call_accepted, RefusalReady, ready_by_room, step_of, of_viewed}
use Rattle.call_decision.proofs.decide.Goals as goal

pub returns-in_err-host_refusal : goal.returns-in_err-host_refusal
returns-in_err-host_refusal c area l =
    let a = c.args in
    let refusal = c.in_err-host_refusal.field-0.0 in
    let same : c.from_residual.result ≡ Err refusal = search rules in
    ap numbered same ∙
    host_refused (held a.state.now) (lent a.stores.now) a.read area refusal
    (of_viewed (held a.state.now) a.stores.now.sent.now area c.view.ensures (c.in_err-host_refusal.ensures area l))

pub returns-in_err-k : goal.returns-in_err-k
returns-in_err-k c area l =
    let a = c.args in
    let refusal = c.in_err-k.field-0.0 in
    let same : c.from_residual-in_err-k.result ≡ Err refusal = search rules in
    ap numbered same ∙
    text_refused (held a.state.now) (lent a.stores.now) a.read area
    (sym (of_viewed (held a.state.now) a.stores.now.sent.now area c.view.ensures (c.in_ok-host_refusal.ensures area l))) refusal
    (sym c.ok_or.ensures.value ∙ c.in_err-k.was)

pub refusal-requires : goal.refusal-requires
refusal-requires c =
    let a = c.args in
    let ready : RefusalReady (held a.state.now) (lent a.stores.now) =
    ready_by_room (held a.state.now) (lent a.stores.now) a.room
    (λ area l. sym (of_viewed (held a.state.now) a.stores.now.sent.now area c.view.ensures (c.in_ok-host_refusal.ensures area l))) in
    (ready.lines, ready.kinds, ready.small)

pub returns-in_err-refusal : goal.returns-in_err-refusal
unfolding view places
returns-in_err-refusal c area l =
    let a = c.args in
    let st : Held = held a.state.now in
    let x : Lent = lent a.stores.now in
    let passed : (area : List ℕ) → length area ≡ a.room → first_failed (host_tests st x area) ≡ 0 =
    λ area l. sym (of_viewed (held a.state.now) a.stores.now.sent.now area c.view.ensures (c.in_ok-host_refusal.ensures area l)) in
    let n : Node = view st x.readings in
    let k = c.in_ok-k.k in
    let refusal = c.in_err-refusal.field-0.0 in
    let answer = c.in_err-refusal.ensures x.readings refl (ready_by_room st x a.room passed).room in
    let same : c.from_residual-in_err-refusal.result ≡ Err refusal = search rules in
    ap numbered same ∙
    call_refused st x a.read area (passed area l) k (read_as a.read (sym c.ok_or.ensures.value ∙ c.in_ok-k.was)) refusal
    (answer ∙ answer_first st.settings n k (λ z. refused_some refusal (answer ∙ z)))

pub lacks_places-requires : goal.lacks_places-requires
lacks_places-requires c =
    let a = c.args in
    let ready : RefusalReady (held a.state.now) (lent a.stores.now) =
    ready_by_room (held a.state.now) (lent a.stores.now) a.room
    (λ area l. sym (of_viewed (held a.state.now) a.stores.now.sent.now area c.view.ensures (c.in_ok-host_refusal.ensures area l))) in
    (record { store = (lent a.stores.now).readings; is = step_of (held a.state.now) a.stores.now ready }, ready.displays)

pub returns-then-lacks_places : goal.returns-then-lacks_places
unfolding view places
returns-then-lacks_places c area l =
    let a = c.args in
    let st : Held = held a.state.now in
    let x : Lent = lent a.stores.now in
    let passed : (area : List ℕ) → length area ≡ a.room → first_failed (host_tests st x area) ≡ 0 =
    λ area l. sym (of_viewed (held a.state.now) a.stores.now.sent.now area c.view.ensures (c.in_ok-host_refusal.ensures area l)) in
    let ready : RefusalReady st x = ready_by_room st x a.room passed in
    let n : Node = view st x.readings in
    let k = c.in_ok-k.k in
    let none : first_failed (first_tests st.settings n k) ≡ 0 = sym (c.in_ok-refusal.ensures x.readings refl ready.room) in
    let found = c.lacks_places.ensures x.readings (step_of st a.stores.now ready) in
    call_refused st x a.read area (passed area l) k (read_as a.read (sym c.ok_or.ensures.value ∙ c.in_ok-k.was)) _
    (answer_15 st.settings n k none (sym found ∙ c.if-lacks_places.true))

pub returns : goal.returns
unfolding view places
returns c area l =
    let a = c.args in
    let st : Held = held a.state.now in
    let x : Lent = lent a.stores.now in
    let passed : (area : List ℕ) → length area ≡ a.room → first_failed (host_tests st x area) ≡ 0 =
    λ area l. sym (of_viewed (held a.state.now) a.stores.now.sent.now area c.view.ensures (c.in_ok-host_refusal.ensures area l)) in
    let ready : RefusalReady st x = ready_by_room st x a.room passed in
    let n : Node = view st x.readings in
    let k = c.in_ok-k.k in
    let none : first_failed (first_tests st.settings n k) ≡ 0 = sym (c.in_ok-refusal.ensures x.readings refl ready.room) in
    let found = c.lacks_places.ensures x.readings (step_of st a.stores.now ready) in
    call_accepted st x a.read area (passed area l) k (read_as a.read (sym c.ok_or.ensures.value ∙ c.in_ok-k.was))
    (answer_0 st.settings n k none (sym found ∙ c.if-lacks_places.false))
