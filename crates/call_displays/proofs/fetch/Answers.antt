-- `call_displays::fetch` meets its contract: each way out is the law of what was refused first, or of what stands at the places.
use Rattle.std.proofs.Common.{◌≡◌, ℕ, refl, sym, ◌∙◌, ap, Err, Result, arith, rules}
use Rattle.answer.specs.declared.Refusal.{Refusal}
use Rattle.store.specs.Lent.{viewed}
use Rattle.protocol.specs.Displays.{given_up_to}
use Rattle.protocol.proofs.Displays.{FetchFits, fetch_fits}
use Rattle.node.specs.Held.{Held, held}
use Rattle.node.specs.View.{Lent, lent_of, view}
use Rattle.node.specs.Calls.{answered_of, records_of}
use Rattle.node.proofs.Replies.{refused_answered}
use Rattle.call_displays.proofs.Calls.{Ready, ready, fetch_host_refused, fetch_refused, fetch_done}
use Rattle.call_displays.proofs.fetch.Goals as goal

pub returns-in_err-host_refusal : goal.returns-in_err-host_refusal
returns-in_err-host_refusal c =
    let a = c.args in
    let refusal = c.in_err-host_refusal.field-0.0 in
    let same : c.from_residual.result ≡ Err refusal = search rules in
    ap (λ (r : Result ℕ Refusal). answered_of r a.state.now (lent_of (viewed a.readings) a.sent.now) a.area.now) same ∙
    refused_answered refusal a.state.now (lent_of (viewed a.readings) a.sent.now) a.area.now ∙
    fetch_host_refused (held a.state.now) (lent_of (viewed a.readings) a.sent.now) a.area.now a.display a.from refusal
    (c.in_err-host_refusal.ensures a.area.now refl)

pub shared_ref_as_front-least : goal.shared_ref_as_front-least
shared_ref_as_front-least c =
    let a = c.args in
    let r : Ready (held a.state.now) (lent_of (viewed a.readings) a.sent.now) a.area.now =
    ready (held a.state.now) (lent_of (viewed a.readings) a.sent.now) a.area.now (search rules) (c.in_ok-host_refusal.ensures a.area.now refl) in
    omega (arith, r.few)

pub least-least-requires : goal.least-least-requires
least-least-requires c =
    let a = c.args in
    let r : Ready (held a.state.now) (lent_of (viewed a.readings) a.sent.now) a.area.now =
    ready (held a.state.now) (lent_of (viewed a.readings) a.sent.now) a.area.now (search rules) (c.in_ok-host_refusal.ensures a.area.now refl) in
    r.some

pub fetch_answer-requires : goal.fetch_answer-requires
fetch_answer-requires c =
    let a = c.args in
    let r : Ready (held a.state.now) (lent_of (viewed a.readings) a.sent.now) a.area.now =
    ready (held a.state.now) (lent_of (viewed a.readings) a.sent.now) a.area.now (search rules) (c.in_ok-host_refusal.ensures a.area.now refl) in
    r.newest

pub returns-in_err-fetch_answer : goal.returns-in_err-fetch_answer
unfolding view given_up_to
returns-in_err-fetch_answer c =
    let a = c.args in
    let st : Held = held a.state.now in
    let x : Lent = lent_of (viewed a.readings) a.sent.now in
    let r : Ready st x a.area.now = ready st x a.area.now (search rules) (c.in_ok-host_refusal.ensures a.area.now refl) in
    let refusal = c.in_err-fetch_answer.field-0.0 in
    let same : c.from_residual-in_err-fetch_answer.result ≡ Err refusal = search rules in
    ap (λ (r : Result ℕ Refusal). answered_of r a.state.now (lent_of (viewed a.readings) a.sent.now) a.area.now) same ∙
    refused_answered refusal a.state.now (lent_of (viewed a.readings) a.sent.now) a.area.now ∙
    fetch_refused st x a.area.now a.display a.from r.host refusal
    (c.in_err-fetch_answer.ensures st.settings (view st x.readings) refl (sym c.least-least.ensures) refl)

pub overflow_add-newest : goal.overflow_add-newest
overflow_add-newest c =
    let a = c.args in
    let r : Ready (held a.state.now) (lent_of (viewed a.readings) a.sent.now) a.area.now =
    ready (held a.state.now) (lent_of (viewed a.readings) a.sent.now) a.area.now (search rules) (c.in_ok-host_refusal.ensures a.area.now refl) in
    omega (arith, r.newest)

pub overflow_sub-newest : goal.overflow_sub-newest
unfolding view given_up_to
overflow_sub-newest c =
    let a = c.args in
    let n = view (held a.state.now) (viewed a.readings) in
    let fits : FetchFits a.state.now.settings n a.display a.from =
    fetch_fits a.state.now.settings n a.display a.from
    (sym (c.in_ok-fetch_answer.ensures a.state.now.settings n refl (sym c.least-least.ensures) refl)) in
    omega (arith, fits.near)

pub overflow_sub-from : goal.overflow_sub-from
unfolding view given_up_to
overflow_sub-from c =
    let a = c.args in
    let n = view (held a.state.now) (viewed a.readings) in
    let fits : FetchFits a.state.now.settings n a.display a.from =
    fetch_fits a.state.now.settings n a.display a.from
    (sym (c.in_ok-fetch_answer.ensures a.state.now.settings n refl (sym c.least-least.ensures) refl)) in
    omega (arith, fits.held)

pub copy_out-requires : goal.copy_out-requires
unfolding view given_up_to
copy_out-requires c =
    let a = c.args in
    let st : Held = held a.state.now in
    let x : Lent = lent_of (viewed a.readings) a.sent.now in
    let r : Ready st x a.area.now = ready st x a.area.now (search rules) (c.in_ok-host_refusal.ensures a.area.now refl) in
    let n = view st x.readings in
    let fits : FetchFits st.settings n a.display a.from =
    fetch_fits st.settings n a.display a.from (sym (c.in_ok-fetch_answer.ensures st.settings n refl (sym c.least-least.ensures) refl)) in
    (r.host.sent, omega (arith, c.min-n.ensures, r.host.bytes), omega (arith, c.min-n.ensures, fits.near, r.newest))

pub returns : goal.returns
unfolding view given_up_to records_of
returns c =
    let a = c.args in
    let st : Held = held a.state.now in
    let x : Lent = lent_of (viewed a.readings) a.sent.now in
    let r : Ready st x a.area.now = ready st x a.area.now (search rules) (c.in_ok-host_refusal.ensures a.area.now refl) in
    fetch_done st x a.area.now a.display a.from r.host
    (sym (c.in_ok-fetch_answer.ensures st.settings (view st x.readings) refl (sym c.least-least.ensures) refl))
    c.min-n.ensures c.copy_out.ensures
