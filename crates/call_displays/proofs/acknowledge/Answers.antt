-- `call_displays::acknowledge` meets its contract: each way out is the law of what was refused first, or of what is given up.
use Rattle.std.proofs.Common.{◌≡◌, ◌-◌, ℕ, refl, sym, ◌∙◌, ap, Err, Result, arith, rules}
use Rattle.answer.specs.declared.Refusal.{Refusal}
use Rattle.store.specs.Lent.{viewed}
use Rattle.protocol.proofs.Displays.{acknowledgement_fits}
use Rattle.node.specs.Held.{held}
use Rattle.node.specs.View.{lent_of, view}
use Rattle.node.specs.Calls.{answered_of, records_of}
use Rattle.node.proofs.Replies.{refused_answered}
use Rattle.call_displays.proofs.Calls.{Ready, ready, still_some, acknowledge_host_refused, acknowledge_refused, acknowledge_done}
use Rattle.call_displays.proofs.acknowledge.Goals as goal

pub returns-in_err-host_refusal-clause-called : goal.returns-in_err-host_refusal-clause-called
returns-in_err-host_refusal-clause-called c =
    let a = c.args in
    let refusal = c.in_err-host_refusal.field-0.0 in
    let same : c.from_residual.result ≡ Err refusal = search rules in
    ap (λ (r : Result ℕ Refusal). answered_of r a.state.now (lent_of (viewed a.readings) a.sent.now) a.area.now) same ∙
    refused_answered refusal a.state.now (lent_of (viewed a.readings) a.sent.now) a.area.now ∙
    acknowledge_host_refused (held a.state.now) (lent_of (viewed a.readings) a.sent.now) a.area.now a.display a.id refusal
    (c.in_err-host_refusal.ensures a.area.now refl)

pub acknowledgement_answer-requires : goal.acknowledgement_answer-requires
acknowledgement_answer-requires c =
    let a = c.args in
    let r : Ready (held a.state.now) (lent_of (viewed a.readings) a.sent.now) a.area.now =
    ready (held a.state.now) (lent_of (viewed a.readings) a.sent.now) a.area.now (search rules) (c.in_ok-host_refusal.ensures a.area.now refl) in
    r.few

pub returns-in_err-acknowledgement_answer-clause-called : goal.returns-in_err-acknowledgement_answer-clause-called
unfolding view
returns-in_err-acknowledgement_answer-clause-called c =
    let a = c.args in
    let r : Ready (held a.state.now) (lent_of (viewed a.readings) a.sent.now) a.area.now =
    ready (held a.state.now) (lent_of (viewed a.readings) a.sent.now) a.area.now (search rules) (c.in_ok-host_refusal.ensures a.area.now refl) in
    let refusal = c.in_err-acknowledgement_answer.field-0.0 in
    let same : c.from_residual-in_err-acknowledgement_answer.result ≡ Err refusal = search rules in
    ap (λ (r : Result ℕ Refusal). answered_of r a.state.now (lent_of (viewed a.readings) a.sent.now) a.area.now) same ∙
    refused_answered refusal a.state.now (lent_of (viewed a.readings) a.sent.now) a.area.now ∙
    acknowledge_refused (held a.state.now) (lent_of (viewed a.readings) a.sent.now) a.area.now a.display a.id r.host refusal
    (c.in_err-acknowledgement_answer.ensures (view (held a.state.now) (viewed a.readings)) refl refl)

pub shared_ref_as_front-least : goal.shared_ref_as_front-least
shared_ref_as_front-least c =
    let a = c.args in
    let r : Ready (held a.state.now) (lent_of (viewed a.readings) a.sent.now) a.area.now =
    ready (held a.state.now) (lent_of (viewed a.readings) a.sent.now) a.area.now (search rules) (c.in_ok-host_refusal.ensures a.area.now refl) in
    omega (arith, r.few)

pub least-from-requires : goal.least-from-requires
least-from-requires c =
    let a = c.args in
    let r : Ready (held a.state.now) (lent_of (viewed a.readings) a.sent.now) a.area.now =
    ready (held a.state.now) (lent_of (viewed a.readings) a.sent.now) a.area.now (search rules) (c.in_ok-host_refusal.ensures a.area.now refl) in
    r.some

pub overflow_sub-state : goal.overflow_sub-state
unfolding view
overflow_sub-state c =
    let a = c.args in
    let fits = acknowledgement_fits a.state.now.settings (view (held a.state.now) (viewed a.readings)) a.display a.id
    (sym (c.in_ok-acknowledgement_answer.ensures (view (held a.state.now) (viewed a.readings)) refl refl)) in
    fits.first

pub bounds-state-display : goal.bounds-state-display
unfolding view
bounds-state-display c =
    let a = c.args in
    let r : Ready (held a.state.now) (lent_of (viewed a.readings) a.sent.now) a.area.now =
    ready (held a.state.now) (lent_of (viewed a.readings) a.sent.now) a.area.now (search rules) (c.in_ok-host_refusal.ensures a.area.now refl) in
    let fits = acknowledgement_fits a.state.now.settings (view (held a.state.now) (viewed a.readings)) a.display a.id
    (sym (c.in_ok-acknowledgement_answer.ensures (view (held a.state.now) (viewed a.readings)) refl refl)) in
    omega (arith, fits.first, fits.last, r.few)

pub least-to-requires : goal.least-to-requires
least-to-requires c =
    let a = c.args in
    let r : Ready (held a.state.now) (lent_of (viewed a.readings) a.sent.now) a.area.now =
    ready (held a.state.now) (lent_of (viewed a.readings) a.sent.now) a.area.now (search rules) (c.in_ok-host_refusal.ensures a.area.now refl) in
    still_some (held a.state.now) (lent_of (viewed a.readings) a.sent.now) a.area.now r (a.display - 1) a.id

pub give_up-requires : goal.give_up-requires
give_up-requires c =
    let a = c.args in
    let r : Ready (held a.state.now) (lent_of (viewed a.readings) a.sent.now) a.area.now =
    ready (held a.state.now) (lent_of (viewed a.readings) a.sent.now) a.area.now (search rules) (c.in_ok-host_refusal.ensures a.area.now refl) in
    r.host.sent

pub returns-clause-called : goal.returns-clause-called
unfolding view records_of
returns-clause-called c =
    let a = c.args in
    let r : Ready (held a.state.now) (lent_of (viewed a.readings) a.sent.now) a.area.now =
    ready (held a.state.now) (lent_of (viewed a.readings) a.sent.now) a.area.now (search rules) (c.in_ok-host_refusal.ensures a.area.now refl) in
    acknowledge_done (held a.state.now) (lent_of (viewed a.readings) a.sent.now) a.area.now a.display a.id r.host
    (sym (c.in_ok-acknowledgement_answer.ensures (view (held a.state.now) (viewed a.readings)) refl refl))
    c.least-from.ensures c.least-to.ensures c.give_up.ensures
