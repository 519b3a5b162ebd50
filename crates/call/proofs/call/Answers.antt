-- `call::call` meets its contract: a call that is refused changes nothing, and what an accepted one leaves is what `accept` ensures.
use Rattle.std.proofs.Common.{◌≡◌, refl, sym, ap, subst, ◌∙◌, List, ℕ, Option, Result, Err, rules}
use Rattle.answer.specs.declared.Refusal.{Refusal}
use Rattle.answer.specs.Refusals.{number}
use Rattle.journal.specs.declared.Call.{Call}
use Rattle.journal.specs.ReadLine.{call_of}
use Rattle.node.specs.Held.{Held, held}
use Rattle.node.specs.View.{Lent, lent}
use Rattle.node.specs.Calls.{called_of, refused_with, called_on}
use Rattle.node.proofs.Replies.{refused_called}
use Rattle.call_decision.specs.Deciding.{decided_on, numbered}
use Rattle.call_decision.proofs.Answers.{Passed, Answered, answered}
use Rattle.call.proofs.call.Goals as goal

-- what is decided of a text is what it answers
decided :
    (st : Held) (x : Lent) (text area : List ℕ) {read : Option Call} {r d : Result Call Refusal} → read ≡ call_of text →
    numbered r ≡ decided_on st x read area → r ≡ d → Answered st x text area (numbered d)
decided st x text area told e f =
    let same = ap (λ (read : Option Call). decided_on st x read area) told in
    subst (Answered st x text area) (sym (e ∙ same) ∙ ap numbered f) (answered st x text area)

pub returns-in_err-k-clause-called : goal.returns-in_err-k-clause-called
unfolding Answered numbered
returns-in_err-k-clause-called c =
    let a = c.args in
    let st : Held = held a.state.now in
    let x : Lent = lent a.stores.now in
    let err = c.in_err-k in
    let told = err.was in
    let refusal : Refusal = err.field-0.0 in
    let same : c.from_residual.result ≡ Err refusal = search rules in
    let r : refused_with (number refusal) st x a.area.now ≡ called_on st x a.text.now a.area.now =
    decided st x a.text.now a.area.now c.read_call-read.ensures.value (c.decide.ensures a.area.now refl) told in
    ap (λ (reply : Result ℕ Refusal). called_of reply a.state.now a.stores.now a.area.now) same ∙
    refused_called refusal a.state.now a.stores.now a.area.now ∙ r

pub accept-requires : goal.accept-requires
unfolding Answered numbered
accept-requires c =
    let a = c.args in
    let ok = c.in_ok-k in
    let accepted = ok.was in
    let p : Passed (held a.state.now) (lent a.stores.now) a.text.now a.area.now ok.k =
    decided (held a.state.now) (lent a.stores.now) a.text.now a.area.now c.read_call-read.ensures.value
    (c.decide.ensures a.area.now refl) accepted in
    (p.host, p.call)

pub returns-clause-called : goal.returns-clause-called
unfolding Answered numbered
returns-clause-called c =
    let a = c.args in
    let done = c.in_ok-k in
    let passed = done.was in
    let p : Passed (held a.state.now) (lent a.stores.now) a.text.now a.area.now done.k =
    decided (held a.state.now) (lent a.stores.now) a.text.now a.area.now c.read_call-read.ensures.value
    (c.decide.ensures a.area.now refl) passed in
    c.accept.ensures.done ∙ p.done
