-- `call_decision::lacks_places` meets its contract: no step, or room for any window, or another rule; else the results are counted.
use Rattle.std.proofs.Common.{◌≡◌, refl, sym, ◌∙◌, ap, true, false, ℕ, ◌-◌, ◌≤◌, arith, rules}
use lib.Dec.{ltb}
use Rattle.journal.specs.Kinds.{letter_s}
use Rattle.retransmission.specs.Sizes.{held_results}
use Rattle.operator.specs.Meters.{meter_count}
use Rattle.operator.proofs.Loaded.{length_meters}
use Rattle.protocol.specs.Kinds.{kind_of, is_step}
use Rattle.protocol.specs.declared.Rule.TheVariants as Rule
use Rattle.protocol.specs.Rules.{rule_of}
use Rattle.node.specs.Held.{Held, held}
use Rattle.node.specs.View.{places, view}
use Rattle.call_decision.proofs.LackingPlaces.{Acknowledged, acknowledged, free_in, room_left, other_rule, stable_rule, by_rule}
use Rattle.call_decision.proofs.Stores.{rule_ready}
use Rattle.call_decision.proofs.lacks_places.Goals as goal

pub shared_ref_as_front-least : goal.shared_ref_as_front-least
shared_ref_as_front-least c =
    let st : Held = held c.args.state.now in
    let ids : Acknowledged st = acknowledged st c.requires.0.store (search rules) c.requires.0.is.work.shape c.requires.1 in
    omega (arith, ids.room)

pub least-least-requires : goal.least-least-requires
least-least-requires c =
    let st : Held = held c.args.state.now in
    let ids : Acknowledged st = acknowledged st c.requires.0.store (search rules) c.requires.0.is.work.shape c.requires.1 in
    ids.some

pub overflow_sub-free : goal.overflow_sub-free
overflow_sub-free c =
    let st : Held = held c.args.state.now in
    let ids : Acknowledged st = acknowledged st c.requires.0.store (search rules) c.requires.0.is.work.shape c.requires.1 in
    omega (arith, c.least-least.ensures, ids.known)

pub overflow_sub-free-2 : goal.overflow_sub-free-2
overflow_sub-free-2 c =
    let st : Held = held c.args.state.now in
    let ids : Acknowledged st = acknowledged st c.requires.0.store (search rules) c.requires.0.is.work.shape c.requires.1 in
    omega (arith, c.least-least.ensures, ids.near)

pub returns-then-free : goal.returns-then-free
returns-then-free c x is =
    let a = c.args in
    let st : Held = held a.state.now in
    let free : held_results - (st.checkpoint.number - c.least-least.result) ≡ free_in st =
    ap (λ (least : ℕ). held_results - (st.checkpoint.number - least)) c.least-least.ensures in
    let step : is_step (kind_of a.k.kind) ≡ true = sym c.is_step.ensures ∙ c.if-not-is_step.false in
    let rule = rule_of st.settings (view st x) a.k.now in
    let room : meter_count ≤ free_in st = omega (arith, c.if-free.true, free) in
    by_rule st x (kind_of a.k.kind) a.k.now rule step refl false (room_left st x (length_meters _ _ _) room rule)

pub rule_of-requires : goal.rule_of-requires
rule_of-requires c =
    let r = rule_ready (held c.args.state.now) c.args.readings.now c.requires.0 in (r.limits, r.of_times, r.of_arrivals, r.heads)

pub returns-then-ne : goal.returns-then-ne
unfolding places
returns-then-ne c x is =
    let a = c.args in
    let st : Held = held a.state.now in
    let step : is_step (kind_of a.k.kind) ≡ true = sym c.is_step.ensures ∙ c.if-not-is_step.false in
    let applies : c.rule_of.result ≡ rule_of st.settings (view st x) a.k.now =
    c.rule_of.ensures.value x is.work.of_times is.of_arrivals is.work.room in
    by_rule st x (kind_of a.k.kind) a.k.now c.rule_of.result step applies false
    (other_rule st x c.rule_of.result (search rules))

pub returns : goal.returns
unfolding places
returns c x is =
    let a = c.args in
    let st : Held = held a.state.now in
    let free : held_results - (st.checkpoint.number - c.least-least.result) ≡ free_in st =
    ap (λ (least : ℕ). held_results - (st.checkpoint.number - least)) c.least-least.ensures in
    let step : is_step (kind_of a.k.kind) ≡ true = sym c.is_step.ensures ∙ c.if-not-is_step.false in
    let applies : c.rule_of.result ≡ rule_of st.settings (view st x) a.k.now =
    c.rule_of.ensures.value x is.work.of_times is.of_arrivals is.work.room in
    let stable : c.rule_of.result ≡ Rule.WorkStable = search rules in
    let room = held_results - (st.checkpoint.number - c.least-least.result) in
    by_rule st x (kind_of a.k.kind) a.k.now Rule.WorkStable step (sym stable ∙ applies)
    (ltb room c.results_ahead.result) (stable_rule st x room c.results_ahead.result free (c.results_ahead.ensures x is.work letter_s))
