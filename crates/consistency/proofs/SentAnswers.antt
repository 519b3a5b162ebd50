-- Answers 5, 15, 16 and 17 taken apart: a display's call by the three tests behind the store's and the state's, and a step that is refused
-- for want of places by the tests before it.
use Prim.Native.Nat.{ℕ, suc, ◌+◌, ◌-◌, ◌/◌, ◌≤◌, ◌<◌}
use mathlib.Core.Path.{◌≡◌, refl, sym, ◌∙◌, ap, subst}
use mathlib.Core.Bool.{Bool, true, false, cond, ◌||◌, true≢false}
use mathlib.Core.List.{List}
use mathlib.Core.Logic.{◌↔◌}
use native.Mathlib.Omega.{arith}
use borrow.Author.Tests.{ltb-true, ltb-false, leb-true, eqb-true, not-false, le-leb, le-ltb, lt-ltb, lt-leb, leb-false}
use lib.Dec.{leb, ltb, eqb}
use lib.ListN.{length, length-append}
use Rattle.std.specs.Prelude.{Some}
use Rattle.clock.specs.declared.ArrivalTick.{ArrivalTick}
use Rattle.settings.specs.declared.Settings.{Settings}
use Rattle.journal.specs.declared.Call.{Call}
use Rattle.journal.specs.Kinds.{letter_s}
use Rattle.store.proofs.Choices.{and_parts}
use Rattle.operator.specs.Meters.{Operator}
use Rattle.retransmission.specs.Sizes.{held_results}
use Rattle.protocol.specs.Node.{Node, is_stable_bucket}
use Rattle.protocol.specs.Refusals.{first_failed, answer_to}
use Rattle.protocol.specs.Rules.{first_rule, rule_of, worked}
use Rattle.protocol.specs.Displays.{least_of, given_up_to, free_places, lacks_places, wrong_display, last_of, wrong_acknowledgement, wrong_fetch}
use Rattle.protocol.specs.Displays.{answer_to_acknowledgement, answer_to_fetch}
use Rattle.protocol.specs.Monitor.{least_boundary, stable_buckets}
use Rattle.protocol.specs.FailureFree.{failure_free}
use Rattle.protocol.specs.Runs.{Trace}
use Rattle.protocol.proofs.Rules.{stable_least, same_least}
use Rattle.protocol.proofs.Acceptance.{Bare, refused_15}
use Rattle.protocol.proofs.Counts.{failure_free_count}
use Rattle.protocol.proofs.Displays.{neither, least_below}
use Rattle.protocol.proofs.Invariant.{worked_free}
use Rattle.protocol.proofs.SentBack.{Kept, held_after}
use Rattle.node.specs.Sizes.{area_bytes}
use Rattle.node.specs.View.{Lent, view}
use Rattle.node.specs.Held.{Held}
use Rattle.node.specs.Calls.{Called, refused_with, called_with}
use Rattle.node.proofs.Calls.{laid_down}
use Rattle.consistency.specs.SentBack.{Answers, IsStep, LacksPlaces}
use Rattle.consistency.proofs.Runs.{account_in}

-- ---- a display's call

-- behind the store's and the state's tests the answer is 5, or the call's own
pub display_answer :
    (st : Held) (x : Lent) (area : List ℕ) (down : Called) (own host : ℕ) →
    down.answer ≡ 0 → host ≡ cond (ltb (length area) area_bytes) 5 0 →
    (cond (eqb host 0) (cond (eqb own 0) down (refused_with own st x area)) (refused_with host st x area)).answer ≡
    cond (ltb (length area) area_bytes) 5 own
unfolding refused_with
display_answer st x area down own host none e =
    rw e
    (elim (ltb (length area) area_bytes) as
    (λ b.
    (cond (eqb (cond b 5 0) 0) (cond (eqb own 0) down (refused_with own st x area)) (refused_with (cond b 5 0) st x area)).answer ≡
    cond b 5 own) [
      | true ↦ refl
      | false ↦
          (elim (eqb own 0) as (λ b. eqb own 0 ≡ b → (cond b down (refused_with own st x area)).answer ≡ own) [
            | true ↦ λ q. none ∙ sym (eqb-true _ _ q)
            | false ↦ λ q. refl
          ])
          refl
    ])

module _ (area : List ℕ) (named fits : Type 0) where
  -- by the three tests, each true where it fails
  pub by_tests :
      (a w v : Bool) → ltb (length area) area_bytes ≡ a → (w ≡ false) ↔ named → (named → (v ≡ false) ↔ fits) →
      Answers area named fits (cond a 5 (cond w 16 (cond v 17 0)))
  by_tests true w v e d f =
      let low : length area < area_bytes = ltb-true _ _ e in
      record {
        short = (λ _. low, λ _. refl);
        no_display = (λ q. absurd (omega arith), λ p. absurd (omega (arith, p.0)));
        wrong_id = (λ q. absurd (omega arith), λ p. absurd (omega (arith, p.0)));
        accepted = (λ q. absurd (omega arith), λ p. absurd (omega (arith, p.0)));
      }
  by_tests false true v e d f =
      let whole : area_bytes ≤ length area = ltb-false _ _ e in
      let none : named → ⊥ = λ p. true≢false (d.1 p) in
      record {
        short = (λ q. absurd (omega arith), λ p. absurd (omega arith));
        no_display = (λ _. (whole, none), λ _. refl);
        wrong_id = (λ q. absurd (omega arith), λ p. absurd (none p.1));
        accepted = (λ q. absurd (omega arith), λ p. absurd (none p.1));
      }
  by_tests false false true e d f =
      let whole : area_bytes ≤ length area = ltb-false _ _ e in
      let unfit : fits → ⊥ = λ p. true≢false ((f (d.0 refl)).1 p) in
      record {
        short = (λ q. absurd (omega arith), λ p. absurd (omega arith));
        no_display = (λ q. absurd (omega arith), λ p. absurd (p.1 (d.0 refl)));
        wrong_id = (λ _. (whole, d.0 refl, unfit), λ _. refl);
        accepted = (λ q. absurd (omega arith), λ p. absurd (unfit p.2));
      }
  by_tests false false false e d f =
      let whole : area_bytes ≤ length area = ltb-false _ _ e in
      record {
        short = (λ q. absurd (omega arith), λ p. absurd (omega arith));
        no_display = (λ q. absurd (omega arith), λ p. absurd (p.1 (d.0 refl)));
        wrong_id = (λ q. absurd (omega arith), λ p. absurd (p.2 ((f (d.0 refl)).0 refl)));
        accepted = (λ _. (whole, d.0 refl, (f (d.0 refl)).0 refl), λ _. refl);
      }

display_fits : (s : Settings) (display : ℕ) → (wrong_display s display ≡ false) ↔ ((1 ≤ display) × (display ≤ s.displays))
unfolding wrong_display
display_fits s display = (
  λ e. let p = and_parts (leb 1 display) (leb display s.displays) (not-false _ e) in (leb-true _ _ p.0, leb-true _ _ p.1),
  λ p. rw (le-leb 1 display p.0, le-leb display s.displays p.1),
)

-- an acknowledgement, by the numbers that its tests compare
pub acknowledgement_answers :
    (s : Settings) (n : Node) (display id last newest : ℕ) (area : List ℕ) →
    last_of n.acknowledged display ≡ last → n.checkpoint.number ≡ newest →
    Answers area ((1 ≤ display) × (display ≤ s.displays)) ((last ≤ id) × (id ≤ newest))
    (cond (ltb (length area) area_bytes) 5 (answer_to_acknowledgement s n display id))
unfolding answer_to_acknowledgement first_failed wrong_acknowledgement
acknowledgement_answers s n display id last newest area el en =
    by_tests area ((1 ≤ display) × (display ≤ s.displays)) ((last ≤ id) × (id ≤ newest)) (ltb (length area) area_bytes)
    (wrong_display s display) (ltb id (last_of n.acknowledged display) || ltb n.checkpoint.number id) refl (display_fits s display) (λ _. (
      λ e.
          let p = neither (ltb id (last_of n.acknowledged display)) (ltb n.checkpoint.number id) e in
          let low : last_of n.acknowledged display ≤ id = ltb-false _ _ p.0 in
          let high : id ≤ n.checkpoint.number = ltb-false _ _ p.1 in
          (omega (arith, el), omega (arith, en)),
      λ p.
          let low : last_of n.acknowledged display ≤ id = omega (arith, p.0, el) in
          let high : id ≤ n.checkpoint.number = omega (arith, p.1, en) in
          rw (le-ltb id (last_of n.acknowledged display) low, le-ltb n.checkpoint.number id high),
    ))

pub fetch_answers :
    (s : Settings) (n : Node) (display from least newest : ℕ) (area : List ℕ) →
    given_up_to n ≡ least → n.checkpoint.number ≡ newest →
    Answers area ((1 ≤ display) × (display ≤ s.displays)) ((least < from) × (from ≤ suc newest))
    (cond (ltb (length area) area_bytes) 5 (answer_to_fetch s n display from))
unfolding answer_to_fetch first_failed wrong_fetch
fetch_answers s n display from least newest area el en =
    by_tests area ((1 ≤ display) × (display ≤ s.displays)) ((least < from) × (from ≤ suc newest)) (ltb (length area) area_bytes)
    (wrong_display s display) (leb from (given_up_to n) || ltb (suc n.checkpoint.number) from) refl (display_fits s display) (λ _. (
      λ e.
          let p = neither (leb from (given_up_to n)) (ltb (suc n.checkpoint.number) from) e in
          let low : given_up_to n < from = leb-false _ _ p.0 in
          let high : from ≤ suc n.checkpoint.number = ltb-false _ _ p.1 in
          (omega (arith, el), omega (arith, en)),
      λ p.
          let low : given_up_to n < from = omega (arith, p.0, el) in
          let high : from ≤ suc n.checkpoint.number = omega (arith, p.1, en) in
          rw (lt-leb from (given_up_to n) low, le-ltb (suc n.checkpoint.number) from high),
    ))

-- ---- a step refused for want of places

-- exactly the steps that pass everything else and lack places
wanting_places :
    (s : Settings) (n : Node) (k : Call) →
    (answer_to s n k ≡ 15) ↔ (IsStep n.clock k × (lacks_places s n (rule_of s n k.now) ≡ true))
wanting_places s n k = (
  λ e.
      let f = (refused_15 s n k).0 e in
      let bare = f.1.bare in (
        record {
          kind = f.0;
          on_time = f.1.on_time;
          no_line = f.1.no_line;
          no_id = bare.no_id;
          no_time = bare.no_time;
          no_meter = bare.no_meter;
          no_value = bare.no_value;
        },
        f.2,
      ),
  λ p.
      let q = p.0 in
      let bare : Bare k = record { no_id = q.no_id; no_time = q.no_time; no_meter = q.no_meter; no_value = q.no_value } in
      (refused_15 s n k).1 (q.kind, record { on_time = q.on_time; no_line = q.no_line; bare = bare }, p.1),
)

-- rule 2 lacks places exactly where the results through the next stable bucket would
module _ (s : Settings) (room : 0 < s.bucket) (t : Trace) (v : Kept s t) where
  lacks_there : (now : ArrivalTick) → LacksPlaces s (account_in t) → lacks_places s t.node (rule_of s t.node now) ≡ true
  unfolding account_in stable_buckets rule_of first_rule lacks_places free_places given_up_to
  lacks_there now l =
      let i = v.invariant in
      let n = t.node in
      let level : n.p ≡ n.c = i.same_p ∙ l.level ∙ sym i.same_c in
      let high : n.c < least_boundary t.monitor.lines / s.bucket =
      subst (λ (c : ℕ). c < least_boundary t.monitor.lines / s.bucket) (sym i.same_c) l.stable in
      let stable : is_stable_bucket s n.c n.lines ≡ true =
      stable_least s n.c n.lines room i.some ∙
      ap (λ (b : ℕ). ltb n.c (b / s.bucket)) (same_least s n.c i.lines) ∙ lt-ltb _ _ high in
      let all :
      length (failure_free s t.stables (suc n.c)).records ≡
      length (failure_free s t.stables n.c).records + length (worked s letter_s n.c n).records =
      ap length (worked_free s room t i stable level) ∙
      length-append (failure_free s t.stables n.c).records (worked s letter_s n.c n).records in
      let count : n.checkpoint.number ≡ length (failure_free s t.stables n.c).records =
      ap (λ (o : Operator). o.number) i.output.at_checkpoint ∙ failure_free_count s t.stables n.c in
      let many : least_of n.acknowledged + held_results < length (failure_free s t.stables (suc n.c)).records =
      subst (λ (c : ℕ). least_of n.acknowledged + held_results < length (failure_free s t.stables (suc c)).records) (sym i.same_c)
      (subst (λ (ids : List ℕ). least_of ids + held_results < length (failure_free s t.stables (suc t.monitor.d)).records)
      (sym v.same) l.many) in
      let few : held_results - (n.checkpoint.number - least_of n.acknowledged) < length (worked s letter_s n.c n).records =
      omega (arith, many, all, count, v.held.few, least_below n.checkpoint.number n.acknowledged v.held.below) in
      let behind : ltb n.c n.p ≡ false = le-ltb _ _ (let q : n.p ≤ n.c = omega (arith, level) in q) in
      rw (stable, behind) (lt-ltb _ _ few)

  pub step_15 : (k : Call) → (answer_to s t.node k ≡ 15) ↔ (IsStep t.node.clock k × LacksPlaces s (account_in t))
  unfolding account_in
  step_15 k = (
    λ e.
        let full = (held_after s room t v).full k e in
        (((wanting_places s t.node k).0 e).0, record { stable = full.1; level = full.2; many = full.3 }),
    λ p. (wanting_places s t.node k).1 (p.0, lacks_there k.now p.1),
  )

-- past the host's tests the answer is that to the call that was read, or 6
pub read_answer :
    (st : Held) (x : Lent) (area : List ℕ) (k : Call) →
    (called_with st x area (Some k)).answer ≡ answer_to st.settings (view st x.readings) k
unfolding called_with refused_with
read_answer st x area k =
    (elim (eqb (answer_to st.settings (view st x.readings) k) 0) as
    (λ a.
    eqb (answer_to st.settings (view st x.readings) k) 0 ≡ a →
    (cond a (laid_down st x area k) (refused_with (answer_to st.settings (view st x.readings) k) st x area)).answer ≡
    answer_to st.settings (view st x.readings) k) [
      | true ↦ λ q. sym (eqb-true _ _ q)
      | false ↦ λ q. refl
    ])
    refl
