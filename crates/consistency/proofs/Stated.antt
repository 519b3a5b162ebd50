-- The plain table of specs/Plain.antt gives the statement: with proofs/Plain.antt the two are one statement in two texts, and neither can
-- be weakened without the other.
use Prim.Native.Nat.{ℕ, ◌+◌, ◌≤◌}
use mathlib.Core.Path.{◌≡◌, refl, sym, ◌∙◌, ap, ap₂, subst}
use mathlib.Core.Bool.{true, false}
use mathlib.Core.List.{List, [], ◌∷◌, ◌++◌, map, map-map}
use borrow.Author.Tests.{ne_eqb}
use Rattle.std.specs.Prelude.{Some}
use Rattle.record.specs.declared.Record.{Record}
use Rattle.record.specs.Decoded.{decoded}
use Rattle.record.specs.Layout.{bytes_of}
use Rattle.record.specs.Kinds.{is_tentative}
use Rattle.store.specs.declared.Reading.{Reading}
use Rattle.store.specs.Lists.{Every}
use Rattle.store.proofs.Pairs.{every_to, every_both, every_keep, every_mapped}
use Rattle.protocol.specs.Monitor.{stable_buckets}
use Rattle.protocol.specs.FailureFree.{without_arrival, failure_free}
use Rattle.protocol.specs.Undos.{applied, struck, stable_records, done_due}
use Rattle.node.specs.Calls.{called_on}
use Rattle.consistency.specs.Runs.{Box, Input, called, area_of, left, left_after, record_in}
use Rattle.consistency.specs.Accounts.{Account, sent_in}
use Rattle.consistency.specs.Demand.{Handed, opening, is_opened, box_of, settings_in, remaining}
use Rattle.consistency.specs.Demand.{failure_free_records, failure_free_bytes, Steps, Unchanged, Demand3}
use Rattle.consistency.specs.Plain.{Run, settings_on, run_of, is_p, reads_as_step, only_steps, accepted_of, sent_as, sent_on}
use Rattle.consistency.specs.Plain.{results_on, owed, HasForm, HasRoom, LeftAlone, Neither3Nor4, Plain}
use Rattle.consistency.proofs.Forms.{form_read}
use Rattle.consistency.proofs.FormsBack.{room_back}
use Rattle.consistency.proofs.Plain.{box_on, account_on, opened_left, opened_account, opened_bytes}
use Rattle.consistency.proofs.Plain.{opened_remaining, opened_boundaries}

-- steps are plain steps
pub steps_count :
    {b : Box} {n : ℕ} {is : List Input} → Steps b n is →
    (only_steps b.state b.lent is ≡ true) × (accepted_of b.state b.lent is ≡ n)
unfolding only_steps accepted_of reads_as_step is_p called left
steps_count Steps.rest = (refl, refl)
steps_count (Steps.step text area k read kind accepted more) =
    let rest = steps_count more in (rw (accepted, read, kind, rest.0), rw (accepted, rest.1))
steps_count {b} (Steps.refused (Input.journal text area) wasRefused more) =
    let rest = steps_count more in
    let e = ne_eqb (called_on b.state b.lent text area).answer 0 wasRefused in (rw (e, rest.0), rw (e, rest.1))
steps_count (Steps.refused (Input.acknowledge display id area) wasRefused more) = steps_count more
steps_count (Steps.refused (Input.fetch display from area) wasRefused more) = steps_count more
steps_count (Steps.acknowledge display id area more) = steps_count more
steps_count (Steps.fetch display from area more) = steps_count more

sent_again : (lines : List (List Reading)) → map (map sent_as) lines ≡ map (map sent_as) (map (map without_arrival) lines)
unfolding sent_as without_arrival
sent_again [] = refl
sent_again (rs ∷ lines) = ap₂ ◌∷◌ (sym (map-map sent_as without_arrival rs)) (sent_again lines)

sent_equal : (y z : Run) (ids others : List ℕ) → sent_in (account_on y ids) ≡ sent_in (account_on z others) → sent_on y ≡ sent_on z
unfolding sent_in sent_on
sent_equal y z ids others e = sent_again y.stables ∙ ap (map (map sent_as)) e ∙ sym (sent_again z.stables)

unchanged : Plain → (b : Box) (i : Input) → ((called b i).answer ≡ 0 → ⊥) → Unchanged b i
unfolding Unchanged left called area_of
unchanged p b i wasRefused =
    let same = alone i wasRefused in (λ j. record { state = same.0 j; lent = same.1 j }, same.2, same.3)
  where
    alone : (i : Input) → ((called b i).answer ≡ 0 → ⊥) → LeftAlone b.state b.lent (area_of i) (called b i)
    alone (Input.journal text area) e = p.refused b.state b.lent text area e
    alone (Input.acknowledge display id area) e = p.refused_acknowledgement b.state b.lent display id area e
    alone (Input.fetch display from area) e = p.refused_fetch b.state b.lent display from area e

in_shape_lem :
    Plain → (h : Handed) → is_opened h → (is : List Input) (i : Input) →
    ((called (left_after (box_of h) is) i).answer ≡ 3 → ⊥) × ((called (left_after (box_of h) is) i).answer ≡ 4 → ⊥)
unfolding is_opened opening called
in_shape_lem p h e is i =
    subst (λ (b : Box). Neither3Nor4 (called b i).answer) (sym (opened_left h.state h.lent h.text is)) (neither i)
  where
    neither : (i : Input) → Neither3Nor4 (called (box_on (run_of h.state h.lent h.text is)) i).answer
    neither (Input.journal text area) = p.in_shape h.state h.lent h.text e is text area
    neither (Input.acknowledge display id area) = p.in_shape_to_acknowledge h.state h.lent h.text e is display id area
    neither (Input.fetch display from area) = p.in_shape_to_fetch h.state h.lent h.text e is display from area

pub stated : Plain → Demand3
unfolding is_opened opening settings_in settings_on failure_free_records failure_free_bytes results_on owed stable_records stable_buckets Unchanged called left
stated p =
    record {
      clean = λ h e is.
          let s = settings_in h in
          let y = run_of h.state h.lent h.text is in
          let c = p.clean h.state h.lent h.text e is in
          let account = opened_account h.state h.lent h.text is in
          let bytes = opened_bytes h.state h.lent h.text is in
          record {
            tentative = c.rest;
            undone =
                ap (applied record_in []) bytes ∙ c.undone ∙
                ap (λ (a : Account). map bytes_of (failure_free s a.stables a.monitor.d).records ++ c.rest) (sym account);
            all_tentative = c.rest_tentative;
            never_struck =
                subst (λ (bs : List (List ℕ)). Every (λ (b : List ℕ). is_tentative (record_in b).kind ≡ true) (struck record_in [] bs))
                (sym bytes) c.struck_tentative;
            as_they_came =
                ap (stable_records record_in) bytes ∙ c.stables ∙
                ap (λ (a : Account). map bytes_of (failure_free s a.stables a.monitor.d).records) (sym account);
            all_records =
                subst (Every (λ (b : List ℕ). decoded b ≡ Some (record_in b))) (sym bytes) (every_to y.bytes form_read c.forms);
            uncut =
                subst
                (λ (a : Account). Every (λ (r : Record). record_in (bytes_of r) ≡ r) (failure_free s a.stables a.monitor.d).records)
                (sym account)
                (every_to (results_on s y) room_back
                (every_both (λ (r : Record). HasForm (bytes_of r)) HasRoom (results_on s y)
                (every_mapped bytes_of HasForm (results_on s y) (subst (Every HasForm) c.stables (every_keep HasForm _ y.bytes c.forms)))
                c.rooms));
            worked = subst (λ (a : Account). a.monitor.d ≤ stable_buckets s a.monitor) (sym account) c.none_ahead;
          };
      replicas = λ h g eh eg same is js sent boundaries none-h none-g.
          let account = opened_account h.state h.lent h.text is in
          let other = opened_account g.state g.lent g.text js in
          ap (stable_records record_in) (opened_bytes h.state h.lent h.text is) ∙
          p.replicas h.state h.lent h.text g.state g.lent g.text eh eg same is js
          (sent_equal _ _ _ _ (ap sent_in (sym account) ∙ sent ∙ ap sent_in other))
          (sym (opened_boundaries h.state h.lent h.text is) ∙ boundaries ∙ opened_boundaries g.state g.lent g.text js)
          (sym (opened_remaining h.state h.lent h.text is) ∙ none-h)
          (sym (opened_remaining g.state g.lent g.text js) ∙ none-g) ∙
          ap (stable_records record_in) (sym (opened_bytes g.state g.lent g.text js));
      settles = λ h e is js steps.
          let remains = opened_remaining h.state h.lent h.text in
          let count =
          steps_count (subst (λ (b : Box). Steps b (remaining h is + 2) js) (opened_left h.state h.lent h.text is) steps) in
          let settled =
          p.settles h.state h.lent h.text e is js count.0 (count.1 ∙ ap (λ (n : ℕ). n + 2) (remains is)) in (
            remains (is ++ js) ∙ settled.0,
            ap (done_due record_in false) (opened_bytes h.state h.lent h.text (is ++ js)) ∙ settled.1,
          );
      refused = unchanged p;
      in_shape = in_shape_lem p;
    }
