-- The statement gives demand 3 in the plain words of specs/Plain.antt: by induction on the list a plain run leaves what the statement's
-- lists of calls leave, and the statement's conditions are met by the plain ones. Uses the statement and not its proof.
use Prim.Native.Nat.{ℕ, zero, suc, ◌+◌, ◌≤◌}
use mathlib.Core.Path.{◌≡◌, refl, sym, ◌∙◌, ap, ap₂, subst}
use mathlib.Core.Bool.{Bool, true, false, cond, ◌&&◌, false≢true}
use mathlib.Core.List.{List, [], ◌∷◌, ◌++◌, map, map-map, append-nil, append_assoc}
use borrow.Author.Tests.{eqb-true, eqb-false}
use lib.Dec.{eqb}
use lib.ListN.{take, drop}
use Rattle.std.specs.Prelude.{Option, Some, None}
use Rattle.journal.specs.declared.Call.{Call}
use Rattle.settings.specs.declared.Settings.{Settings}
use Rattle.journal.specs.ReadLine.{call_of}
use Rattle.record.specs.Sizes.{record_bytes}
use Rattle.record.specs.Layout.{bytes_of}
use Rattle.record.specs.Kinds.{is_tentative}
use Rattle.retransmission.specs.Places.{pieces}
use Rattle.store.specs.declared.Reading.{Reading}
use Rattle.store.specs.Lists.{Every}
use Rattle.store.proofs.Choices.{and_parts}
use Rattle.store.proofs.Pairs.{every_to}
use Rattle.protocol.specs.Kinds.{Kind, kind_of}
use Rattle.protocol.specs.Monitor.{stable_buckets, left_to_work}
use Rattle.protocol.specs.FailureFree.{without_arrival, failure_free}
use Rattle.protocol.specs.Undos.{applied, struck, stable_records, done_due}
use Rattle.node.specs.Held.{Held}
use Rattle.node.specs.View.{Lent}
use Rattle.node.specs.Calls.{called_on}
use Rattle.node.specs.Displays.{acknowledged_on, fetched_on}
use Rattle.consistency.specs.Runs.{Box, Input, called, area_of, left, left_after, given, output, record_in}
use Rattle.consistency.specs.Accounts.{Account, empty_account, account_with, account_next, account_after, sent_in, boundaries_in}
use Rattle.consistency.specs.Demand.{Handed, opening, is_opened, box_of, settings_in, account_of, output_of, remaining}
use Rattle.consistency.specs.Demand.{failure_free_records, failure_free_bytes, Steps, Unchanged, Demand3}
use Rattle.consistency.specs.Plain.{Run, cut, noted, counted, begun, answered, passed_over, continued, settings_on, run_of}
use Rattle.consistency.specs.Plain.{is_p, reads_as_step, only_steps, accepted_of, Sent, sent_as, sent_on, boundaries_on, left_on}
use Rattle.consistency.specs.Plain.{results_on, owed, HasForm, HasRoom, LeftAlone, Neither3Nor4, Plain}
use Rattle.consistency.proofs.Forms.{form_of, room_of}

-- ---- a plain run is a list of calls

abbrev pub box_on : Run → Box
box_on y = record { state = y.state; lent = y.lent }

-- with what the displays have acknowledged, of which the table does not speak
abbrev pub account_on : Run → List ℕ → Account
account_on y ids = record { monitor = y.monitor; stables = y.stables; acknowledged = ids }

cut_is : (n : ℕ) (area : List ℕ) → cut n area ≡ pieces n area
unfolding cut pieces
cut_is zero area = refl
cut_is (suc n) area = ap (◌∷◌ (take record_bytes area)) (cut_is n (drop record_bytes area))

noted_is :
    (s : Settings) (a : Account) (read : Option Call) (accepted : Bool) →
    account_with s a read accepted ≡
    record {
      monitor = noted s a.monitor read accepted;
      stables = counted a.stables read accepted;
      acknowledged = a.acknowledged;
    }
unfolding account_with noted counted
noted_is s a (Some k) accepted = refl
noted_is s a None accepted = refl

left_is : (s : Settings) (y : Run) (is : List Input) → left_after (box_on y) is ≡ box_on (continued s y is)
unfolding left_after continued answered passed_over left called
left_is s y [] = refl
left_is s y (Input.journal text area ∷ is) =
    left_is s (answered s y (call_of text) (called_on y.state y.lent text area)) is
left_is s y (Input.acknowledge display id area ∷ is) =
    left_is s (passed_over y (acknowledged_on y.state y.lent display id area)) is
left_is s y (Input.fetch display from area ∷ is) =
    left_is s (passed_over y (fetched_on y.state y.lent display from area)) is

-- an account is that of a run, whatever was acknowledged
abbrev IsOf : Run → Account → Type 0
IsOf y a = a ≡ account_on y a.acknowledged

account_is :
    (s : Settings) (y : Run) (ids : List ℕ) (is : List Input) → IsOf (continued s y is) (account_after s (account_on y ids) (box_on y) is)
unfolding account_after account_next continued answered passed_over left called
account_is s y ids [] = refl
account_is s y ids (Input.journal text area ∷ is) =
    let r = called_on y.state y.lent text area in
    let z = answered s y (call_of text) r in
    subst (λ (a : Account). IsOf (continued s z is) (account_after s a (box_on z) is))
    (sym (noted_is s (account_on y ids) (call_of text) (eqb r.answer 0))) (account_is s z ids is)
account_is s y ids (Input.acknowledge display id area ∷ is) =
    account_is s (passed_over y (acknowledged_on y.state y.lent display id area)) _ is
account_is s y ids (Input.fetch display from area ∷ is) =
    account_is s (passed_over y (fetched_on y.state y.lent display from area)) ids is

bytes_are : (s : Settings) (y : Run) (is : List Input) → y.bytes ++ output (box_on y) is ≡ (continued s y is).bytes
unfolding output given continued answered passed_over left called
bytes_are s y [] = append-nil y.bytes
bytes_are s y (Input.journal text area ∷ is) =
    let r = called_on y.state y.lent text area in
    let z = answered s y (call_of text) r in
    sym (append_assoc y.bytes (pieces r.records r.area) (output (box_on z) is)) ∙
    ap (λ (bs : List (List ℕ)). (y.bytes ++ bs) ++ output (box_on z) is) (sym (cut_is r.records r.area)) ∙
    bytes_are s z is
bytes_are s y (Input.acknowledge display id area ∷ is) =
    bytes_are s (passed_over y (acknowledged_on y.state y.lent display id area)) is
bytes_are s y (Input.fetch display from area ∷ is) =
    bytes_are s (passed_over y (fetched_on y.state y.lent display from area)) is

-- ---- plain steps are steps

step_kind : (kind : Kind) → is_p kind ≡ true → kind ≡ Kind.P
unfolding is_p
step_kind Kind.S e = absurd (false≢true e)
step_kind Kind.T e = absurd (false≢true e)
step_kind Kind.B e = absurd (false≢true e)
step_kind Kind.U e = absurd (false≢true e)
step_kind Kind.R e = absurd (false≢true e)
step_kind Kind.P e = refl

one_step :
    (b : Box) (n : ℕ) (is : List Input) (text area : List ℕ) (read : Option Call) → call_of text ≡ read → reads_as_step read ≡ true →
    (called b (Input.journal text area)).answer ≡ 0 → Steps (left b (Input.journal text area)) n is →
    Steps b (suc n) (Input.journal text area ∷ is)
unfolding reads_as_step
one_step b n is text area (Some k) q e a more = Steps.step text area k q (step_kind (kind_of k.kind) e) a more
one_step b n is text area None q e a more = absurd (false≢true e)

pub steps_are :
    (st : Held) (x : Lent) (is : List Input) → only_steps st x is ≡ true →
    Steps (record { state = st; lent = x }) (accepted_of st x is) is
unfolding only_steps accepted_of called left
steps_are st x [] e = Steps.rest
steps_are st x (Input.journal text area ∷ is) e =
    let r = called_on st x text area in
    let b : Box = record { state = st; lent = x } in
    let n = accepted_of r.state r.lent is in
    (elim (eqb r.answer 0) as
    (λ t.
    eqb r.answer 0 ≡ t → cond t (reads_as_step (call_of text)) true && only_steps r.state r.lent is ≡ true →
    Steps b (cond t (suc n) n) (Input.journal text area ∷ is)) [
      | true ↦ λ t e.
          let both = and_parts (reads_as_step (call_of text)) (only_steps r.state r.lent is) e in
          one_step b n is text area (call_of text) refl both.0 (eqb-true _ _ t) (steps_are r.state r.lent is both.1)
      | false ↦ λ t e. Steps.refused (Input.journal text area) (eqb-false _ _ t) (steps_are r.state r.lent is e)
    ])
    refl e
steps_are st x (Input.acknowledge display id area ∷ is) e =
    let r = acknowledged_on st x display id area in
    Steps.acknowledge display id area (steps_are r.state r.lent is e)
steps_are st x (Input.fetch display from area ∷ is) e =
    let r = fetched_on st x display from area in
    Steps.fetch display from area (steps_are r.state r.lent is e)

-- ---- what is compared

-- a reading is made again from what is compared of it
abbrev made_of : Sent → Reading
made_of c =
    record { id = c.id; time = c.time; value = c.value; arrival = record { 0 = 0 }; kind = c.kind; meter = c.meter }

made : (rs : List Reading) → map without_arrival rs ≡ map made_of (map sent_as rs)
unfolding without_arrival sent_as
made rs = sym (map-map made_of sent_as rs)

all_made : (lines : List (List Reading)) → map (map without_arrival) lines ≡ map (map made_of) (map (map sent_as) lines)
all_made [] = refl
all_made (rs ∷ lines) = ap₂ ◌∷◌ (made rs) (all_made lines)

-- ---- whole

abbrev pub handed_of : Held → Lent → List ℕ → Handed
handed_of st x text = record { state = st; lent = x; text = text }

-- from the opening on
module _ (st : Held) (x : Lent) (text : List ℕ) (is : List Input) where
  pub opened_left : left_after (box_of (handed_of st x text)) is ≡ box_on (run_of st x text is)
  unfolding box_of opening run_of begun
  opened_left = left_is (settings_on st x text) (begun st x text) is

  pub opened_account : account_of (handed_of st x text) is ≡ account_on (run_of st x text is) (account_of (handed_of st x text) is).acknowledged
  unfolding account_of empty_account box_of settings_in opening run_of begun settings_on
  opened_account = account_is (settings_on st x text) (begun st x text) _ is

  pub opened_bytes : output_of (handed_of st x text) is ≡ (run_of st x text is).bytes
  unfolding output_of box_of opening run_of begun
  opened_bytes = bytes_are (settings_on st x text) (begun st x text) is

  pub opened_remaining : remaining (handed_of st x text) is ≡ left_on (settings_on st x text) (run_of st x text is)
  unfolding remaining settings_in settings_on opening left_to_work stable_buckets left_on
  opened_remaining = ap (λ (a : Account). left_to_work (settings_on st x text) a.monitor) opened_account

  opened_sent : sent_in (account_of (handed_of st x text) is) ≡ map (map made_of) (sent_on (run_of st x text is))
  unfolding sent_in sent_on
  opened_sent = ap sent_in opened_account ∙ all_made (run_of st x text is).stables

  pub opened_boundaries : boundaries_in (account_of (handed_of st x text) is) ≡ boundaries_on (run_of st x text is)
  unfolding boundaries_in boundaries_on
  opened_boundaries = ap boundaries_in opened_account

-- what the statement says of any call
alone :
    Demand3 → (st : Held) (x : Lent) (i : Input) → ((called (record { state = st; lent = x }) i).answer ≡ 0 → ⊥) →
    LeftAlone st x (area_of i) (called (record { state = st; lent = x }) i)
unfolding Unchanged left
alone d st x i e =
    let same = d.refused (record { state = st; lent = x }) i e in
    (ap (λ (b : Box). b.state) same.0, ap (λ (b : Box). b.lent) same.0, same.1, same.2)

neither :
    Demand3 → (st : Held) (x : Lent) (text : List ℕ) → is_opened (handed_of st x text) → (is : List Input) (i : Input) →
    Neither3Nor4 (called (box_on (run_of st x text is)) i).answer
neither d st x text e is i =
    subst (λ (b : Box). Neither3Nor4 (called b i).answer) (opened_left st x text is) (d.in_shape (handed_of st x text) e is i)

pub plain : Demand3 → Plain
unfolding is_opened opening settings_in settings_on failure_free_records failure_free_bytes results_on owed stable_buckets called area_of
plain d =
    record {
      clean = λ st x text e is.
          let s = settings_on st x text in
          let c = d.clean (handed_of st x text) e is in
          let account = opened_account st x text is in
          let bytes = opened_bytes st x text is in
          record {
            rest = c.tentative;
            undone =
                ap (applied record_in []) (sym bytes) ∙ c.undone ∙
                ap (λ (a : Account). map bytes_of (failure_free s a.stables a.monitor.d).records ++ c.tentative) account;
            rest_tentative = c.all_tentative;
            struck_tentative =
                subst (λ (bs : List (List ℕ)). Every (λ (b : List ℕ). is_tentative (record_in b).kind ≡ true) (struck record_in [] bs)) bytes
                c.never_struck;
            stables =
                ap (stable_records record_in) (sym bytes) ∙ c.as_they_came ∙
                ap (λ (a : Account). map bytes_of (failure_free s a.stables a.monitor.d).records) account;
            forms = subst (Every HasForm) bytes (every_to (output_of (handed_of st x text) is) form_of c.all_records);
            rooms =
                subst (λ (a : Account). Every HasRoom (failure_free s a.stables a.monitor.d).records) account
                (every_to (failure_free_records (handed_of st x text) is) room_of c.uncut);
            none_ahead = subst (λ (a : Account). a.monitor.d ≤ stable_buckets s a.monitor) account c.worked;
          };
      replicas = λ st x text zt z other e f same is js sent boundaries none_here none-there.
          ap (stable_records record_in) (sym (opened_bytes st x text is)) ∙
          d.replicas (handed_of st x text) (handed_of zt z other) e f same is js
          (opened_sent st x text is ∙ ap (map (map made_of)) sent ∙ sym (opened_sent zt z other js))
          (opened_boundaries st x text is ∙ boundaries ∙ sym (opened_boundaries zt z other js))
          (opened_remaining st x text is ∙ none_here)
          (opened_remaining zt z other js ∙ none-there) ∙
          ap (stable_records record_in) (opened_bytes zt z other js);
      settles = λ st x text e is js only count.
          let h = handed_of st x text in
          let y = run_of st x text is in
          let steps : Steps (left_after (box_of h) is) (remaining h is + 2) js =
          subst (λ (b : Box). Steps b (remaining h is + 2) js) (sym (opened_left st x text is))
          (subst (λ (n : ℕ). Steps (box_on y) n js) (count ∙ ap (λ (n : ℕ). n + 2) (sym (opened_remaining st x text is)))
          (steps_are y.state y.lent js only)) in
          let settled = d.settles h e is js steps in (
            sym (opened_remaining st x text (is ++ js)) ∙ settled.0,
            ap (done_due record_in false) (sym (opened_bytes st x text (is ++ js))) ∙ settled.1,
          );
      refused = λ st x text area e. alone d st x (Input.journal text area) e;
      refused_acknowledgement = λ st x display id area e. alone d st x (Input.acknowledge display id area) e;
      refused_fetch = λ st x display from area e. alone d st x (Input.fetch display from area) e;
      in_shape = λ st x text e is line area. neither d st x text e is (Input.journal line area);
      in_shape_to_acknowledge = λ st x text e is display id area. neither d st x text e is (Input.acknowledge display id area);
      in_shape_to_fetch = λ st x text e is display from area. neither d st x text e is (Input.fetch display from area);
    }
