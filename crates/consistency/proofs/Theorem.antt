-- Demand 3: the theorem. What holds of a run on the meaning, of its account and of its records, holds of a list of calls, of its account
-- and of the bytes of its records.
use Prim.Native.Nat.{ℕ, ◌≤◌}
use mathlib.Core.Path.{◌≡◌, refl, sym, ◌∙◌, ap, subst}
use mathlib.Core.Bool.{true, false, cond}
use lib.Dec.{eqb}
use mathlib.Core.List.{List, [], ◌∷◌, ◌++◌, map, map-append}
use native.Mathlib.Omega.{arith}
use Rattle.std.specs.Prelude.{Some}
use Rattle.settings.specs.declared.Settings.{Settings}
use Rattle.record.specs.declared.Record.{Record}
use Rattle.record.specs.Decoded.{decoded}
use Rattle.record.specs.Layout.{bytes_of}
use Rattle.record.specs.Kinds.{is_tentative}
use Rattle.store.specs.Lists.{Every}
use Rattle.protocol.specs.Node.{Node}
use Rattle.protocol.specs.Refusals.{answer_to}
use Rattle.protocol.specs.Monitor.{stable_buckets, left_to_work}
use Rattle.protocol.specs.Undos.{applied, struck, stable_records, done_due}
use Rattle.protocol.specs.Runs.{Event, Trace, start, next, after}
use Rattle.protocol.specs.Demand.{stable_results, itself, sent, boundaries}
use Rattle.protocol.specs.Demand as meaning
use Rattle.protocol.proofs.Theorem as meaningProved
use Rattle.node.specs.View.{view}
use Rattle.node.specs.Displays.{acknowledged_on}
use Rattle.node.proofs.Calls.{accepted_call}
use Rattle.consistency.specs.Runs.{Box, Input, called, left, left_after, record_in}
use Rattle.consistency.specs.Accounts.{Account, sent_in, boundaries_in}
use Rattle.consistency.specs.Demand.{Handed, is_opened, box_of, settings_in, account_of, output_of, remaining, Clean, Steps, Demand3}
use Rattle.store.proofs.Pairs.{every_to, every_right, every_keep, every_map}
use Rattle.node.proofs.Records.{Decodes}
use Rattle.consistency.proofs.Undos.{record_in_bytes_of, is_record, every_applied, every_struck, applied_bytes_of, struck_bytes_of}
use Rattle.consistency.proofs.Undos.{stable_records_bytes_of, done_due_bytes_of, tentative_bytes_of}
use Rattle.consistency.proofs.Runs.{Stands, account_in, event_of, events_of, event_accepted, refused_event, fetch_did, input_did, runs}
use Rattle.consistency.proofs.Opened.{box_stands, some_bucket, some_lines_lem, trace_of, Mirrors, mirrors, free_records, free_bytes}
use Rattle.consistency.proofs.Refused.{refused}
use Rattle.consistency.proofs.ShapedRuns.{in_shape_lem}

-- ---- 1 and 2

clean : (h : Handed) → is_opened h → (is : List Input) → Clean h is
unfolding account_in stable_records
clean h e is =
    let s = settings_in h in
    let t = trace_of s h is in
    let m = mirrors h e is in
    let c = (meaningProved.demand3).clean s (some_bucket h e) (some_lines_lem h e) (events_of (box_of h) is) in
    let free = free_bytes h is m in
    let strikes : struck record_in [] (output_of h is) ≡ map bytes_of (struck itself [] t.output) =
    ap (struck record_in []) m.laid ∙ struck_bytes_of [] t.output tt m.decode in
    let all : Every Decodes (stable_results s t ++ c.tentative) =
    subst (Every Decodes) c.undone (every_applied Decodes [] t.output tt m.decode) in
    record {
      tentative = map bytes_of c.tentative;
      undone =
          ap (applied record_in []) m.laid ∙ applied_bytes_of [] t.output tt m.decode ∙
          ap (map bytes_of) c.undone ∙ map-append bytes_of (stable_results s t) c.tentative ∙
          ap (λ (l : List (List ℕ)). l ++ map bytes_of c.tentative) (sym free);
      all_tentative =
          tentative_bytes_of c.tentative (every_right Decodes (stable_results s t) c.tentative all) c.all_tentative;
      never_struck =
          subst (Every (λ (b : List ℕ). is_tentative (record_in b).kind ≡ true)) (sym strikes)
          (tentative_bytes_of (struck itself [] t.output) (every_struck Decodes [] t.output tt m.decode) c.never_struck);
      as_they_came =
          ap (stable_records record_in) m.laid ∙ stable_records_bytes_of t.output m.decode ∙ ap (map bytes_of) c.as_they_came ∙ sym free;
      all_records =
          subst (Every (λ (b : List ℕ). decoded b ≡ Some (record_in b))) (sym m.laid)
          (every_map bytes_of (λ (b : List ℕ). decoded b ≡ Some (record_in b)) t.output (every_to t.output is_record m.decode));
      uncut =
          subst (Every (λ (r : Record). record_in (bytes_of r) ≡ r)) (sym (free_records h is m))
          (every_to (stable_results s t) record_in_bytes_of (subst (Every Decodes) c.as_they_came (every_keep Decodes _ t.output m.decode)));
      worked = subst (λ (a : Account). a.monitor.d ≤ stable_buckets s a.monitor) (sym m.account) c.worked;
    }

-- ---- 3

replicas :
    (h g : Handed) → is_opened h → is_opened g →
    settings_in h ≡ settings_in g →
    (is js : List Input) →
    sent_in (account_of h is) ≡ sent_in (account_of g js) →
    boundaries_in (account_of h is) ≡ boundaries_in (account_of g js) →
    remaining h is ≡ 0 →
    remaining g js ≡ 0 →
    stable_records record_in (output_of h is) ≡ stable_records record_in (output_of g js)
unfolding sent_in sent boundaries_in boundaries remaining account_in
replicas h g eh eg same is js same_sent same-boundaries none-h none-g =
    let s = settings_in h in
    let m = mirrors h eh is in
    let n : Mirrors s g js = subst (λ (z : Settings). Mirrors z g js) (sym same) (mirrors g eg js) in
    let results =
    (meaningProved.demand3).replicas s (some_bucket h eh) (some_lines_lem h eh) (events_of (box_of h) is) (events_of (box_of g) js)
    (ap sent_in (sym m.account) ∙ same_sent ∙ ap sent_in n.account)
    (ap boundaries_in (sym m.account) ∙ same-boundaries ∙ ap boundaries_in n.account)
    (ap (λ (a : Account). left_to_work s a.monitor) (sym m.account) ∙ none-h)
    (ap (λ (a : Account). left_to_work s a.monitor) (sym n.account) ∙
    ap (λ (z : Settings). left_to_work z (account_of g js).monitor) same ∙ none-g) in
    ap (stable_records record_in) m.laid ∙ stable_records_bytes_of (trace_of s h is).output m.decode ∙
    ap (map bytes_of) results ∙
    sym (ap (stable_records record_in) n.laid ∙ stable_records_bytes_of (trace_of s g js).output n.decode)

-- ---- 4

-- an acknowledgement between steps
acknowledged_steps :
    (s : Settings) {n : ℕ} (t : Trace) (b : Box) (display id : ℕ) (area : List ℕ) (u : Trace) →
    meaning.TraceSteps s (next s t (event_of b (Input.acknowledge display id area))) n u → meaning.TraceSteps s t n u
unfolding event_of next
acknowledged_steps s {n} t b display id area u steps =
    (elim (eqb (acknowledged_on b.state b.lent display id area).answer 0) as
    (λ wasAccepted.
    meaning.TraceSteps s (next s t (cond wasAccepted (Event.acknowledge display id) Event.turned_away)) n u → meaning.TraceSteps s t n u) [
      | true ↦ λ q. meaning.TraceSteps.aside display id q
      | false ↦ λ q. q
    ])
    steps

fetched_steps :
    (s : Settings) {n : ℕ} (t : Trace) (b : Box) (display from : ℕ) (area : List ℕ) (is : List Input) →
    meaning.TraceSteps s t n (after s t (events_of (left b (Input.fetch display from area)) is)) →
    meaning.TraceSteps s t n
    (after s (next s t (event_of b (Input.fetch display from area))) (events_of (left b (Input.fetch display from area)) is))
unfolding event_of next
fetched_steps s t b display from area is q = q

-- steps on the box are steps on the meaning
steps_follow :
    (s : Settings) {b : Box} {n : ℕ} {js : List Input} (t : Trace) → Stands s b.state b.lent t.node →
    Steps b n js → meaning.TraceSteps s t n (after s t (events_of b js))
unfolding after events_of called next
steps_follow s t stands Steps.rest = meaning.TraceSteps.rest
steps_follow s {b} t stands (Steps.step {n = n} {is = is} text area k read kind accepted more) =
    let st = b.state in
    let x = b.lent in
    let i = Input.journal text area in
    let v = accepted_call st x text area accepted in
    let same : v.call ≡ k = cc (read, v.read) in
    let answered : answer_to s t.node k ≡ 0 =
    ap (λ (z : Settings). answer_to z t.node k) (sym stands.settings) ∙
    ap (λ (z : Node). answer_to st.settings z k) (sym stands.is) ∙
    ap (answer_to st.settings (view st x.readings)) (sym same) ∙ v.answered in
    let rest = steps_follow s (next s t (event_of b i)) (input_did s t b i stands).stands more in
    meaning.TraceSteps.step k kind answered
    (subst (λ (z : Event). meaning.TraceSteps s (next s t z) n (after s (next s t (event_of b i)) (events_of (left b i) is)))
    (event_accepted b text area k read accepted) rest)
steps_follow s {b} {n} t stands (Steps.refused {is = is} i wasRefused more) =
    let away = refused_event b i wasRefused in
    let same : Stands s (left b i).state (left b i).lent t.node = rw away at (input_did s t b i stands).stands in
    subst (λ (z : Event). meaning.TraceSteps s t n (after s (next s t z) (events_of (left b i) is))) (sym away)
    (steps_follow s t same more)
steps_follow s {b} {n} t stands (Steps.acknowledge {is = is} display id area more) =
    let i = Input.acknowledge display id area in
    let u = next s t (event_of b i) in
    acknowledged_steps s t b display id area (after s u (events_of (left b i) is))
    (steps_follow s u (input_did s t b i stands).stands more)
steps_follow s {b} {n} t stands (Steps.fetch {is = is} display from area more) =
    let i = Input.fetch display from area in
    fetched_steps s t b display from area is
    (steps_follow s t (fetch_did s t b display from area stands).stands more)

events_append : (b : Box) (is js : List Input) → events_of b (is ++ js) ≡ events_of b is ++ events_of (left_after b is) js
unfolding events_of left_after
events_append b [] js = refl
events_append b (i ∷ is) js = ap (λ (es : List Event). event_of b i ∷ es) (events_append (left b i) is js)

after_append : (s : Settings) (t : Trace) (es fs : List Event) → after s t (es ++ fs) ≡ after s (after s t es) fs
unfolding after
after_append s t [] fs = refl
after_append s t (e ∷ es) fs = after_append s (next s t e) es fs

-- what the meaning says of the whole list, in bytes
settled_bytes :
    (h : Handed) → is_opened h → (is js : List Input) →
    let u : Trace = after (settings_in h) (trace_of (settings_in h) h is) (events_of (left_after (box_of h) is) js) in
    (left_to_work (settings_in h) u.monitor ≡ 0) × (done_due itself false u.output ≡ false) →
    (remaining h (is ++ js) ≡ 0) × (done_due record_in false (output_of h (is ++ js)) ≡ false)
unfolding remaining account_in
settled_bytes h e is js settled =
    let s = settings_in h in
    let m = mirrors h e (is ++ js) in
    let same : trace_of s h (is ++ js) ≡ after s (trace_of s h is) (events_of (left_after (box_of h) is) js) =
    ap (after s (start s)) (events_append (box_of h) is js) ∙
    after_append s (start s) (events_of (box_of h) is) (events_of (left_after (box_of h) is) js) in (
      ap (λ (a : Account). left_to_work s a.monitor) m.account ∙ ap (λ (t : Trace). left_to_work s t.monitor) same ∙ settled.0,
      ap (done_due record_in false) m.laid ∙ done_due_bytes_of false (trace_of s h (is ++ js)).output m.decode ∙
          ap (λ (t : Trace). done_due itself false t.output) same ∙ settled.1,
    )

-- ---- whole

pub demand3 : Demand3
unfolding remaining account_in start
demand3 =
    record {
      clean = clean;
      replicas = replicas;
      settles =
          λ h e is js steps.
          let s = settings_in h in
          let t = trace_of s h is in
          settled_bytes h e is js
          ((meaningProved.demand3).settles s (some_bucket h e) (some_lines_lem h e) (events_of (box_of h) is)
          (after s t (events_of (left_after (box_of h) is) js))
          (steps_follow s t (runs s is (start s) (box_of h) (box_stands h e)).stands (rw (mirrors h e is).account at steps)));
      refused = refused;
      in_shape = λ h e is i. (in_shape_lem h e is i _ (omega arith) (omega arith), in_shape_lem h e is i _ (omega arith) (omega arith));
    }
