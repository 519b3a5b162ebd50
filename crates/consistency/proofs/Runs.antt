-- A list of calls on a box is a list of calls on the node that the box stands for. A call that is accepted does to the node, the account
-- and the output what the meaning says, its records laid down in bytes that are read back; a refused one changes nothing, as one that was
-- turned away.
use Prim.Native.Nat.{ℕ}
use mathlib.Core.Path.{◌≡◌, refl, sym, ◌∙◌, ap, ap₂, subst}
use mathlib.Core.Bool.{true, false, cond}
use mathlib.Core.List.{List, [], ◌∷◌, ◌++◌, map, map-append, append-nil, append_assoc}
use borrow.Author.Tests.{eqb-true, eqb-false, eq-eqb, ne_eqb}
use lib.Dec.{eqb}
use Rattle.std.specs.Prelude.{Option, Some, None}
use Rattle.settings.specs.declared.Settings.{Settings}
use Rattle.journal.specs.declared.Call.{Call}
use Rattle.journal.specs.ReadLine.{call_of}
use Rattle.record.specs.declared.Record.{Record}
use Rattle.record.specs.Layout.{bytes_of}
use Rattle.retransmission.specs.Places.{pieces}
use Rattle.retransmission.proofs.Pieces.{pieces_in_front}
use Rattle.store.proofs.Pairs.{every_append}
use Rattle.store.specs.Lists.{Every}
use Rattle.protocol.specs.Node.{Node}
use Rattle.protocol.specs.Displays.{answer_to_acknowledgement}
use Rattle.protocol.specs.Calls.{outcome_of, acknowledged_after, acknowledged_by}
use Rattle.protocol.specs.Monitor.{observe}
use Rattle.protocol.specs.FailureFree.{stable_after}
use Rattle.protocol.specs.Runs.{Event, Trace, is_accepted, next, after}
use Rattle.node.specs.Held.{Held}
use Rattle.node.specs.View.{Lent, view}
use Rattle.node.specs.Shape.{in_shape}
use Rattle.node.specs.Calls.{Called, called_on}
use Rattle.node.specs.Displays.{acknowledged_on}
use Rattle.node.proofs.View.{Fits, view_sized}
use Rattle.node.proofs.Shape.{in_shape_facts}
use Rattle.node.proofs.Calls.{AcceptedOn, refused_call, accepted_call}
use Rattle.node.proofs.AfterCalls.{accepted_records, accepted_area, accepted_view, accepted_fits, accepted_settings}
use Rattle.node.proofs.Displays.{refused_acknowledgement, accepted_acknowledgement, acknowledged_view, acknowledged_fits, fetch_leaves}
use Rattle.consistency.specs.Runs.{Box, Input, called, left, left_after, given, output}
use Rattle.consistency.specs.Accounts.{Account, account_with, account_next, account_after}
use Rattle.node.proofs.Fits.{NodeFits, outcome_fits}
use Rattle.node.proofs.Records.{ShapeFacts, Decodes, outcome_given, readable_decodes}

-- ---- a box and a trace

-- the state and the store stand for a node whose numbers fit
pub record Stands (s : Settings) (st : Held) (x : Lent) (n : Node) : Type 0 where
  pub settings : st.settings ≡ s
  pub is : view st x.readings ≡ n
  pub room : Fits st x.readings
  pub fits : NodeFits n

-- what a trace is measured against
unfoldable pub account_in : Trace → Account
account_in t = record { monitor = t.monitor; stables = t.stables; acknowledged = t.acknowledged }

-- what a call did: to the node, the account and the output
pub record Follows (s : Settings) (t u : Trace) (read : Option Call) (c : Called) : Type 0 where
  pub records : List Record
  pub decode : Every Decodes records
  pub stands : Stands s c.state c.lent u.node
  pub account : account_with s (account_in t) read (eqb c.answer 0) ≡ account_in u
  pub given : u.output ≡ t.output ++ records
  pub laid : pieces c.records c.area ≡ map bytes_of records

-- ---- a call

shape_facts : (st : Held) (x : Lent) → Fits st x.readings → in_shape st x ≡ true → ShapeFacts st.settings (view st x.readings)
unfolding view
shape_facts st x room e =
    let shape = in_shape_facts st x e in
    let sized = view_sized st x.readings room.heads room.displays in
    record {
      limits = shape.limits;
      count = sized.lines;
      short = sized.small;
      order = shape.buckets.order;
      top = shape.buckets.last;
      stable_number = shape.numbers.stable;
      newest_number = shape.numbers.newest;
      meters = shape.operator;
    }

-- a refused call
unchanged_account : (s : Settings) (a : Account) (read : Option Call) → account_with s a read false ≡ a
unfolding account_with observe stable_after
unchanged_account s a (Some k) = refl
unchanged_account s a None = refl

refused_follows :
    (s : Settings) (t : Trace) (st : Held) (x : Lent) (text area : List ℕ) →
    Stands s st x t.node → eqb (called_on st x text area).answer 0 ≡ false →
    Follows s t t (call_of text) (called_on st x text area)
unfolding pieces
refused_follows s t st x text area stands e =
    let same = refused_call st x text area (eqb-false _ _ e) in
    record {
      records = [];
      decode = tt;
      stands = rw (same.state, same.lent) stands;
      account = ap (account_with s (account_in t) (call_of text)) e ∙ unchanged_account s (account_in t) (call_of text);
      given = sym (append-nil t.output);
      laid = ap (λ (n : ℕ). pieces n (called_on st x text area).area) same.records;
    }

-- a trace on this node
abbrev with_node : Node → Trace → Trace
with_node n t =
    record { node = n; monitor = t.monitor; stables = t.stables; acknowledged = t.acknowledged; output = t.output }

-- an accepted call, on what the state and the store stand for
module _
    (st : Held) (x : Lent) (text area : List ℕ) (v : AcceptedOn st x text area)
    (room : Fits st x.readings) (fits : NodeFits (view st x.readings))
  where
    accepted_follows :
        (old : Trace) →
        let t : Trace = with_node (view st x.readings) old in
        Follows st.settings t (next st.settings t (Event.journal v.call)) (call_of text) (called_on st x text area)
    unfolding next is_accepted account_in account_with
    accepted_follows old =
        let s = st.settings in
        let k = v.call in
        let a : Account = record { monitor = old.monitor; stables = old.stables; acknowledged = old.acknowledged } in
        let rs = (outcome_of s (view st x.readings) k).records in
        record {
          records = rs;
          decode = readable_decodes rs (outcome_given s (view st x.readings) fits (shape_facts st x room v.host.shape) k).1;
          stands =
              record {
                settings = accepted_settings st x text area v;
                is = accepted_view st x text area v room;
                room = accepted_fits st x text area v room;
                fits = outcome_fits s (view st x.readings) k v.fits fits;
              };
          account =
              ap₂ (λ (read : Option Call) (c : Called). account_with s a read (eqb c.answer 0)) v.read v.leaves ∙
              ap (λ (answer : ℕ). account_with s a (Some k) (eqb answer 0)) (sym v.answered);
          given = refl;
          laid = ap₂ pieces (accepted_records st x text area v) (accepted_area st x text area v) ∙ pieces_in_front rs area;
        }

-- a call as the meaning sees it: what was refused was turned away
unfoldable pub event_with : Option Call → Event
event_with (Some k) = Event.journal k
event_with None = Event.turned_away

unfoldable pub event_of : Box → Input → Event
event_of b (Input.journal text area) =
    cond (eqb (called_on b.state b.lent text area).answer 0) (event_with (call_of text)) Event.turned_away
event_of b (Input.acknowledge display id area) =
    cond (eqb (acknowledged_on b.state b.lent display id area).answer 0) (Event.acknowledge display id) Event.turned_away
event_of b (Input.fetch display from area) = Event.turned_away

pub event_accepted :
    (b : Box) (text area : List ℕ) (k : Call) → call_of text ≡ Some k →
    (called_on b.state b.lent text area).answer ≡ 0 → event_of b (Input.journal text area) ≡ Event.journal k
unfolding event_of event_with
event_accepted b text area k read e = rw (e, read)

pub call_follows :
    (s : Settings) (t : Trace) (b : Box) (text area : List ℕ) → Stands s b.state b.lent t.node →
    Follows s t (next s t (event_of b (Input.journal text area))) (call_of text) (called_on b.state b.lent text area)
unfolding event_of event_with next
call_follows s t b text area stands =
    (elim (eqb (called_on b.state b.lent text area).answer 0) as
    (λ accepted.
    eqb (called_on b.state b.lent text area).answer 0 ≡ accepted →
    Follows s t (next s t (cond accepted (event_with (call_of text)) Event.turned_away)) (call_of text)
    (called_on b.state b.lent text area)) [
      | true ↦ λ e.
          let v = accepted_call b.state b.lent text area (eqb-true _ _ e) in
          let event : Event.journal v.call ≡ event_with (call_of text) = sym (ap event_with v.read) in
          subst (λ (e : Event). Follows s t (next s t e) (call_of text) (called_on b.state b.lent text area)) event
          (on_trace v)
      | false ↦ λ e. refused_follows s t b.state b.lent text area stands e
    ])
    refl
  where
    on_trace :
        (v : AcceptedOn b.state b.lent text area) →
        Follows s t (next s t (Event.journal v.call)) (call_of text) (called_on b.state b.lent text area)
    on_trace v =
        let n = view b.state b.lent.readings in
        let first =
        accepted_follows b.state b.lent text area v stands.room (rw stands.is stands.fits) t in
        let same : with_node n t ≡ t = λ i. with_node (stands.is i) t in
        subst (λ (z : Trace). Follows s z (next s z (Event.journal v.call)) (call_of text) (called_on b.state b.lent text area)) same
        (subst
        (λ (z : Settings).
        Follows z (with_node n t) (next z (with_node n t) (Event.journal v.call)) (call_of text) (called_on b.state b.lent text area))
        stands.settings first)

-- ---- a display's calls

-- what a call did, of any kind
pub record Did (s : Settings) (t u : Trace) (b : Box) (i : Input) : Type 0 where
  pub records : List Record
  pub decode : Every Decodes records
  pub stands : Stands s (left b i).state (left b i).lent u.node
  pub account : account_next s (account_in t) b i ≡ account_in u
  pub gives : u.output ≡ t.output ++ records
  pub laid : given b i ≡ map bytes_of records

acknowledged_fit : (s : Settings) (n : Node) (display id : ℕ) → NodeFits n → NodeFits (acknowledged_by s n display id)
unfolding acknowledged_by
acknowledged_fit s n display id h = record { clock = h.clock; operator = h.operator; checkpoint = h.checkpoint; lines = h.lines }

acknowledge_did :
    (s : Settings) (t : Trace) (b : Box) (display id : ℕ) (area : List ℕ) → Stands s b.state b.lent t.node →
    Did s t (next s t (event_of b (Input.acknowledge display id area))) b (Input.acknowledge display id area)
unfolding event_of next left called given account_next account_in acknowledged_after
acknowledge_did s t b display id area stands =
    (elim (eqb (acknowledged_on b.state b.lent display id area).answer 0) as
    (λ wasAccepted.
    eqb (acknowledged_on b.state b.lent display id area).answer 0 ≡ wasAccepted →
    Did s t (next s t (cond wasAccepted (Event.acknowledge display id) Event.turned_away)) b (Input.acknowledge display id area)) [
      | true ↦ λ e.
          let v = accepted_acknowledgement b.state b.lent display id area (eqb-true _ _ e) in
          let n = view b.state b.lent.readings in
          let node : acknowledged_by b.state.settings n display id ≡ acknowledged_by s t.node display id =
          ap₂ (λ (z : Settings) (n : Node). acknowledged_by z n display id) stands.settings stands.is in
          let answered : answer_to_acknowledgement s t.node display id ≡ 0 =
          sym (ap₂ (λ (z : Settings) (n : Node). answer_to_acknowledgement z n display id) stands.settings stands.is) ∙ v.answered in
          record {
            records = [];
            decode = tt;
            stands =
                rw v.leaves
                (record {
                  settings = stands.settings;
                  is = acknowledged_view b.state b.lent.readings display id v.answered ∙ node;
                  room = acknowledged_fits b.state b.lent.readings display id v.answered stands.room;
                  fits = acknowledged_fit s t.node display id stands.fits;
                });
            account = rw (e, eq-eqb (answer_to_acknowledgement s t.node display id) 0 answered);
            gives = sym (append-nil t.output);
            laid = refl;
          }
      | false ↦ λ e.
          let same = refused_acknowledgement b.state b.lent display id area (eqb-false _ _ e) in
          record {
            records = [];
            decode = tt;
            stands = rw (same.state, same.lent) stands;
            account = rw e;
            gives = sym (append-nil t.output);
            laid = refl;
          }
    ])
    refl

pub fetch_did :
    (s : Settings) (t : Trace) (b : Box) (display from : ℕ) (area : List ℕ) → Stands s b.state b.lent t.node →
    Did s t t b (Input.fetch display from area)
unfolding left called given account_next
fetch_did s t b display from area stands =
    let same = fetch_leaves b.state b.lent display from area in
    record {
      records = [];
      decode = tt;
      stands = rw (same.0, same.1) stands;
      account = refl;
      gives = sym (append-nil t.output);
      laid = refl;
    }

fetch_event :
    (s : Settings) (t : Trace) (b : Box) (display from : ℕ) (area : List ℕ) → Stands s b.state b.lent t.node →
    Did s t (next s t (event_of b (Input.fetch display from area))) b (Input.fetch display from area)
unfolding event_of next
fetch_event s t b display from area stands = fetch_did s t b display from area stands

-- ---- any call

pub input_did :
    (s : Settings) (t : Trace) (b : Box) (i : Input) → Stands s b.state b.lent t.node → Did s t (next s t (event_of b i)) b i
unfolding left called given account_next
input_did s t b (Input.journal text area) stands =
    let one = call_follows s t b text area stands in
    record {
      records = one.records;
      decode = one.decode;
      stands = one.stands;
      account = one.account;
      gives = one.given;
      laid = one.laid;
    }
input_did s t b (Input.acknowledge display id area) stands = acknowledge_did s t b display id area stands
input_did s t b (Input.fetch display from area) stands = fetch_event s t b display from area stands

-- a refused call was turned away
pub refused_event : (b : Box) (i : Input) → ((called b i).answer ≡ 0 → ⊥) → event_of b i ≡ Event.turned_away
unfolding event_of called
refused_event b (Input.journal text area) e = rw (ne_eqb (called_on b.state b.lent text area).answer 0 e)
refused_event b (Input.acknowledge display id area) e = rw (ne_eqb (acknowledged_on b.state b.lent display id area).answer 0 e)
refused_event b (Input.fetch display from area) e = refl

-- ---- a list of calls

-- two lists one behind the other
pub left_append : (b : Box) (is js : List Input) → left_after b (is ++ js) ≡ left_after (left_after b is) js
unfolding left_after
left_append b [] js = refl
left_append b (i ∷ is) js = left_append (left b i) is js

unfoldable pub events_of : Box → List Input → List Event
events_of b [] = []
events_of b (i ∷ is) = event_of b i ∷ events_of (left b i) is

-- what a list of calls did
pub record Ran (s : Settings) (t u : Trace) (b : Box) (is : List Input) : Type 0 where
  pub records : List Record
  pub decode : Every Decodes records
  pub stands : Stands s (left_after b is).state (left_after b is).lent u.node
  pub account : account_after s (account_in t) b is ≡ account_in u
  pub given : u.output ≡ t.output ++ records
  pub laid : output b is ≡ map bytes_of records

pub runs :
    (s : Settings) (is : List Input) (t : Trace) (b : Box) → Stands s b.state b.lent t.node →
    Ran s t (after s t (events_of b is)) b is
unfolding left_after account_after output after events_of
runs s [] t b stands =
    record {
      records = [];
      decode = tt;
      stands = stands;
      account = refl;
      given = sym (append-nil t.output);
      laid = refl;
    }
runs s (i ∷ is) t b stands =
    let one = input_did s t b i stands in
    let u = next s t (event_of b i) in
    let rest = runs s is u (left b i) one.stands in
    record {
      records = one.records ++ rest.records;
      decode = every_append Decodes one.records rest.records one.decode rest.decode;
      stands = rest.stands;
      account = ap (λ (a : Account). account_after s a (left b i) is) one.account ∙ rest.account;
      given =
          rest.given ∙ ap (λ (o : List Record). o ++ rest.records) one.gives ∙
          append_assoc t.output one.records rest.records;
      laid = ap₂ ◌++◌ one.laid rest.laid ∙ sym (map-append bytes_of one.records rest.records);
    }
