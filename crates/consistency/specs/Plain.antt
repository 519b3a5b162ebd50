-- Demand 3 once more, in other words, to test the statement: states, stores, texts and areas as they are handed over, one record for all
-- that a list of calls leaves, and every condition and conclusion written out, for each of the three calls by itself. Whatever weakens a
-- clause of Demand.antt, a condition more or a conclusion less, no longer gives this table.
use Rattle.std.specs.Prelude.{ℕ, zero, suc, ◌+◌, ◌-◌, ◌/◌, ◌^◌, ◌≤◌, ◌<◌, ◌≡◌, Option, Some, None}
use Rattle.std.specs.Prelude.{Bool, true, false, cond, ◌&&◌, List, [], ◌∷◌, ◌++◌, map, eqb, ℤ, length, get_or, take, drop, replicate}
use Rattle.std.specs.Int.Signed.{mag}
use Rattle.journal.specs.declared.Call.{Call}
use Rattle.clock.specs.declared.ReadingTime.{ReadingTime}
use Rattle.settings.specs.declared.Settings.{Settings}
use Rattle.journal.specs.ReadLine.{call_of}
use Rattle.record.specs.declared.Record.{Record}
use Rattle.record.specs.Layout.{bytes_of}
use Rattle.record.specs.Kinds.{is_tentative, is_record}
use Rattle.store.specs.declared.Reading.{Reading}
use Rattle.store.specs.Lists.{Every}
use Rattle.protocol.specs.Kinds.{Kind, kind_of}
use Rattle.protocol.specs.Monitor.{LineMonitor, Monitor, fresh_monitor, observe, least_boundary}
use Rattle.protocol.specs.FailureFree.{stable_after, failure_free}
use Rattle.protocol.specs.Undos.{applied, struck, stable_records, done_due}
use Rattle.node.specs.Held.{Held}
use Rattle.node.specs.View.{Lent}
use Rattle.node.specs.Opening.{opened_on}
use Rattle.node.specs.Calls.{Called, called_on}
use Rattle.node.specs.Displays.{acknowledged_on, fetched_on}
use Rattle.consistency.specs.Runs.{Input, record_in}

-- ---- a run of calls

-- what is there after some calls: what the host keeps, the monitor, the accepted stable readings, and all records so far
pub record Run : Type 0 where
  pub state : Held
  pub lent : Lent
  pub monitor : Monitor
  pub stables : List (List Reading)
  pub bytes : List (List ℕ)

-- so many records of 32 bytes
unfoldable pub cut : ℕ → List ℕ → List (List ℕ)
cut zero area = []
cut (suc n) area = take 32 area ∷ cut n (drop 32 area)

unfoldable pub noted : Settings → Monitor → Option Call → Bool → Monitor
noted s y (Some k) is_accepted = observe s y k is_accepted
noted s y None is_accepted = y

unfoldable pub counted : List (List Reading) → Option Call → Bool → List (List Reading)
counted lines (Some k) is_accepted = stable_after lines k is_accepted
counted lines None is_accepted = lines

unfoldable pub begun : Held → Lent → List ℕ → Run
begun st x text =
    record {
      state = (opened_on st x text).state;
      lent = (opened_on st x text).lent;
      monitor = fresh_monitor (opened_on st x text).state.settings;
      stables = replicate (opened_on st x text).state.settings.lines [];
      bytes = [];
    }

-- a journal call on what is there: the monitor is fed it, and its records come behind those so far
unfoldable pub answered : Settings → Run → Option Call → Called → Run
answered s y read r =
    record {
      state = r.state;
      lent = r.lent;
      monitor = noted s y.monitor read (eqb r.answer 0);
      stables = counted y.stables read (eqb r.answer 0);
      bytes = y.bytes ++ cut r.records r.area;
    }

-- a display's call on what is there (document 02, W2): the monitor, document 01's day book, passes it over, and what it lays into its area
-- is no record of the output
unfoldable pub passed_over : Run → Called → Run
passed_over y r = record { state = r.state; lent = r.lent; monitor = y.monitor; stables = y.stables; bytes = y.bytes }

unfoldable pub continued : Settings → Run → List Input → Run
continued s y [] = y
continued s y (Input.journal text area ∷ is) = continued s (answered s y (call_of text) (called_on y.state y.lent text area)) is
continued s y (Input.acknowledge display id area ∷ is) =
    continued s (passed_over y (acknowledged_on y.state y.lent display id area)) is
continued s y (Input.fetch display from area ∷ is) = continued s (passed_over y (fetched_on y.state y.lent display from area)) is

-- the settings that an opening leaves, and the run from there on
unfoldable pub settings_on : Held → Lent → List ℕ → Settings
settings_on st x text = (opened_on st x text).state.settings

unfoldable pub run_of : Held → Lent → List ℕ → List Input → Run
run_of st x text is = continued (settings_on st x text) (begun st x text) is

-- ---- steps

-- of the six kinds only P is a step
unfoldable pub is_p : Kind → Bool
is_p Kind.S = false
is_p Kind.T = false
is_p Kind.B = false
is_p Kind.U = false
is_p Kind.R = false
is_p Kind.P = true

unfoldable pub reads_as_step : Option Call → Bool
reads_as_step (Some k) = is_p (kind_of k.kind)
reads_as_step None = false

-- whether every journal call is refused or a step; a display's call may stand anywhere, accepted or not
unfoldable pub only_steps : Held → Lent → List Input → Bool
only_steps st x [] = true
only_steps st x (Input.journal text area ∷ is) =
    let r : Called = called_on st x text area in
    cond (eqb r.answer 0) (reads_as_step (call_of text)) true && only_steps r.state r.lent is
only_steps st x (Input.acknowledge display id area ∷ is) =
    let r : Called = acknowledged_on st x display id area in
    only_steps r.state r.lent is
only_steps st x (Input.fetch display from area ∷ is) =
    let r : Called = fetched_on st x display from area in
    only_steps r.state r.lent is

-- how many journal calls are accepted; a display's call is no step
unfoldable pub accepted_of : Held → Lent → List Input → ℕ
accepted_of st x [] = 0
accepted_of st x (Input.journal text area ∷ is) =
    let r : Called = called_on st x text area in
    cond (eqb r.answer 0) (suc (accepted_of r.state r.lent is)) (accepted_of r.state r.lent is)
accepted_of st x (Input.acknowledge display id area ∷ is) =
    let r : Called = acknowledged_on st x display id area in
    accepted_of r.state r.lent is
accepted_of st x (Input.fetch display from area ∷ is) =
    let r : Called = fetched_on st x display from area in
    accepted_of r.state r.lent is

-- ---- what two boxes are compared by

-- a reading but for its arrival
pub record Sent : Type 0 where
  pub id : ℕ
  pub time : ReadingTime
  pub value : ℤ
  pub kind : ℕ
  pub meter : ℕ

unfoldable pub sent_as : Reading → Sent
sent_as r = record { id = r.id; time = r.time; value = r.value; kind = r.kind; meter = r.meter }

unfoldable pub sent_on : Run → List (List Sent)
sent_on y = map (map sent_as) y.stables

unfoldable pub boundaries_on : Run → List ReadingTime
boundaries_on y = map (λ (g : LineMonitor). g.boundary) y.monitor.lines

-- ---- the table

-- stable buckets left to work
unfoldable pub left_on : Settings → Run → ℕ
left_on s y = least_boundary y.monitor.lines / s.bucket - y.monitor.d

-- the failure-free results, and their bytes
unfoldable pub results_on : Settings → Run → List Record
results_on s y = (failure_free s y.stables y.monitor.d).records

unfoldable pub owed : Settings → Run → List (List ℕ)
owed s y = map bytes_of (results_on s y)

-- a record's form: 32 bytes, the first a letter of a record, the third and fourth zero
pub record HasForm (b : List ℕ) : Type 0 where
  pub size : length b ≡ 32
  pub letter : is_record (get_or b 0 0) ≡ true
  pub third : get_or b 2 0 ≡ 0
  pub fourth : get_or b 3 0 ≡ 0

-- every number has room in the bytes that a record has for it (a signed number's `mag` is n for n and for -(n + 1)); letter and meter are a
-- byte each, as they are
pub record HasRoom (r : Record) : Type 0 where
  pub id : r.id < 2 ^ 32
  pub time : r.time.0 < 2 ^ 32
  pub count : r.count < 2 ^ 32
  pub sum : mag r.sum < 2 ^ 63
  pub mean : mag r.mean < 2 ^ 31
  pub last : mag r.last < 2 ^ 31

pub record CleanOn (s : Settings) (y : Run) : Type 0 where
  pub rest : List (List ℕ)
  pub undone : applied record_in [] y.bytes ≡ owed s y ++ rest
  pub rest_tentative : Every (λ (b : List ℕ). is_tentative (record_in b).kind ≡ true) rest
  pub struck_tentative : Every (λ (b : List ℕ). is_tentative (record_in b).kind ≡ true) (struck record_in [] y.bytes)
  pub stables : stable_records record_in y.bytes ≡ owed s y
  pub forms : Every HasForm y.bytes
  pub rooms : Every HasRoom (results_on s y)
  pub none_ahead : y.monitor.d ≤ least_boundary y.monitor.lines / s.bucket

-- a call that did nothing: state, stores and area are as they were, and there is no record
abbrev pub LeftAlone : Held → Lent → List ℕ → Called → Type 0
LeftAlone st x area r = (r.state ≡ st) × (r.lent ≡ x) × (r.records ≡ 0) × (r.area ≡ area)

-- an answer that is neither 3 nor 4
abbrev pub Neither3Nor4 : ℕ → Type 0
Neither3Nor4 answer = (answer ≡ 3 → ⊥) × (answer ≡ 4 → ⊥)

pub record Plain : Type 0 where
  pub clean :
      (st : Held) (x : Lent) (text : List ℕ) → (opened_on st x text).answer ≡ 0 → (is : List Input) →
      CleanOn (settings_on st x text) (run_of st x text is)
  pub replicas :
      (st : Held) (x : Lent) (text : List ℕ) (zt : Held) (z : Lent) (other : List ℕ) →
      (opened_on st x text).answer ≡ 0 → (opened_on zt z other).answer ≡ 0 →
      settings_on st x text ≡ settings_on zt z other →
      (is js : List Input) →
      sent_on (run_of st x text is) ≡ sent_on (run_of zt z other js) →
      boundaries_on (run_of st x text is) ≡ boundaries_on (run_of zt z other js) →
      left_on (settings_on st x text) (run_of st x text is) ≡ 0 →
      left_on (settings_on zt z other) (run_of zt z other js) ≡ 0 →
      stable_records record_in (run_of st x text is).bytes ≡ stable_records record_in (run_of zt z other js).bytes
  pub settles :
      (st : Held) (x : Lent) (text : List ℕ) → (opened_on st x text).answer ≡ 0 → (is js : List Input) →
      let y : Run = run_of st x text is in
      only_steps y.state y.lent js ≡ true →
      accepted_of y.state y.lent js ≡ left_on (settings_on st x text) y + 2 →
      (left_on (settings_on st x text) (run_of st x text (is ++ js)) ≡ 0) ×
      (done_due record_in false (run_of st x text (is ++ js)).bytes ≡ false)
  -- whatever is refused
  pub refused :
      (st : Held) (x : Lent) (text area : List ℕ) → ((called_on st x text area).answer ≡ 0 → ⊥) →
      LeftAlone st x area (called_on st x text area)
  pub refused_acknowledgement :
      (st : Held) (x : Lent) (display id : ℕ) (area : List ℕ) → ((acknowledged_on st x display id area).answer ≡ 0 → ⊥) →
      LeftAlone st x area (acknowledged_on st x display id area)
  pub refused_fetch :
      (st : Held) (x : Lent) (display from : ℕ) (area : List ℕ) → ((fetched_on st x display from area).answer ≡ 0 → ⊥) →
      LeftAlone st x area (fetched_on st x display from area)
  -- from an opening on
  pub in_shape :
      (st : Held) (x : Lent) (text : List ℕ) → (opened_on st x text).answer ≡ 0 → (is : List Input) (line area : List ℕ) →
      let y : Run = run_of st x text is in
      Neither3Nor4 (called_on y.state y.lent line area).answer
  pub in_shape_to_acknowledge :
      (st : Held) (x : Lent) (text : List ℕ) → (opened_on st x text).answer ≡ 0 → (is : List Input) (display id : ℕ) (area : List ℕ) →
      let y : Run = run_of st x text is in
      Neither3Nor4 (acknowledged_on y.state y.lent display id area).answer
  pub in_shape_to_fetch :
      (st : Held) (x : Lent) (text : List ℕ) → (opened_on st x text).answer ≡ 0 → (is : List Input) (display from : ℕ) (area : List ℕ) →
      let y : Run = run_of st x text is in
      Neither3Nor4 (fetched_on y.state y.lent display from area).answer
