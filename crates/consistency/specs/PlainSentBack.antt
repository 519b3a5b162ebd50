-- Document 02, W2 once more, in other words, to test the statement: what a display has acknowledged as a number carried from call to call,
-- the failure-free results as one run of bytes, the store and what is fetched byte by byte, and the answers as tests in their order, over
-- the runs of Plain.antt. Whatever weakens a clause of SentBack.antt no longer gives this table.
use Rattle.std.specs.Prelude.{ℕ, zero, suc, ◌+◌, ◌-◌, ◌*◌, ◌/◌, ◌≤◌, ◌<◌, min, ◌≡◌, Option, Some, None}
use Rattle.std.specs.Prelude.{Bool, true, false, cond, ◌&&◌, ◌||◌, List, [], ◌∷◌, leb, ltb, eqb, length, get_or}
use Rattle.journal.specs.declared.Call.{Call}
use Rattle.clock.specs.declared.ArrivalTick.{ArrivalTick}
use Rattle.settings.specs.declared.Settings.{Settings}
use Rattle.journal.specs.ReadLine.{call_of}
use Rattle.record.specs.declared.Record.{Record}
use Rattle.record.specs.Layout.{all_bytes}
use Rattle.protocol.specs.Kinds.{kind_of}
use Rattle.protocol.specs.Refusals.{is_zero}
use Rattle.protocol.specs.FailureFree.{failure_free}
use Rattle.node.specs.Held.{Held}
use Rattle.node.specs.View.{Lent}
use Rattle.node.specs.Opening.{opened_on}
use Rattle.node.specs.Calls.{Called, called_on}
use Rattle.node.specs.Displays.{acknowledged_on, fetched_on}
use Rattle.consistency.specs.Runs.{Input}
use Rattle.consistency.specs.Plain.{Run, settings_on, run_of, is_p, left_on, results_on}

-- ---- what was acknowledged

-- the id up to which a display has acknowledged, if it was this one before these calls
unfoldable pub last_by : ℕ → ℕ → Held → Lent → List Input → ℕ
last_by display last st x [] = last
last_by display last st x (Input.journal text area ∷ is) =
    let r : Called = called_on st x text area in
    last_by display last r.state r.lent is
last_by display last st x (Input.acknowledge other id area ∷ is) =
    let r : Called = acknowledged_on st x other id area in
    last_by display (cond (eqb r.answer 0 && eqb other display) id last) r.state r.lent is
last_by display last st x (Input.fetch other from area ∷ is) =
    let r : Called = fetched_on st x other from area in
    last_by display last r.state r.lent is

-- from an opening on it starts from 0
unfoldable pub last_on : Held → Lent → List ℕ → List Input → ℕ → ℕ
last_on st x text is display = last_by display 0 (opened_on st x text).state (opened_on st x text).lent is

-- one of displays 1 to d has not acknowledged id n
unfoldable pub wanted : ℕ → (ℕ → ℕ) → ℕ → Bool
wanted zero last n = false
wanted (suc d) last n = ltb (last (suc d)) n || wanted d last n

-- ---- the results

-- the failure-free results when one bucket more is worked
unfoldable pub next_results : Settings → Run → List Record
next_results s y = (failure_free s y.stables (y.monitor.d + 1)).records

-- result n is there, and some display has not acknowledged it
unfoldable pub held : Settings → Run → (ℕ → ℕ) → ℕ → Bool
held s y last n = wanted s.displays last n && leb n (length (results_on s y))

-- ---- answers

-- to a display's call with this area, whose id fits or not
unfoldable pub answer_if : Settings → List ℕ → ℕ → Bool → ℕ
answer_if s area display fits =
    cond (ltb (length area) 2080) 5 (cond (eqb display 0 || ltb s.displays display) 16 (cond fits 0 17))

-- a step's text with nothing in it but a `now` that is not before the clock
unfoldable pub is_bare_step : ArrivalTick → Option Call → Bool
is_bare_step clock (Some k) =
    (is_p (kind_of k.kind) && leb clock.0 k.now.0) &&
    (eqb k.line 0 && (eqb k.id 0 && (eqb k.time.0 0 && (eqb k.meter 0 && is_zero k.value))))
is_bare_step clock None = false

-- a stable bucket is left, no tentative work is out, and with the bucket some display would be more than 512 behind
unfoldable pub is_lacking : Settings → Run → (ℕ → ℕ) → Bool
is_lacking s y last =
    (ltb 0 (left_on s y) && eqb y.monitor.t y.monitor.d) &&
    wanted s.displays last (length (next_results s y) - 512)

-- ---- the table

-- the store: byte i of it is byte 16,384 m + i of the results for the m where that one is held, and 0 if there is none
pub record StoreOn (s : Settings) (y : Run) (last : ℕ → ℕ) (lent : List ℕ) : Type 0 where
  pub byte :
      (m i : ℕ) → i < 16384 → held s y last (512 * m + i / 32 + 1) ≡ true →
      get_or y.lent.sent i 0 ≡ get_or (all_bytes (results_on s y)) (16384 * m + i) 0
  pub none : (i : ℕ) → i < 16384 → ((m : ℕ) → held s y last (512 * m + i / 32 + 1) ≡ false) → get_or y.lent.sent i 0 ≡ 0
  pub behind : (i : ℕ) → 16384 ≤ i → get_or y.lent.sent i 0 ≡ get_or lent i 0
  pub size : length y.lent.sent ≡ length lent
  pub room : 16384 ≤ length lent

-- an accepted fetch: so many records, their bytes, and the rest of the area
pub record FetchOn (s : Settings) (y : Run) (from : ℕ) (area : List ℕ) (r : Called) : Type 0 where
  pub records : r.records ≡ min 64 (length (results_on s y) + 1 - from)
  pub byte : (i : ℕ) → i < 32 * r.records → get_or r.area i 0 ≡ get_or (all_bytes (results_on s y)) (32 * (from - 1) + i) 0
  pub behind : (i : ℕ) → 32 * r.records ≤ i → get_or r.area i 0 ≡ get_or area i 0
  pub size : length r.area ≡ length area

-- after some calls, with each display's last id and the send-back store as it was lent to the opening
pub record SentOn (s : Settings) (y : Run) (last : ℕ → ℕ) (lent : List ℕ) : Type 0 where
  pub store : StoreOn s y last lent
  pub known : (display : ℕ) → 0 < display → display ≤ s.displays → last display ≤ length (results_on s y)
  pub near : (display : ℕ) → 0 < display → display ≤ s.displays → length (results_on s y) - last display ≤ 512
  pub acknowledges :
      (display id : ℕ) (area : List ℕ) →
      (acknowledged_on y.state y.lent display id area).answer ≡
      answer_if s area display (leb (last display) id && leb id (length (results_on s y)))
  pub fetches :
      (display from : ℕ) (area : List ℕ) →
      (fetched_on y.state y.lent display from area).answer ≡
      answer_if s area display (wanted s.displays last from && leb from (length (results_on s y) + 1))
  pub fetched :
      (display from : ℕ) (area : List ℕ) → (fetched_on y.state y.lent display from area).answer ≡ 0 →
      FetchOn s y from area (fetched_on y.state y.lent display from area)
  pub full :
      (line area : List ℕ) →
      eqb (called_on y.state y.lent line area).answer 15 ≡
      (leb 2080 (length area) && (is_bare_step y.state.clock (call_of line) && is_lacking s y last))

-- an acknowledgement on any state and stores
pub record QuietOn (st : Held) (x : Lent) (area : List ℕ) (r : Called) : Type 0 where
  pub records : r.records ≡ 0
  pub bytes : r.area ≡ area
  pub readings : r.lent.readings ≡ x.readings
  pub operator : r.state.operator ≡ st.operator
  pub checkpoint : r.state.checkpoint ≡ st.checkpoint
  pub heads : r.state.heads ≡ st.heads
  pub settings : r.state.settings ≡ st.settings
  pub clock : r.state.clock ≡ st.clock
  pub c : r.state.c ≡ st.c
  pub p : r.state.p ≡ st.p
  pub phase : r.state.phase ≡ st.phase

pub record PlainSentBack : Type 0 where
  pub opened :
      (st : Held) (x : Lent) (text : List ℕ) → (opened_on st x text).answer ≡ 0 → (is : List Input) →
      SentOn (settings_on st x text) (run_of st x text is) (last_on st x text is) x.sent
  pub quiet :
      (st : Held) (x : Lent) (display id : ℕ) (area : List ℕ) → QuietOn st x area (acknowledged_on st x display id area)
  pub still :
      (st : Held) (x : Lent) (display from : ℕ) (area : List ℕ) →
      ((fetched_on st x display from area).state ≡ st) × ((fetched_on st x display from area).lent ≡ x)
