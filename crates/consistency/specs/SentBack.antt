-- The send-back store: the statement (document 02, W2). It speaks of bytes in the lent store and in the areas. What was acknowledged is
-- read off the calls, and the newest stable id off the failure-free results, neither off the state.
use Rattle.std.specs.Prelude.{ℕ, suc, ◌+◌, ◌-◌, ◌*◌, ◌%◌, ◌≤◌, ◌<◌, ◌≡◌, List, [], ◌↔◌, pos, length, take, drop, get_or, replicate, Some}
use Rattle.clock.specs.declared.ArrivalTick.{ArrivalTick}
use Rattle.settings.specs.declared.Settings.{Settings}
use Rattle.journal.specs.declared.Call.{Call}
use Rattle.journal.specs.ReadLine.{call_of}
use Rattle.record.specs.Sizes.{record_bytes}
use Rattle.retransmission.specs.Sizes.{held_results, held_bytes, fetch_limit}
use Rattle.retransmission.specs.Places.{pieces}
use Rattle.protocol.specs.Displays.{least_of, last_of}
use Rattle.protocol.specs.Kinds.{Kind, kind_of}
use Rattle.protocol.specs.Monitor.{stable_buckets}
use Rattle.protocol.specs.FailureFree.{failure_free}
use Rattle.node.specs.Sizes.{area_bytes}
use Rattle.node.specs.View.{with_acknowledged}
use Rattle.node.specs.Calls.{Called}
use Rattle.consistency.specs.Runs.{Box, Input, called, left, left_after}
use Rattle.consistency.specs.Accounts.{Account}
use Rattle.consistency.specs.Demand.{Handed, is_opened, box_of, settings_in, account_of, failure_free_bytes}

-- ---- by the calls alone

-- the id up to which this display has acknowledged, and that up to which every one has
unfoldable pub last_in : Handed → List Input → ℕ → ℕ
last_in h is display = last_of (account_of h is).acknowledged display

unfoldable pub least_in : Handed → List Input → ℕ
least_in h is = least_of (account_of h is).acknowledged

-- the newest stable id: how many results the failure-free run has given
unfoldable pub newest_in : Handed → List Input → ℕ
newest_in h is = length (failure_free_bytes h is)

-- displays are numbered from 1 to `displays`
abbrev pub IsDisplay : Handed → ℕ → Type 0
IsDisplay h display = (1 ≤ display) × (display ≤ (settings_in h).displays)

-- result n is held: some display has not acknowledged it
abbrev pub IsHeld : Handed → List Input → ℕ → Type 0
IsHeld h is n = (least_in h is < n) × (n ≤ newest_in h is)

-- ---- the store

-- the bytes at place i of a store
unfoldable pub place_in : List ℕ → ℕ → List ℕ
place_in sent i = take record_bytes (drop (i * record_bytes) sent)

-- what a store should be after a list, in every byte
pub record Stored (h : Handed) (is : List Input) (sent : List ℕ) : Type 0 where
  -- each held result stands at its place
  pub held : (n : ℕ) → IsHeld h is n → place_in sent ((n - 1) % held_results) ≡ get_or (failure_free_bytes h is) (n - 1) []
  -- all other places are zeroed
  pub empty :
      (i : ℕ) → i < held_results → ((n : ℕ) → IsHeld h is n → (n - 1) % held_results ≡ i → ⊥) →
      place_in sent i ≡ replicate record_bytes 0
  -- there is room for 512, and what lies behind them is what was lent
  pub room : held_bytes ≤ length sent
  pub size : length sent ≡ length h.lent.sent
  pub behind : drop held_bytes sent ≡ drop held_bytes h.lent.sent

-- ---- a display's calls

-- the answers to a display's call, in their order: 5 for a short area, 16 where there is no such display, 17 for an id that does not fit
pub record Answers (area : List ℕ) (named fits : Type 0) (answer : ℕ) : Type 0 where
  pub short : (answer ≡ 5) ↔ (length area < area_bytes)
  pub no_display : (answer ≡ 16) ↔ ((area_bytes ≤ length area) × (named → ⊥))
  pub wrong_id : (answer ≡ 17) ↔ ((area_bytes ≤ length area) × named × (fits → ⊥))
  pub accepted : (answer ≡ 0) ↔ ((area_bytes ≤ length area) × named × fits)

-- what an accepted fetch lays down: the failure-free results from there on, as many as there are up to 64, byte by byte; what lies behind
-- them in the area is as it was
pub record FetchedFrom (h : Handed) (is : List Input) (from : ℕ) (area : List ℕ) (r : Called) : Type 0 where
  pub records : pieces r.records r.area ≡ take fetch_limit (drop (from - 1) (failure_free_bytes h is))
  pub rest : drop (r.records * record_bytes) r.area ≡ drop (r.records * record_bytes) area

-- what an acknowledgement leaves on any box: all but the displays' ids and the send-back store; and it gives no record
pub record Quiet (b : Box) (area : List ℕ) (r : Called) : Type 0 where
  pub records : r.records ≡ 0
  pub bytes : r.area ≡ area
  pub readings : r.lent.readings ≡ b.lent.readings
  pub state : r.state ≡ with_acknowledged r.state.acknowledged b.state

-- ---- want of places

-- a step that is not before the clock, with nothing in its other fields
pub record IsStep (clock : ArrivalTick) (k : Call) : Type 0 where
  pub kind : kind_of k.kind ≡ Kind.P
  pub on_time : clock.0 ≤ k.now.0
  pub no_line : k.line ≡ 0
  pub no_id : k.id ≡ 0
  pub no_time : k.time.0 ≡ 0
  pub no_meter : k.meter ≡ 0
  pub no_value : k.value ≡ pos 0

-- rule 2 is next: a stable bucket is left, and no tentative work is out; and the results through that bucket reach more than 512 past what
-- every display has acknowledged
pub record LacksPlaces (s : Settings) (a : Account) : Type 0 where
  pub stable : a.monitor.d < stable_buckets s a.monitor
  pub level : a.monitor.t ≡ a.monitor.d
  pub many : least_of a.acknowledged + held_results < length (failure_free s a.stables (suc a.monitor.d)).records

-- ---- the statement

-- the box that a list leaves
unfoldable pub box_after : Handed → List Input → Box
box_after h is = left_after (box_of h) is

pub record SentBack : Type 0 where
  -- after any list the store holds the failure-free results that some display has not acknowledged, and nothing else
  pub store : (h : Handed) → is_opened h → (is : List Input) → Stored h is (box_after h is).lent.sent
  -- no display has acknowledged what is not there, nor is one more than 512 behind: there is a place for each result held
  pub near :
      (h : Handed) → is_opened h → (is : List Input) (display : ℕ) → IsDisplay h display →
      (last_in h is display ≤ newest_in h is) × (newest_in h is ≤ last_in h is display + held_results)
  -- an acknowledgement fits if it is not below the display's last id and not above the newest
  pub acknowledges :
      (h : Handed) → is_opened h → (is : List Input) (display id : ℕ) (area : List ℕ) →
      Answers area (IsDisplay h display) ((last_in h is display ≤ id) × (id ≤ newest_in h is))
      (called (box_after h is) (Input.acknowledge display id area)).answer
  -- a fetch, if it is from an id still held or the next one
  pub fetches :
      (h : Handed) → is_opened h → (is : List Input) (display from : ℕ) (area : List ℕ) →
      Answers area (IsDisplay h display) ((least_in h is < from) × (from ≤ suc (newest_in h is)))
      (called (box_after h is) (Input.fetch display from area)).answer
  -- and what is fetched is right
  pub fetched :
      (h : Handed) → is_opened h → (is : List Input) (display from : ℕ) (area : List ℕ) →
      let r : Called = called (box_after h is) (Input.fetch display from area) in
      r.answer ≡ 0 → FetchedFrom h is from area r
  -- neither lays anything else down, nor moves the clock
  pub quiet :
      (b : Box) (display id : ℕ) (area : List ℕ) → Quiet b area (called b (Input.acknowledge display id area))
  pub still : (b : Box) (display from : ℕ) (area : List ℕ) → left b (Input.fetch display from area) ≡ b
  -- for want of places exactly these steps are refused
  pub full :
      (h : Handed) → is_opened h → (is : List Input) (text area : List ℕ) →
      let b : Box = box_after h is in
      ((called b (Input.journal text area)).answer ≡ 15) ↔
      ((area_bytes ≤ length area) ×
      ((k : Call) × (call_of text ≡ Some k) × IsStep b.state.clock k) ×
      LacksPlaces (settings_in h) (account_of h is))
