-- Document 02, W4 once more, in other words, to test the statement: the count by the state's word, k by the heads' boundaries, and too few
-- steps and enough of them each for itself, over the runs of Plain.antt. Whatever weakens a clause of Exactly.antt no longer gives this
-- table.
use Rattle.std.specs.Prelude.{ℕ, zero, suc, ◌+◌, ◌-◌, ◌/◌, ◌≤◌, ◌<◌, min, ◌≡◌, true, List, [], ◌∷◌, ◌++◌, map, length, take}
use Rattle.protocol.specs.declared.Phase.{Phase}
use Rattle.node.specs.declared.LineHead.{LineHead}
use Rattle.node.specs.Held.{Held}
use Rattle.node.specs.View.{Lent}
use Rattle.node.specs.Opening.{opened_on}
use Rattle.node.specs.Calls.{Called, called_on}
use Rattle.node.specs.Displays.{acknowledged_on, fetched_on}
use Rattle.consistency.specs.Runs.{Input}
use Rattle.consistency.specs.Plain.{Run, settings_on, run_of, only_steps, accepted_of, left_on}

-- the steps that a box in this state needs, with so many stable buckets left to work
unfoldable pub steps_in : Phase → ℕ → ℕ
steps_in Phase.Stable k = k
steps_in Phase.Failure zero = 0
steps_in Phase.Failure (suc k) = k + 3
steps_in Phase.Correcting k = k + 1

-- the state that calls leave
unfoldable pub state_after : Held → Lent → List Input → Held
state_after st x [] = st
state_after st x (Input.journal text area ∷ is) =
    let r : Called = called_on st x text area in
    state_after r.state r.lent is
state_after st x (Input.acknowledge display id area ∷ is) =
    let r : Called = acknowledged_on st x display id area in
    state_after r.state r.lent is
state_after st x (Input.fetch display from area ∷ is) =
    let r : Called = fetched_on st x display from area in
    state_after r.state r.lent is

unfoldable pub lowest_of : List ℕ → ℕ
lowest_of [] = 0
lowest_of (n ∷ []) = n
lowest_of (n ∷ m ∷ ns) = min n (lowest_of (m ∷ ns))

-- the stable buckets that a state has left to work: as many as fit below the boundary of each of its lines, but for c
unfoldable pub left_by : Held → ℕ
left_by st =
    lowest_of (map (λ (h : LineHead). h.boundary.0) (take st.settings.lines st.heads)) / st.settings.bucket - st.c

pub record PlainExactly : Type 0 where
  -- from an opening on: with too few steps a bucket is left, or the box is correcting; with enough neither
  pub too_few :
      (st : Held) (x : Lent) (text : List ℕ) → (opened_on st x text).answer ≡ 0 → (is js : List Input) →
      let y : Run = run_of st x text is in
      let z : Run = run_of st x text (is ++ js) in
      only_steps y.state y.lent js ≡ true →
      accepted_of y.state y.lent js < steps_in y.state.phase (left_on (settings_on st x text) y) →
      left_on (settings_on st x text) z ≡ 0 → z.state.phase ≡ Phase.Correcting
  pub enough :
      (st : Held) (x : Lent) (text : List ℕ) → (opened_on st x text).answer ≡ 0 → (is js : List Input) →
      let y : Run = run_of st x text is in
      let z : Run = run_of st x text (is ++ js) in
      only_steps y.state y.lent js ≡ true →
      steps_in y.state.phase (left_on (settings_on st x text) y) ≤ accepted_of y.state y.lent js →
      (left_on (settings_on st x text) z ≡ 0) × (z.state.phase ≡ Phase.Correcting → ⊥)
  -- the same from any state and stores on, the state with its eight heads
  pub too_few_anywhere :
      (st : Held) (x : Lent) → length st.heads ≡ 8 → (js : List Input) →
      only_steps st x js ≡ true →
      accepted_of st x js < steps_in st.phase (left_by st) →
      left_by (state_after st x js) ≡ 0 → (state_after st x js).phase ≡ Phase.Correcting
  pub enough_anywhere :
      (st : Held) (x : Lent) → length st.heads ≡ 8 → (js : List Input) →
      only_steps st x js ≡ true →
      steps_in st.phase (left_by st) ≤ accepted_of st x js →
      (left_by (state_after st x js) ≡ 0) × ((state_after st x js).phase ≡ Phase.Correcting → ⊥)
  -- and from an opening on what is left is the same by either count
  pub either_count :
      (st : Held) (x : Lent) (text : List ℕ) → (opened_on st x text).answer ≡ 0 → (is : List Input) →
      left_by (run_of st x text is).state ≡ left_on (settings_on st x text) (run_of st x text is)
