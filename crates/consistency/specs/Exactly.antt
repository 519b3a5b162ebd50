-- Document 02, W4: how many steps it takes until every stable bucket is worked and the box is not correcting. The statement, over the lists
-- of demand 3.
use Rattle.std.specs.Prelude.{ℕ, ◌≤◌, ◌≡◌, false, ◌↔◌, List, ◌++◌, ltb, length}
use Rattle.settings.specs.Limits.{max_lines}
use Rattle.protocol.specs.Rules.{is_correcting}
use Rattle.protocol.specs.StepCount.{steps_needed, buckets_left}
use Rattle.node.specs.Held.{Held}
use Rattle.node.specs.View.{view}
use Rattle.consistency.specs.Runs.{Box, Input, left_after}
use Rattle.consistency.specs.Demand.{Handed, is_opened, box_of, remaining, Steps}

-- the stable buckets that a box has left to work, by its state alone
unfoldable pub left_in : Box → ℕ
left_in b = buckets_left b.state.settings (view b.state b.lent.readings)

-- the steps that a state needs with k stable buckets left: tentative work is out where p is above c
unfoldable pub steps_from : Held → ℕ → ℕ
steps_from st k = steps_needed k (ltb st.c st.p) (is_correcting st.phase)

-- n accepted steps, with only refused calls and displays' calls between them, are enough if and only if they are as many as needed, or more
pub record Exactly : Type 0 where
  -- from an opening on, k being the monitor's
  pub settles_exactly :
      (h : Handed) → is_opened h → (is js : List Input) (n : ℕ) →
      Steps (left_after (box_of h) is) n js →
      ((remaining h (is ++ js) ≡ 0) × (is_correcting (left_after (box_of h) (is ++ js)).state.phase ≡ false)) ↔
      (steps_from (left_after (box_of h) is).state (remaining h is) ≤ n)
  -- from any box that a host may hand over; its state has eight heads, as every state of the code has. That it is in shape is no
  -- condition: an accepted step has found it so
  pub from_any_box :
      (b : Box) → length b.state.heads ≡ max_lines → (js : List Input) (n : ℕ) →
      Steps b n js →
      ((left_in (left_after b js) ≡ 0) × (is_correcting (left_after b js).state.phase ≡ false)) ↔ (steps_from b.state (left_in b) ≤ n)
  -- from an opening on the box has left to work what the monitor has
  pub left_alike : (h : Handed) → is_opened h → (is : List Input) → left_in (left_after (box_of h) is) ≡ remaining h is
