-- What the rule that applies does: as the rule that was found at this tick does, and where that is none, state, store and area stay as they
-- were.
use Prim.Native.Nat.{ℕ}
use mathlib.Core.Path.{◌≡◌, refl, sym, ◌∙◌}
use mathlib.Core.List.{List}
use Rattle.area.specs.Laid.{in_front}
use Rattle.clock.specs.declared.ArrivalTick.{ArrivalTick}
use Rattle.record.specs.Layout.{all_bytes}
use Rattle.store.specs.Columns.{Columns}
use Rattle.protocol.specs.declared.Rule.{Rule}
use Rattle.protocol.specs.Rules.{rule_of, act}
use Rattle.node.specs.Held.{Held}
use Rattle.node.specs.View.{view}
use Rattle.node.proofs.View.{put_state_view, put_columns_view}
use Rattle.step_outcome.specs.Done.{RuleDone}
use Rattle.step_corrections.proofs.LinesStay.{Kept, fits}

-- nothing to do
pub idle_acts : (st : Held) (x : Columns) → Kept st x → (area : List ℕ) → RuleDone Rule.Idle st x area st x area 0
unfolding act in_front all_bytes
idle_acts st x kept area =
    record {
      state = sym (put_state_view st x (fits st x kept));
      columns = sym (put_columns_view st x (fits st x kept));
      bytes = refl;
      count = refl;
    }

-- the rule that was found at this tick, and what it is
pub record Found (tick : ArrivalTick) (st : Held) (x : Columns) (rule : Rule) : Type 0 where
  pub found : Rule
  pub first : found ≡ rule_of st.settings (view st x) tick
  pub told : found ≡ rule

pub applies :
    (tick : ArrivalTick) (st : Held) (x : Columns) (rule : Rule) → Found tick st x rule → rule_of st.settings (view st x) tick ≡ rule
applies tick st x rule f = sym f.first ∙ f.told

-- what the rule that applies does
pub by_rule :
    (tick : ArrivalTick) (rule : Rule) (st : Held) (x : Columns) (area : List ℕ) (st' : Held) (x' : Columns) (area' : List ℕ)
    (records : ℕ) → Found tick st x rule → RuleDone rule st x area st' x' area' records →
    RuleDone (rule_of st.settings (view st x) tick) st x area st' x' area' records
by_rule tick rule st x area st' x' area' records f a = rw (applies tick st x rule f) a
