-- A rule done: what it leaves of state, store and area, and how many records it gives.
use Rattle.std.specs.Prelude.{ℕ, ◌≡◌, List, [], length}
use Rattle.area.specs.Laid.{in_front}
use Rattle.record.specs.Layout.{all_bytes}
use Rattle.store.specs.Columns.{Columns}
use Rattle.protocol.specs.declared.Rule.{Rule}
use Rattle.protocol.specs.Node.{Node}
use Rattle.protocol.specs.Rules.{act}
use Rattle.node.specs.Held.{Held}
use Rattle.node.specs.View.{view, put_state, put_columns}

-- from this state, store and area the rule leads to the others, with so many records
pub record RuleDone (rule : Rule) (st : Held) (x : Columns) (area : List ℕ) (st' : Held) (x' : Columns) (area' : List ℕ) (records : ℕ)
    : Type 0 where
  pub state : st' ≡ put_state st (act st.settings (view st x) rule).node
  pub columns : x' ≡ put_columns st x (act st.settings (view st x) rule).node
  pub bytes : area' ≡ in_front (all_bytes (act st.settings (view st x) rule).records) area
  pub count : records ≡ length (act st.settings (view st x) rule).records

-- ---- a rule that looks at no line

-- what a state stands for by itself: a node without lines and displays
unfoldable pub node_alone : Held → Node
node_alone st =
    record {
      clock = st.clock;
      c = st.c;
      p = st.p;
      phase = st.phase;
      operator = st.operator;
      checkpoint = st.checkpoint;
      lines = [];
      acknowledged = [];
    }

-- the rule done on state and area alone: heads and last ids of the displays stay as they are
pub record DoneAlone (rule : Rule) (st : Held) (area : List ℕ) (st' : Held) (area' : List ℕ) (records : ℕ) : Type 0 where
  pub state : st' ≡ put_state st (act st.settings (node_alone st) rule).node
  pub bytes : area' ≡ in_front (all_bytes (act st.settings (node_alone st) rule).records) area
  pub count : records ≡ length (act st.settings (node_alone st) rule).records
