-- What is held between calls beside the two stores. The definitions speak of meters where the code has columns.
use Rattle.std.specs.Prelude.{ℕ, List}
use Rattle.clock.specs.declared.ArrivalTick.{ArrivalTick}
use Rattle.settings.specs.declared.Settings.{Settings}
use Rattle.operator.specs.Meters.{Operator}
use Rattle.operator.specs.Loaded.{operator_of}
use Rattle.protocol.specs.declared.Phase.{Phase}
use Rattle.node.specs.declared.LineHead.{LineHead}
use Rattle.node.specs.declared.State.{State}

pub record Held : Type 0 where
  pub operator : Operator
  pub checkpoint : Operator
  pub heads : List LineHead
  pub settings : Settings
  pub clock : ArrivalTick
  pub c : ℕ
  pub p : ℕ
  pub phase : Phase
  pub acknowledged : List ℕ

-- what a state holds
abbrev pub held : State → Held
held s =
    record {
      operator = operator_of s.operator;
      checkpoint = operator_of s.checkpoint;
      heads = s.heads;
      settings = s.settings;
      clock = s.clock;
      c = s.c;
      p = s.p;
      phase = s.phase;
      acknowledged = s.acknowledged;
    }

-- with another operator, and everything else as it was
abbrev pub with_operator : Operator → Held → Held
with_operator o st =
    record {
      operator = o;
      checkpoint = st.checkpoint;
      heads = st.heads;
      settings = st.settings;
      clock = st.clock;
      c = st.c;
      p = st.p;
      phase = st.phase;
      acknowledged = st.acknowledged;
    }
