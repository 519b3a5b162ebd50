-- What rule 2 leaves of state, store and area: what its two halves leave, and the checkpoint, which is the operator. By the definitions of
-- view and put.
use Prim.Native.Nat.{ℕ, ◌+◌}
use mathlib.Core.Path.{◌≡◌, ap, ◌∙◌}
use mathlib.Core.List.{List}
use native.Mathlib.Numerals.{add-one}
use Rattle.store.specs.Columns.{Columns}
use Rattle.protocol.specs.declared.Rule.TheVariants as Rule
use Rattle.protocol.specs.Rules.{act}
use Rattle.node.specs.declared.LineHead.{LineHead}
use Rattle.node.specs.Held.{Held}
use Rattle.node.specs.View.{places, view, put_state, put_columns}
use Rattle.step_outcome.specs.Done.{RuleDone}
use Rattle.step_corrections.proofs.LinesStay.{Kept, acknowledged_stay}
use Rattle.step_stable.specs.Halves.{StableWorked, ReadingsRemoved}

-- with its operator as checkpoint, these heads, and these buckets
abbrev pub further_with : Held → List LineHead → ℕ → ℕ → Held
further_with st heads' c p =
    record {
      operator = st.operator;
      checkpoint = st.operator;
      heads = heads';
      settings = st.settings;
      clock = st.clock;
      c = c;
      p = p;
      phase = st.phase;
      acknowledged = st.acknowledged;
    }

pub work_stable_done :
    (st : Held) (x : Columns) → Kept st x → (area area' : List ℕ) (worked : Held) (heads' : List LineHead) (x' : Columns) (n : ℕ) →
    StableWorked st x area worked area' n → ReadingsRemoved st.settings st.c st.heads x heads' x' →
    RuleDone Rule.WorkStable st x area (further_with worked heads' (st.c + 1) (st.p + 1)) x' area' n
unfolding act put_state put_columns view places
work_stable_done st x kept area area' worked heads' x' n w removed =
    record {
      state =
          ap (λ (h : Held). further_with h heads' (st.c + 1) (st.p + 1)) w.state ∙
          rw (removed.line_heads, add-one st.c, add-one st.p, acknowledged_stay st x kept);
      columns = removed.columns;
      bytes = w.bytes;
      count = w.count;
    }
