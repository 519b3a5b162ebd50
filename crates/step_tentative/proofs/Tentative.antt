-- What rule 4 leaves, field by field: heads, store and checkpoint stay as they were. By the laws on view and put.
use Prim.Native.Nat.{ℕ, ◌+◌}
use mathlib.Core.Path.{◌≡◌, refl, sym}
use mathlib.Core.List.{List}
use native.Mathlib.Numerals.{add-one}
use lib.ListN.{length}
use Rattle.area.specs.Laid.{in_front}
use Rattle.journal.specs.Kinds.{letter_t}
use Rattle.record.specs.Layout.{all_bytes}
use Rattle.store.specs.Columns.{Columns}
use Rattle.operator.specs.Meters.{Operator}
use Rattle.operator.specs.Work.{Worked}
use Rattle.protocol.specs.declared.Phase.TheVariants as Phase
use Rattle.protocol.specs.declared.Rule.TheVariants as Rule
use Rattle.protocol.specs.Rules.{act, worked}
use Rattle.node.specs.Held.{Held}
use Rattle.node.specs.View.{view, put_state}
use Rattle.node.proofs.Writes.{put_columns_same}
use Rattle.step_outcome.specs.Done.{RuleDone}
use Rattle.step_corrections.proofs.LinesStay.{Kept, fits, heads_stay, acknowledged_stay}

-- ---- rule 4 done

-- in `failure`, with this operator, which has worked up to bucket p
abbrev pub worked_to : Held → Operator → ℕ → Held
worked_to st next p =
    record {
      operator = next;
      checkpoint = st.checkpoint;
      heads = st.heads;
      settings = st.settings;
      clock = st.clock;
      c = st.c;
      p = p;
      phase = Phase.Failure;
      acknowledged = st.acknowledged;
    }

module _ (st : Held) (x : Columns) (kept : Kept st x) (area area' : List ℕ) where
  abbrev done : Worked
  done = worked st.settings letter_t st.p (view st x)

  pub work_tentative_acts :
      (next : Operator) (records : ℕ) → next ≡ done.operator → area' ≡ in_front (all_bytes done.records) area →
      records ≡ length done.records → RuleDone Rule.WorkTentative st x area (worked_to st next (st.p + 1)) x area' records
  unfolding act put_state view
  work_tentative_acts next records o e n =
      record {
        state = rw (o, heads_stay st x kept, acknowledged_stay st x kept, add-one st.p);
        columns = sym (put_columns_same st x (fits st x kept) (act st.settings (view st x) Rule.WorkTentative).node refl);
        bytes = e;
        count = n;
      }
