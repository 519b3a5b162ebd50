-- One step: which of the five rules applies, and what it does (document 01, section 'One step').
use Rattle.std.specs.Prelude.{ℕ, suc, Bool, true, false, cond, not, ◌&&◌, List, [], ◌∷◌, ◌++◌, map, leb, ltb}
use Rattle.clock.specs.declared.ArrivalTick.{ArrivalTick}
use Rattle.clock.specs.Buckets.{bucket_of, bucket_end}
use Rattle.clock.specs.Windows.{closes_window}
use Rattle.clock.specs.Hold.{is_due}
use Rattle.settings.specs.declared.Settings.{Settings}
use Rattle.journal.specs.Kinds.{letter_s, letter_t, letter_b, letter_u, letter_r}
use Rattle.record.specs.declared.Record.{Record}
use Rattle.store.specs.declared.Reading.{Reading}
use Rattle.store.specs.Lists.{keep, some_of}
use Rattle.store.specs.Order.{is_in, in_bucket}
use Rattle.record.specs.Markers.{marker}
use Rattle.operator.specs.Work.{Worked, work}
use Rattle.protocol.specs.Node.{Line, Node, with_buckets, with_phase, with_operator, with_checkpoint, with_lines, is_stable_bucket, kept_of}
use Rattle.protocol.specs.declared.Rule.{Rule}
use Rattle.protocol.specs.declared.Rule.TheVariants as Rule
use Rattle.protocol.specs.declared.Phase.{Phase}
use Rattle.protocol.specs.declared.Phase.TheVariants as Phase

-- the first rule that applies: bucket c is stable, tentative work is out, the node is correcting, a reading is due
unfoldable pub first_rule : Bool → Bool → Bool → Bool → Rule
first_rule stable ahead correcting due =
    cond stable (cond ahead Rule.Withdraw Rule.WorkStable)
    (cond correcting Rule.EndCorrection (cond due Rule.WorkTentative Rule.Idle))

unfoldable pub is_correcting : Phase → Bool
is_correcting Phase.Stable = false
is_correcting Phase.Failure = false
is_correcting Phase.Correcting = true

-- a reading that tentative work is due for
unfoldable pub is_overdue : Settings → ℕ → ArrivalTick → Reading → Bool
is_overdue s p now r = leb p (bucket_of s.bucket r.time) && is_due s.hold r.arrival now

unfoldable pub some_overdue : Settings → ℕ → ArrivalTick → List Line → Bool
some_overdue s p now = some_of (λ (l : Line). some_of (is_overdue s p now) l.kept)

unfoldable pub rule_of : Settings → Node → ArrivalTick → Rule
rule_of s n now =
    first_rule (is_stable_bucket s n.c n.lines) (ltb n.c n.p) (is_correcting n.phase) (some_overdue s n.p now n.lines)

-- a node after a call, and the records given
pub record Outcome : Type 0 where
  pub node : Node
  pub records : List Record

-- a line without the readings of bucket j
unfoldable pub without : Settings → ℕ → Line → Line
without s j l =
    record {
      boundary = l.boundary;
      last_id = l.last_id;
      last_stable_id = l.last_stable_id;
      kept = keep (λ (r : Reading). not (is_in s.bucket j r)) l.kept;
    }

-- the boundary that follows a window's stable results, at the window's end
unfoldable pub boundary_at : Settings → ℕ → List Record
boundary_at s j =
    cond (closes_window s.window j) (marker letter_b 0 (record { 0 = bucket_end s.bucket j }) ∷ []) []

-- bucket j worked with all that is kept of it
unfoldable pub worked : Settings → ℕ → ℕ → Node → Worked
worked s kind j n = work s kind j (in_bucket s.bucket j (kept_of n.lines)) n.operator

-- what a rule does; the clock is set where the call is accepted
unfoldable pub act : Settings → Node → Rule → Outcome
act s n Rule.Withdraw =
    record {
      node = with_buckets n.c n.c (with_phase Phase.Correcting (with_operator n.checkpoint n));
      records = marker letter_u n.checkpoint.number (record { 0 = 0 }) ∷ [];
    }
act s n Rule.WorkStable =
    record {
      node =
          with_buckets (suc n.c) (suc n.p)
          (with_operator (worked s letter_s n.c n).operator
          (with_checkpoint (worked s letter_s n.c n).operator (with_lines (map (without s n.c) n.lines) n)));
      records = (worked s letter_s n.c n).records ++ boundary_at s n.c;
    }
act s n Rule.EndCorrection =
    record { node = with_phase Phase.Stable n; records = marker letter_r 0 (record { 0 = 0 }) ∷ [] }
act s n Rule.WorkTentative =
    record {
      node = with_buckets n.c (suc n.p) (with_phase Phase.Failure (with_operator (worked s letter_t n.p n).operator n));
      records = (worked s letter_t n.p n).records;
    }
act s n Rule.Idle = record { node = n; records = [] }
