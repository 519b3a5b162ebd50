-- The node: its lines with their kept readings, and what an input does to its line (document 01, section 'Clocks, lines and readings').
use Rattle.std.specs.Prelude.{ℕ, Bool, List, [], ◌∷◌, ◌++◌, map, leb, eqb, replicate}
use Rattle.clock.specs.declared.ArrivalTick.{ArrivalTick}
use Rattle.clock.specs.declared.ReadingTime.{ReadingTime}
use Rattle.clock.specs.Buckets.{finishes}
use Rattle.settings.specs.declared.Settings.{Settings}
use Rattle.journal.specs.declared.Call.{Call}
use Rattle.journal.specs.Kinds.{letter_t}
use Rattle.store.specs.declared.Reading.{Reading}
use Rattle.store.specs.Lists.{keep, some_of, all_of}
use Rattle.operator.specs.Meters.{Operator, fresh}
use Rattle.protocol.specs.Kinds.{Kind}
use Rattle.protocol.specs.declared.Phase.{Phase}
use Rattle.protocol.specs.declared.Phase.TheVariants as Phase

-- what the node knows of a line, with the readings that it keeps, in id order
pub record Line : Type 0 where
  pub boundary : ReadingTime
  pub last_id : ℕ
  pub last_stable_id : ℕ
  pub kept : List Reading

-- buckets below c are worked as stable; work goes on at bucket p. The operator's number is the newest result's id, the checkpoint's that of
-- the last stable result; 0 if there is none. Of each display: the id up to which it has acknowledged stable results
pub record Node : Type 0 where
  pub clock : ArrivalTick
  pub c : ℕ
  pub p : ℕ
  pub phase : Phase
  pub operator : Operator
  pub checkpoint : Operator
  pub lines : List Line
  pub acknowledged : List ℕ

-- ---- the node with one thing changed, the rest as it was

abbrev node_of : ArrivalTick → ℕ → ℕ → Phase → Operator → Operator → List Line → List ℕ → Node
node_of clock c p phase operator checkpoint lines acknowledged =
    record {
      clock = clock;
      c = c;
      p = p;
      phase = phase;
      operator = operator;
      checkpoint = checkpoint;
      lines = lines;
      acknowledged = acknowledged;
    }

abbrev pub with_clock : ArrivalTick → Node → Node
with_clock clock n =
    node_of clock n.c n.p n.phase n.operator n.checkpoint n.lines n.acknowledged

abbrev pub with_buckets : ℕ → ℕ → Node → Node
with_buckets c p n =
    node_of n.clock c p n.phase n.operator n.checkpoint n.lines n.acknowledged

abbrev pub with_phase : Phase → Node → Node
with_phase phase n =
    node_of n.clock n.c n.p phase n.operator n.checkpoint n.lines n.acknowledged

abbrev pub with_operator : Operator → Node → Node
with_operator operator n =
    node_of n.clock n.c n.p n.phase operator n.checkpoint n.lines n.acknowledged

abbrev pub with_checkpoint : Operator → Node → Node
with_checkpoint checkpoint n =
    node_of n.clock n.c n.p n.phase n.operator checkpoint n.lines n.acknowledged

abbrev pub with_lines : List Line → Node → Node
with_lines lines n =
    node_of n.clock n.c n.p n.phase n.operator n.checkpoint lines n.acknowledged

abbrev pub with_acknowledged : List ℕ → Node → Node
with_acknowledged acknowledged n =
    node_of n.clock n.c n.p n.phase n.operator n.checkpoint n.lines acknowledged

-- ---- lines

unfoldable pub no_line : Line
no_line = record { boundary = record { 0 = 0 }; last_id = 0; last_stable_id = 0; kept = [] }

-- the node as the opening leaves it
unfoldable pub opened : Settings → Node
opened s =
    record {
      clock = record { 0 = 0 };
      c = 0;
      p = 0;
      phase = Phase.Stable;
      operator = fresh;
      checkpoint = fresh;
      lines = replicate s.lines no_line;
      acknowledged = replicate s.displays 0;
    }

-- bucket j is stable: each line's boundary finishes it
unfoldable pub is_stable_bucket : Settings → ℕ → List Line → Bool
is_stable_bucket s j = all_of (λ (l : Line). finishes s.bucket l.boundary j)

-- the line keeps a tentative reading
unfoldable pub keeps_tentative : Line → Bool
keeps_tentative l = some_of (λ (r : Reading). eqb r.kind letter_t) l.kept

unfoldable pub kept_of : List Line → List (List Reading)
kept_of = map (λ (l : Line). l.kept)

-- a call's reading; its arrival is the call's `now`
unfoldable pub reading_of : Call → Reading
reading_of k =
    record { id = k.id; time = k.time; value = k.value; arrival = k.now; kind = k.kind; meter = k.meter }

-- what an accepted call of this kind does to its line
unfoldable pub on_line : Call → Kind → Line → Line
on_line k Kind.S l =
    record { boundary = l.boundary; last_id = k.id; last_stable_id = k.id; kept = l.kept ++ reading_of k ∷ [] }
on_line k Kind.T l =
    record { boundary = l.boundary; last_id = k.id; last_stable_id = l.last_stable_id; kept = l.kept ++ reading_of k ∷ [] }
on_line k Kind.B l =
    record { boundary = k.time; last_id = l.last_id; last_stable_id = l.last_stable_id; kept = l.kept }
on_line k Kind.U l =
    record {
      boundary = l.boundary;
      last_id = k.id;
      last_stable_id = l.last_stable_id;
      kept = keep (λ (r : Reading). leb r.id k.id) l.kept;
    }
on_line k Kind.R l = l
on_line k Kind.P l = l
