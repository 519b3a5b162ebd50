-- The node's numbers fit the widths that a program holds them in: so the opening leaves it, and so does every call whose fields fit,
-- whatever it is answered.
use Prim.Native.Nat.{ℕ, ◌-◌, ◌<◌, ◌^◌}
use mathlib.Core.Path.{◌≡◌, ◌∙◌}
use mathlib.Core.Bool.{true, false, cond, not}
use mathlib.Core.List.{List, [], ◌∷◌, ◌++◌}
use native.Mathlib.Omega.{arith}
use lib.Dec.{leb, eqb}
use lib.ListN.{length, get_or, length-replicate}
use lib.Signed.{mag}
use Rattle.clock.specs.declared.ArrivalTick.{ArrivalTick}
use Rattle.clock.specs.Windows.{closes_window}
use Rattle.settings.specs.declared.Settings.{Settings}
use Rattle.journal.specs.declared.Call.{Call}
use Rattle.journal.specs.JournalLine.{CallFits}
use Rattle.journal.specs.Kinds.{letter_s, letter_t}
use Rattle.journal.proofs.Letters.{letter_byte}
use Rattle.store.specs.declared.Reading.{Reading}
use Rattle.store.specs.Order.{Placed, is_in, in_bucket}
use Rattle.store.proofs.Pairs.{every_to, every_append, every_keep, every_map}
use Rattle.store.specs.Lists.{Every}
use Rattle.operator.specs.Meters.{Operator, meter_count, clear, fresh, add_all}
use Rattle.operator_meter.specs.Values.{no_meter}
use Rattle.operator.specs.Work.{close, work}
use Rattle.protocol.specs.Kinds.{Kind, kind_of, uses, is_step}
use Rattle.protocol.specs.Node.{Line, Node, no_line, opened, kept_of, reading_of, on_line}
use Rattle.protocol.specs.declared.Rule.{Rule}
use Rattle.protocol.specs.Rules.{Outcome, rule_of, without, worked, act}
use Rattle.protocol.specs.Refusals.{answer_to}
use Rattle.protocol.specs.Calls.{input, done, accepted, outcome_of}
use Rattle.node.proofs.Lists.{every_replicate, every_modify}
use Rattle.operator.proofs.Adding.{add_all_length}
use Rattle.operator_meter.proofs.Bounds.{LastFits, no_last}
use Rattle.operator.proofs.Meters.{ValueFits, lasts_add_all}
use Rattle.node.proofs.Gathered.{every_in_bucket}

-- ---- within the widths

pub record ReadingFits (r : Reading) : Type 0 where
  pub id : r.id < 2 ^ 32
  pub time : r.time.0 < 2 ^ 32
  pub value : mag r.value < 2 ^ 31
  pub arrival : r.arrival.0 < 2 ^ 32
  pub kind : r.kind < 256
  pub meter : r.meter < 256

pub record LineFits (l : Line) : Type 0 where
  pub boundary : l.boundary.0 < 2 ^ 32
  pub last_id : l.last_id < 2 ^ 32
  pub last_stable_id : l.last_stable_id < 2 ^ 32
  pub kept : Every ReadingFits l.kept

pub record OperatorFits (o : Operator) : Type 0 where
  pub meters : length o.meters ≡ meter_count
  pub lasts : Every LastFits o.meters

pub record NodeFits (n : Node) : Type 0 where
  pub clock : n.clock.0 < 2 ^ 32
  pub operator : OperatorFits n.operator
  pub checkpoint : OperatorFits n.checkpoint
  pub lines : Every LineFits n.lines

-- ---- at the opening

fresh_fits : OperatorFits fresh
unfolding fresh
fresh_fits = record { meters = length-replicate meter_count no_meter; lasts = every_replicate LastFits meter_count no_meter no_last }

no_line_fits : LineFits no_line
unfolding no_line
no_line_fits = record { boundary = omega arith; last_id = omega arith; last_stable_id = omega arith; kept = tt }

pub opened_fits : (s : Settings) → NodeFits (opened s)
unfolding opened
opened_fits s =
    record {
      clock = omega arith;
      operator = fresh_fits;
      checkpoint = fresh_fits;
      lines = every_replicate LineFits s.lines no_line no_line_fits;
    }

-- ---- an input

reading_fits : (k : Call) → CallFits k → ReadingFits (reading_of k)
unfolding reading_of
reading_fits k f =
    record {
      id = f.id;
      time = f.time;
      value = f.value.sfits;
      arrival = f.now;
      kind = letter_byte k.kind f.kind;
      meter = f.meter;
    }

kept_fit : (k : Call) → CallFits k → (l : Line) → LineFits l → Every ReadingFits (l.kept ++ reading_of k ∷ [])
kept_fit k f l h = every_append ReadingFits l.kept (reading_of k ∷ []) h.kept (reading_fits k f, tt)

line_fits : (k : Call) → CallFits k → (kind : Kind) (l : Line) → LineFits l → LineFits (on_line k kind l)
unfolding on_line
line_fits k f Kind.S l h =
    record { boundary = h.boundary; last_id = f.id; last_stable_id = f.id; kept = kept_fit k f l h }
line_fits k f Kind.T l h =
    record { boundary = h.boundary; last_id = f.id; last_stable_id = h.last_stable_id; kept = kept_fit k f l h }
line_fits k f Kind.B l h =
    record { boundary = f.time; last_id = h.last_id; last_stable_id = h.last_stable_id; kept = h.kept }
line_fits k f Kind.U l h =
    record {
      boundary = h.boundary;
      last_id = f.id;
      last_stable_id = h.last_stable_id;
      kept = every_keep ReadingFits (λ (r : Reading). leb r.id k.id) l.kept h.kept;
    }
line_fits k f Kind.R l h = h
line_fits k f Kind.P l h = h

-- ---- a step

work_fits :
    (s : Settings) (kind j : ℕ) (rs : List Placed) (o : Operator) → Every ValueFits rs → OperatorFits o →
    OperatorFits (work s kind j rs o).operator
unfolding work close clear
work_fits s kind j rs o f h =
    elim (closes_window s.window j) as
    (λ b. OperatorFits (cond b (close s kind j (add_all s o rs)) (record { operator = add_all s o rs; records = [] })).operator) [
      | true ↦ record { meters = length-replicate meter_count no_meter; lasts = every_replicate LastFits meter_count no_meter no_last }
      | false ↦ record { meters = add_all_length s o rs ∙ h.meters; lasts = lasts_add_all s o rs f h.lasts }
    ]

-- the values of a bucket's readings
pub values_fit : (size j : ℕ) (ls : List Line) → Every LineFits ls → Every ValueFits (in_bucket size j (kept_of ls))
values_fit size j ls h =
    every_in_bucket (λ (r : Reading). mag r.value < 2 ^ 31) size j ls
    (every_to ls (λ (l : Line) (g : LineFits l). every_to l.kept (λ (r : Reading) (v : ReadingFits r). v.value) g.kept) h)

worked_fits : (s : Settings) (kind j : ℕ) (n : Node) → NodeFits n → OperatorFits (worked s kind j n).operator
unfolding worked
worked_fits s kind j n h = work_fits s kind j (in_bucket s.bucket j (kept_of n.lines)) n.operator (values_fit s.bucket j n.lines h.lines) h.operator

without_fits : (s : Settings) (j : ℕ) (l : Line) → LineFits l → LineFits (without s j l)
unfolding without
without_fits s j l h =
    record {
      boundary = h.boundary;
      last_id = h.last_id;
      last_stable_id = h.last_stable_id;
      kept = every_keep ReadingFits (λ (r : Reading). not (is_in s.bucket j r)) l.kept h.kept;
    }

act_fits : (s : Settings) (n : Node) (rule : Rule) → NodeFits n → NodeFits (act s n rule).node
unfolding act
act_fits s n Rule.Withdraw h =
    record { clock = h.clock; operator = h.checkpoint; checkpoint = h.checkpoint; lines = h.lines }
act_fits s n Rule.WorkStable h =
    record {
      clock = h.clock;
      operator = worked_fits s letter_s n.c n h;
      checkpoint = worked_fits s letter_s n.c n h;
      lines = every_map (without s n.c) LineFits n.lines (every_to n.lines (without_fits s n.c) h.lines);
    }
act_fits s n Rule.EndCorrection h =
    record { clock = h.clock; operator = h.operator; checkpoint = h.checkpoint; lines = h.lines }
act_fits s n Rule.WorkTentative h =
    record {
      clock = h.clock;
      operator = worked_fits s letter_t n.p n h;
      checkpoint = h.checkpoint;
      lines = h.lines;
    }
act_fits s n Rule.Idle h = h

-- ---- a call

input_fits : (n : Node) (k : Call) → CallFits k → (kind : Kind) → NodeFits n → NodeFits (input n k kind).node
unfolding input
input_fits n k f kind h =
    record {
      clock = h.clock;
      operator = h.operator;
      checkpoint = h.checkpoint;
      lines = every_modify LineFits (on_line k kind) no_line (k.line - 1) n.lines (line_fits k f kind (get_or n.lines (k.line - 1) no_line)) h.lines;
    }

done_fits : (s : Settings) (n : Node) (k : Call) → CallFits k → NodeFits n → (kind : Kind) → NodeFits (done s n k kind).node
unfolding done is_step uses
done_fits s n k f h Kind.S = input_fits n k f Kind.S h
done_fits s n k f h Kind.T = input_fits n k f Kind.T h
done_fits s n k f h Kind.B = input_fits n k f Kind.B h
done_fits s n k f h Kind.U = input_fits n k f Kind.U h
done_fits s n k f h Kind.R = input_fits n k f Kind.R h
done_fits s n k f h Kind.P = act_fits s n (rule_of s n k.now) h

accepted_fits : (now : ArrivalTick) (o : Outcome) → now.0 < 2 ^ 32 → NodeFits o.node → NodeFits (accepted now o).node
unfolding accepted
accepted_fits now o f h = record { clock = f; operator = h.operator; checkpoint = h.checkpoint; lines = h.lines }

pub outcome_fits : (s : Settings) (n : Node) (k : Call) → CallFits k → NodeFits n → NodeFits (outcome_of s n k).node
unfolding outcome_of
outcome_fits s n k f h =
    elim (eqb (answer_to s n k) 0) as
    (λ b. NodeFits (cond b (accepted k.now (done s n k (kind_of k.kind))) (record { node = n; records = [] })).node) [
      | true ↦ accepted_fits k.now (done s n k (kind_of k.kind)) f.now (done_fits s n k f h (kind_of k.kind))
      | false ↦ h
    ]
