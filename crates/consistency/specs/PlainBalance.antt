-- Document 02, W11 once more, in other words, to test the statement: the values that were sent in, call by call, and those kept, line by
-- line; what was paid by the bytes at their places, whatever stands beside them; counts and sums each for themselves, over the runs of
-- Plain.antt. Whatever weakens Balance.antt no longer gives this table.
use Rattle.std.specs.Prelude.{ℕ, ◌+◌, ◌<◌, ◌≡◌, Bool, cond, ◌&&◌, List, [], ◌∷◌, ◌++◌, eqb, ℤ, pos, ◌+ℤ◌, length, get_or}
use Rattle.std.specs.Prelude.{Option, Some, None}
use Rattle.std.specs.Int.Signed.{le_z}
use Rattle.journal.specs.declared.Call.{Call}
use Rattle.signed.specs.Twos.{signed_of}
use Rattle.settings.specs.declared.Settings.{Settings}
use Rattle.journal.specs.ReadLine.{call_of}
use Rattle.record.specs.Fields.{word_at}
use Rattle.store.specs.declared.Reading.{Reading}
use Rattle.operator_meter.specs.declared.Meter.{Meter}
use Rattle.operator_meter.specs.Values.{no_meter}
use Rattle.protocol.specs.Node.{Line}
use Rattle.node.specs.Held.{Held}
use Rattle.node.specs.View.{Lent, view}
use Rattle.node.specs.Opening.{opened_on}
use Rattle.node.specs.Calls.{Called, called_on}
use Rattle.node.specs.Displays.{acknowledged_on, fetched_on}
use Rattle.consistency.specs.Runs.{Input}
use Rattle.consistency.specs.Plain.{Run, settings_on, run_of}

-- the value of a reading, if it is a stable one of meter i and the value is inside low to high
unfoldable pub value_if : Settings → ℕ → ℕ → ℕ → ℤ → List ℤ
value_if s i kind meter value = cond (eqb kind 83 && (eqb meter i && (le_z s.low value && le_z value s.high))) (value ∷ []) []

-- the value that a call's text would send in
unfoldable pub sent_by : Settings → ℕ → Option Call → List ℤ
sent_by s i (Some k) = value_if s i k.kind k.meter k.value
sent_by s i None = []

-- the values of the accepted journal calls, one call after the other; a display's call sends nothing in
unfoldable pub sent_values : Settings → ℕ → Held → Lent → List Input → List ℤ
sent_values s i st x [] = []
sent_values s i st x (Input.journal text area ∷ is) =
    let r : Called = called_on st x text area in
    cond (eqb r.answer 0) (sent_by s i (call_of text)) [] ++ sent_values s i r.state r.lent is
sent_values s i st x (Input.acknowledge display id area ∷ is) =
    let r : Called = acknowledged_on st x display id area in
    sent_values s i r.state r.lent is
sent_values s i st x (Input.fetch display from area ∷ is) =
    let r : Called = fetched_on st x display from area in
    sent_values s i r.state r.lent is

-- those of the kept readings, line by line
unfoldable pub values_among : Settings → ℕ → List Reading → List ℤ
values_among s i [] = []
values_among s i (r ∷ rs) = value_if s i r.kind r.meter r.value ++ values_among s i rs

unfoldable pub kept_values : Settings → ℕ → List Line → List ℤ
kept_values s i [] = []
kept_values s i (l ∷ ls) = values_among s i l.kept ++ kept_values s i ls

unfoldable pub sum_of : List ℤ → ℤ
sum_of [] = pos 0
sum_of (v ∷ vs) = v +ℤ sum_of vs

-- bytes that begin with S and i; their count and their sum
unfoldable pub is_paid : ℕ → List ℕ → Bool
is_paid i b = eqb (get_or b 0 0) 83 && eqb (get_or b 1 0) i

unfoldable pub paid_count : ℕ → List (List ℕ) → ℕ
paid_count i [] = 0
paid_count i (b ∷ bs) = cond (is_paid i b) (word_at 12 4 b) 0 + paid_count i bs

unfoldable pub paid_sum : ℕ → List (List ℕ) → ℤ
paid_sum i [] = pos 0
paid_sum i (b ∷ bs) = cond (is_paid i b) (signed_of 64 (word_at 16 8 b)) (pos 0) +ℤ paid_sum i bs

-- the values sent in from an opening on, and those kept after the calls
unfoldable pub sent_of : Held → Lent → List ℕ → List Input → ℕ → List ℤ
sent_of st x text is i = sent_values (settings_on st x text) i (opened_on st x text).state (opened_on st x text).lent is

unfoldable pub kept_on : Settings → Run → ℕ → List ℤ
kept_on s y i = kept_values s i (view y.state y.lent.readings).lines

-- the open window's meter
unfoldable pub open_on : Run → ℕ → Meter
open_on y i = get_or y.state.checkpoint.meters i no_meter

pub record PlainBalance : Type 0 where
  pub counts :
      (st : Held) (x : Lent) (text : List ℕ) → (opened_on st x text).answer ≡ 0 → (is : List Input) (i : ℕ) → i < 64 →
      let y : Run = run_of st x text is in
      length (sent_of st x text is i) ≡ paid_count i y.bytes + (open_on y i).count + length (kept_on (settings_on st x text) y i)
  pub sums :
      (st : Held) (x : Lent) (text : List ℕ) → (opened_on st x text).answer ≡ 0 → (is : List Input) (i : ℕ) → i < 64 →
      let y : Run = run_of st x text is in
      sum_of (sent_of st x text is i) ≡ (paid_sum i y.bytes +ℤ (open_on y i).sum) +ℤ sum_of (kept_on (settings_on st x text) y i)
