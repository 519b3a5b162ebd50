-- A journal call on what is held, stores, text and area: refusals 3 to 15 in order, and what it leaves (document 01, section 'Refusal by
-- whom'; document 02, W2).
use Rattle.std.specs.Prelude.{ℕ, cond, not, List, [], ◌∷◌, ltb, eqb, length, Option, Some, None, Result, Ok, Err}
use Rattle.journal.specs.declared.Call.{Call}
use Rattle.answer.specs.Numbers as Answer
use Rattle.answer.specs.Refusals.{answer_of}
use Rattle.answer.specs.declared.Refusal.{Refusal}
use Rattle.area.specs.Laid.{in_front}
use Rattle.journal.specs.JournalLine.{call_answer}
use Rattle.journal.specs.ReadLine.{call_of}
use Rattle.record.specs.Layout.{all_bytes}
use Rattle.protocol.specs.Node.{Node}
use Rattle.protocol.specs.Rules.{Outcome}
use Rattle.protocol.specs.Refusals.{Test, first_failed, answer_to}
use Rattle.protocol.specs.Calls.{outcome_of}
use Rattle.node.specs.Sizes.{area_bytes}
use Rattle.retransmission.specs.Places.{places_of, with_places, holding}
use Rattle.node.specs.View.{Lent, lent, view, put_state, put_columns}
use Rattle.node.specs.Shape.{in_shape}
use Rattle.node.specs.Opening.{is_short}
use Rattle.node.specs.Held.{Held, held}
use Rattle.node.specs.declared.State.{State}
use Rattle.node.specs.declared.Stores.{Stores}

-- what a call answers and leaves
pub record Called : Type 0 where
  pub answer : ℕ
  pub records : ℕ
  pub state : Held
  pub lent : Lent
  pub area : List ℕ

-- how many records a reply gives: none where the call is refused
unfoldable pub records_of : Result ℕ Refusal → ℕ
records_of (Ok n) = n
records_of (Err refusal) = 0

-- the code's reply, with the state, what stands in the stores and the area that it leaves
abbrev pub answered_of : Result ℕ Refusal → State → Lent → List ℕ → Called
answered_of reply s x area =
    record { answer = answer_of reply; records = records_of reply; state = held s; lent = x; area = area }

-- the same of the stores themselves
abbrev pub called_of : Result ℕ Refusal → State → Stores → List ℕ → Called
called_of reply s x area = answered_of reply s (lent x) area

-- refusals 3, 4 and 5: what the host lends, whatever it asks
unfoldable pub host_tests : Held → Lent → List ℕ → List Test
host_tests st x area =
    record { fails = is_short st.settings.lines x; number = Answer.short_store } ∷
    record { fails = not (in_shape st x); number = Answer.out_of_shape } ∷
    record { fails = ltb (length area) area_bytes; number = Answer.short_area } ∷ []

-- an outcome laid into the stores: the stable results go to their places
unfoldable pub put_lent : Held → Lent → Outcome → Lent
put_lent st x o =
    record {
      readings = put_columns st x.readings o.node;
      sent = with_places x.sent (holding (places_of x.sent) o.records);
    }

-- an outcome laid into state, stores and area
abbrev pub laid_outcome : Held → Lent → List ℕ → Outcome → Called
laid_outcome st x area o =
    record {
      answer = 0;
      records = length o.records;
      state = put_state st o.node;
      lent = put_lent st x o;
      area = in_front (all_bytes o.records) area;
    }

-- a refused call changes nothing and gives no record
unfoldable pub refused_with : ℕ → Held → Lent → List ℕ → Called
refused_with n st x area = record { answer = n; records = 0; state = st; lent = x; area = area }

-- a journal call that the host's tests let through: refusals 7 to 15, or its outcome laid down
unfoldable pub called_with : Held → Lent → List ℕ → Option Call → Called
called_with st x area (Some k) =
    let n : Node = view st x.readings in
    let answer : ℕ = answer_to st.settings n k in
    cond (eqb answer 0) (laid_outcome st x area (outcome_of st.settings n k)) (refused_with answer st x area)
called_with st x area None = refused_with (call_answer None) st x area

unfoldable pub called_on : Held → Lent → List ℕ → List ℕ → Called
called_on st x text area =
    cond (eqb (first_failed (host_tests st x area)) 0)
    (called_with st x area (call_of text))
    (refused_with (first_failed (host_tests st x area)) st x area)
