-- What is decided of a call before anything changes: its first refusal, or the call that is to be done (document 01, section 'Refusal by
-- whom').
use Rattle.std.specs.Prelude.{ℕ, cond, List, eqb, Option, Some, None, Result, Ok, Err}
use Rattle.answer.specs.Refusals.{number}
use Rattle.answer.specs.declared.Refusal.{Refusal}
use Rattle.journal.specs.declared.Call.{Call}
use Rattle.journal.specs.JournalLine.{call_answer}
use Rattle.protocol.specs.Refusals.{first_failed, answer_to}
use Rattle.node.specs.Held.{Held}
use Rattle.node.specs.View.{Lent, view}
use Rattle.node.specs.Calls.{host_tests}

-- refusal 6, then 7 to 15, by their numbers
unfoldable pub decided_with : Held → Lent → Option Call → Result Call ℕ
decided_with st x (Some k) =
    let answer : ℕ = answer_to st.settings (view st x.readings) k in
    cond (eqb answer 0) (Ok k) (Err answer)
decided_with st x None = Err (call_answer None)

-- refusals 3 to 5 come first
unfoldable pub decided_on : Held → Lent → Option Call → List ℕ → Result Call ℕ
decided_on st x read area =
    let host : ℕ = first_failed (host_tests st x area) in cond (eqb host 0) (decided_with st x read) (Err host)

-- the code's answer, with the refusal's number
unfoldable pub numbered : Result Call Refusal → Result Call ℕ
numbered (Ok k) = Ok k
numbered (Err refusal) = Err (number refusal)
