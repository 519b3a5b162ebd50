-- What is printed for a line: the answer line, then the records as text (document 01, section 'On the last tick and past it').
use Rattle.std.specs.Prelude.{ℕ, zero, suc, cond, List, [], ◌∷◌, ◌++◌, eqb, pos, take, drop}
use Rattle.decimal.specs.Decimal.{decimal}
use Rattle.fields.specs.Line.{field, line_of}
use Rattle.record.specs.Sizes.{record_bytes}
use Rattle.record.specs.Decoded.{decoded}
use Rattle.record_text.specs.RecordText.{text_of}
use Rattle.protocol.specs.declared.Phase.{Phase}
use Rattle.node.specs.Opening.{Opened}
use Rattle.node.specs.Calls.{Called}
pub use Rattle.playback_reply.specs.Sizes.{longest_answer, longest_reply}

-- 'stable', 'failure', 'correcting'
unfoldable pub phase_word : Phase → List ℕ
phase_word Phase.Stable = 115 ∷ 116 ∷ 97 ∷ 98 ∷ 108 ∷ 101 ∷ []
phase_word Phase.Failure = 102 ∷ 97 ∷ 105 ∷ 108 ∷ 117 ∷ 114 ∷ 101 ∷ []
phase_word Phase.Correcting = 99 ∷ 111 ∷ 114 ∷ 114 ∷ 101 ∷ 99 ∷ 116 ∷ 105 ∷ 110 ∷ 103 ∷ []

-- the word of a state, by its number of lines and its phase: 'none' of a closed one, which has no lines
unfoldable pub word_of : ℕ → Phase → List ℕ
word_of lines phase = cond (eqb lines 0) (110 ∷ 111 ∷ 110 ∷ 101 ∷ []) (phase_word phase)

-- 'answer', 'records', 'state'
abbrev pub answer_key : List ℕ
answer_key = 97 ∷ 110 ∷ 115 ∷ 119 ∷ 101 ∷ 114 ∷ []

abbrev pub records_key : List ℕ
records_key = 114 ∷ 101 ∷ 99 ∷ 111 ∷ 114 ∷ 100 ∷ 115 ∷ []

abbrev pub state_key : List ℕ
state_key = 115 ∷ 116 ∷ 97 ∷ 116 ∷ 101 ∷ []

-- the answer line: answer, number of records, and a state's number of lines and phase
unfoldable pub answer_line : ℕ → ℕ → ℕ → Phase → List ℕ
answer_line answer records lines phase =
    line_of
    (field answer_key (decimal (pos answer)) ∷
    field records_key (decimal (pos records)) ∷
    field state_key (word_of lines phase) ∷ [])

-- the texts of the first n records of an area
unfoldable pub record_lines : ℕ → List ℕ → List ℕ
record_lines zero area = []
record_lines (suc n) area = text_of (decoded (take record_bytes area)) ++ record_lines n (drop record_bytes area)

-- the answer line, and behind it the texts of as many records as it says
unfoldable pub reply_lines : ℕ → ℕ → ℕ → Phase → List ℕ → List ℕ
reply_lines answer records lines phase area = answer_line answer records lines phase ++ record_lines records area

-- what is printed for a call, and for an opening
unfoldable pub reply_text : Called → List ℕ
reply_text q = reply_lines q.answer q.records q.state.settings.lines q.state.phase q.area

unfoldable pub opening_text : Opened → List ℕ
opening_text q = answer_line q.answer 0 q.state.settings.lines q.state.phase
