-- The parts that the answer line is written in.
use Rattle.std.specs.Prelude.{ℕ, List, [], ◌∷◌, ◌++◌, pos}
use Rattle.decimal.specs.Decimal.{decimal}
use Rattle.fields.specs.Field.{first, later}
use Rattle.protocol.specs.declared.Phase.{Phase}
use Rattle.playback_reply.specs.Reply.{word_of, answer_key, records_key, state_key}

-- the answer, and the number of records
abbrev pub answer_field : ℕ → List ℕ
answer_field answer = first answer_key ++ decimal (pos answer)

abbrev pub records_field : ℕ → List ℕ
records_field records = later records_key ++ decimal (pos records)

-- the state, with the 0A
unfoldable pub state_field : ℕ → Phase → List ℕ
state_field lines phase = later state_key ++ (word_of lines phase ++ 10 ∷ [])
