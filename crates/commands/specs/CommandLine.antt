-- The lines of the calls that a display makes (document 02, W2): their texts, and that a text is read exactly.
use Rattle.std.specs.Prelude.{◌≡◌, ◌↔◌, List, [], ◌∷◌, ℕ, ◌<◌, ◌^◌, Option, Some, pos}
use Rattle.decimal.specs.Decimal.{decimal}
use Rattle.fields.specs.Keys.{display_key, id_key}
use Rattle.fields.specs.Line.{field, line_of}
use Rattle.commands.specs.declared.Command.{Command}

-- the words that the lines begin with, in ASCII
abbrev pub ack_word : List ℕ
ack_word = 97 ∷ 99 ∷ 107 ∷ []

abbrev pub fetch_word : List ℕ
fetch_word = 102 ∷ 101 ∷ 116 ∷ 99 ∷ 104 ∷ []

-- a word, a display and an id
unfoldable pub display_text : List ℕ → ℕ → ℕ → List ℕ
display_text word display id =
    line_of (word ∷ field display_key (decimal (pos display)) ∷ field id_key (decimal (pos id)) ∷ [])

-- `ack display=1 id=5`
unfoldable pub acknowledge_text : ℕ → ℕ → List ℕ
acknowledge_text display id = display_text ack_word display id

-- `fetch display=1 id=3`
unfoldable pub fetch_text : ℕ → ℕ → List ℕ
fetch_text display id = display_text fetch_word display id

-- a text is the line of a display of 32 bits and an id of 64
abbrev pub IsLine : (ℕ → ℕ → List ℕ) → List ℕ → ℕ → ℕ → Type 0
IsLine line text display id = (display < 2 ^ 32) × (id < 2 ^ 64) × (text ≡ line display id)

-- an answer is exact: it is a command exactly if the text is that command's line, and so none for every other text
pub record ExactCommand (text : List ℕ) (answer : Option Command) : Type 0 where
  pub acknowledge : (display id : ℕ) → (answer ≡ Some (Command.Acknowledge display id)) ↔ IsLine acknowledge_text text display id
  pub fetch : (display id : ℕ) → (answer ≡ Some (Command.Fetch display id)) ↔ IsLine fetch_text text display id
