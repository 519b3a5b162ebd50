-- Lists of calls from an opening on, each on the state and stores that the one before left (document 01, section 'From the opening on';
-- document 02, W2).
use Rattle.std.specs.Prelude.{ℕ, List, [], ◌∷◌, ◌++◌, Option, Some, None}
use Rattle.record.specs.declared.Record.{Record}
use Rattle.record.specs.Decoded.{decoded}
use Rattle.record.specs.Markers.{marker}
use Rattle.node.specs.Held.{Held}
use Rattle.retransmission.specs.Places.{pieces}
use Rattle.node.specs.View.{Lent}
use Rattle.node.specs.Calls.{Called, called_on}
use Rattle.node.specs.Displays.{acknowledged_on, fetched_on}

-- what the host keeps between calls
pub record Box : Type 0 where
  pub state : Held
  pub lent : Lent

-- one call, and the output area lent to it: a journal call's text; a display's acknowledgement up to an id; its fetch from an id on
pub data Input : Type 0 where
  journal : (text area : List ℕ) → Input
  acknowledge : (display id : ℕ) (area : List ℕ) → Input
  fetch : (display from : ℕ) (area : List ℕ) → Input

unfoldable pub called : Box → Input → Called
called b (Input.journal text area) = called_on b.state b.lent text area
called b (Input.acknowledge display id area) = acknowledged_on b.state b.lent display id area
called b (Input.fetch display from area) = fetched_on b.state b.lent display from area

-- the area that a call is lent
unfoldable pub area_of : Input → List ℕ
area_of (Input.journal text area) = area
area_of (Input.acknowledge display id area) = area
area_of (Input.fetch display from area) = area

-- the box behind a call
unfoldable pub left : Box → Input → Box
left b i = record { state = (called b i).state; lent = (called b i).lent }

unfoldable pub left_after : Box → List Input → Box
left_after b [] = b
left_after b (i ∷ is) = left_after (left b i) is

-- the record that bytes are read as; bytes that are none give one of no kind
unfoldable pub read_as : Option Record → Record
read_as (Some r) = r
read_as None = marker 0 0 (record { 0 = 0 })

unfoldable pub record_in : List ℕ → Record
record_in piece = read_as (decoded piece)

-- the records that a call adds to the output, read as it returns; fetched ones are no part of it
unfoldable pub given : Box → Input → List (List ℕ)
given b (Input.journal text area) = pieces (called b (Input.journal text area)).records (called b (Input.journal text area)).area
given b (Input.acknowledge display id area) = []
given b (Input.fetch display from area) = []

-- all of them, in order
unfoldable pub output : Box → List Input → List (List ℕ)
output b [] = []
output b (i ∷ is) = given b i ++ output (left b i) is
