-- What the starred examples are about: a bucket length of 100, a node, and undos to it (document 01, section 'On the last tick and past
-- it').
use Rattle.std.specs.Prelude.{ℕ, [], ◌∷◌, pos, neg_ℤ}
use Rattle.clock.specs.declared.ReadingTime.{ReadingTime}
use Rattle.settings.specs.declared.Settings.{Settings}
use Rattle.journal.specs.declared.Call.{Call}
use Rattle.journal.specs.Kinds.{letter_s, letter_t, letter_u}
use Rattle.store.specs.declared.Reading.{Reading}
use Rattle.store.specs.Order.{Placed}
use Rattle.operator.specs.Meters.{fresh}
use Rattle.protocol.specs.Node.{Line, Node, no_line}
use Rattle.protocol.specs.declared.Phase.TheVariants as Phase

-- the settings of the document's listing: two lines, buckets of 100 ticks
unfoldable pub settings : Settings
settings = record { lines = 2; bucket = 100; window = 1; hold = 50; low = neg_ℤ (pos 1000); high = pos 1000; displays = 1 }

-- a tick of reading time
abbrev pub tick : ℕ → ReadingTime
tick t = record { 0 = t }

-- a reading as a bucket has it, with its line's number
abbrev pub on : ℕ → Reading → Placed
on n r = record { line = n; reading = r }

-- a kept reading of this kind
unfoldable pub kept : ℕ → ℕ → Reading
kept kind id =
    record { id = id; time = record { 0 = 10 }; value = pos 7; arrival = record { 0 = 0 }; kind = kind; meter = 3 }

-- a line with last stable id 2 and last id 5
unfoldable pub line : Line
line =
    record {
      boundary = record { 0 = 0 };
      last_id = 5;
      last_stable_id = 2;
      kept = kept letter_s 1 ∷ kept letter_s 2 ∷ kept letter_t 3 ∷ kept letter_t 4 ∷ kept letter_t 5 ∷ [];
    }

-- a node with that line as its line 1, and nothing on line 2
unfoldable pub node : Node
node =
    record {
      clock = record { 0 = 0 };
      c = 0;
      p = 0;
      phase = Phase.Stable;
      operator = fresh;
      checkpoint = fresh;
      lines = line ∷ no_line ∷ [];
      acknowledged = 0 ∷ [];
    }

-- an undo on line 1
unfoldable pub undo : ℕ → Call
undo id =
    record { now = record { 0 = 0 }; id = id; time = record { 0 = 0 }; value = pos 0; line = 1; kind = letter_u; meter = 0 }
