-- Document 01's listing as calls on a box, and a twin box that was handed the same stable readings in another way: a state in use and
-- longer stores before its opening, other clocks, other output areas, line 2 before line 1, a tentative reading, taken back again, and a
-- display that fetches and acknowledges. The settings are those of the starred examples.
use Rattle.std.specs.Prelude.{ℕ, true, false, List, [], ◌∷◌, ◌++◌, pos, neg_ℤ, replicate}
use Prim.Native.Char.{code}
use Prim.Native.String.{String}
use Prim.Native.String as text
use Rattle.record.specs.declared.Record.{Record}
use Rattle.store.specs.declared.Reading.{Reading}
use Rattle.store.specs.Columns.{Columns}
use Rattle.protocol.specs.Monitor.{LineMonitor}
use Rattle.node.specs.View.{Lent}
use Rattle.node.specs.Opening.{closed_state}
use Rattle.consistency.specs.Runs.{Input, left_after}
use Rattle.consistency.specs.Accounts.{Account}
use Rattle.consistency.specs.Demand.{Handed, box_of}

-- the bytes of a text, each character being one
unfoldable pub bytes_in : String → List ℕ
bytes_in text.[] = []
bytes_in (text.◌∷◌ c s) = code c ∷ bytes_in s

-- a store of so many places, with the same number in all of them
unfoldable pub store_of : ℕ → ℕ → Columns
store_of places n =
    record {
      ids = replicate places n;
      times = replicate places n;
      values = replicate places (pos n);
      arrivals = replicate places n;
      kinds = replicate places n;
      meters = replicate places n;
    }

-- what is lent to a box: that store, and a send-back store of so many bytes, the same number in all of them
unfoldable pub lent_filled : ℕ → ℕ → ℕ → Lent
lent_filled places bytes n = record { readings = store_of places n; sent = replicate bytes n }

unfoldable pub settings_line : List ℕ
settings_line = bytes_in "lines=2 bucket=100 window=1 hold=50 low=-1000 high=1000 displays=1\n"

-- the stable readings that both boxes are sent, line by line, if they arrive at these ticks
unfoldable pub arrived : ℕ → ℕ → List (List Reading)
arrived a b =
    (record { id = 1; time = record { 0 = 10 }; value = pos 7; arrival = record { 0 = a }; kind = 83; meter = 3 } ∷ []) ∷
    (record { id = 1; time = record { 0 = 99 }; value = neg_ℤ (pos 2); arrival = record { 0 = b }; kind = 83; meter = 3 } ∷ []) ∷ []

-- and what the monitor then knows of the lines, their boundaries being 100
unfoldable pub observed : ℕ → ℕ → List LineMonitor
observed a b =
    record { boundary = record { 0 = 100 }; entries = record { id = 1; time = record { 0 = 10 }; arrival = record { 0 = a } } ∷ [] } ∷
    record { boundary = record { 0 = 100 }; entries = record { id = 1; time = record { 0 = 99 }; arrival = record { 0 = b } } ∷ [] } ∷ []

-- ---- the listing

unfoldable pub handed : Handed
handed = record { state = closed_state; lent = lent_filled 512 16384 0; text = settings_line }

unfoldable pub call : String → Input
call s = Input.journal (bytes_in s) (replicate 2080 0)

unfoldable pub readings : List Input
readings =
    call "now=0 line=1 kind=S id=1 time=10 meter=3 value=7\n" ∷
    call "now=0 line=1 kind=B id=0 time=100 meter=0 value=0\n" ∷
    call "now=50 line=0 kind=P id=0 time=0 meter=0 value=0\n" ∷
    call "now=60 line=2 kind=S id=1 time=99 meter=3 value=-2\n" ∷
    call "now=61 line=2 kind=B id=0 time=100 meter=0 value=0\n" ∷ []

unfoldable pub step : Input
step = call "now=62 line=0 kind=P id=0 time=0 meter=0 value=0\n"

unfoldable pub late : Input
late = call "now=63 line=1 kind=S id=2 time=99 meter=3 value=7\n"

-- its display fetches the stable result, and acknowledges it
unfoldable pub fetches : Input
fetches = Input.fetch 1 1 (replicate 2080 0)

unfoldable pub acknowledges : Input
acknowledges = Input.acknowledge 1 1 (replicate 2080 0)

-- its records: kind, meter, two zeros and id; start and count; sum; mean and last
unfoldable pub tentative : List ℕ
tentative =
    (84 ∷ 3 ∷ 0 ∷ 0 ∷ 1 ∷ 0 ∷ 0 ∷ 0 ∷ []) ++
    (0 ∷ 0 ∷ 0 ∷ 0 ∷ 1 ∷ 0 ∷ 0 ∷ 0 ∷ []) ++
    (7 ∷ 0 ∷ 0 ∷ 0 ∷ 0 ∷ 0 ∷ 0 ∷ 0 ∷ []) ++
    (7 ∷ 0 ∷ 0 ∷ 0 ∷ 7 ∷ 0 ∷ 0 ∷ 0 ∷ [])

unfoldable pub undo : List ℕ
undo = 85 ∷ replicate 31 0

unfoldable pub stable : List ℕ
stable =
    (83 ∷ 3 ∷ 0 ∷ 0 ∷ 1 ∷ 0 ∷ 0 ∷ 0 ∷ []) ++
    (0 ∷ 0 ∷ 0 ∷ 0 ∷ 2 ∷ 0 ∷ 0 ∷ 0 ∷ []) ++
    (5 ∷ 0 ∷ 0 ∷ 0 ∷ 0 ∷ 0 ∷ 0 ∷ 0 ∷ []) ++
    (2 ∷ 0 ∷ 0 ∷ 0 ∷ 254 ∷ 255 ∷ 255 ∷ 255 ∷ [])

unfoldable pub boundary : List ℕ
boundary = 66 ∷ 0 ∷ 0 ∷ 0 ∷ 0 ∷ 0 ∷ 0 ∷ 0 ∷ 100 ∷ replicate 23 0

unfoldable pub corrected : List ℕ
corrected = 82 ∷ replicate 31 0

-- the stable result as a record, if it were of so many readings
unfoldable pub counting : ℕ → Record
counting n =
    record {
      sum = pos 5;
      id = 1;
      time = record { 0 = 0 };
      count = n;
      mean = pos 2;
      last = neg_ℤ (pos 2);
      kind = 83;
      meter = 3;
    }

-- its account before the corrections, and behind the stable result; behind the display's calls
unfoldable pub account_before : Account
account_before =
    record { monitor = record { d = 0; t = 1; mark = false; lines = observed 0 60 }; stables = arrived 0 60; acknowledged = 0 ∷ [] }

unfoldable pub account_behind : Account
account_behind =
    record { monitor = record { d = 1; t = 1; mark = true; lines = observed 0 60 }; stables = arrived 0 60; acknowledged = 0 ∷ [] }

unfoldable pub account_shown : Account
account_shown = record { monitor = account_behind.monitor; stables = account_behind.stables; acknowledged = 1 ∷ [] }

-- ---- the twin

unfoldable pub twin : Handed
twin = record { state = (left_after (box_of handed) readings).state; lent = lent_filled 600 17000 9; text = settings_line }

unfoldable pub twin_call : String → Input
twin_call s = Input.journal (bytes_in s) (replicate 2112 255)

unfoldable pub twin_calls : List Input
twin_calls =
    twin_call "now=1000 line=2 kind=S id=1 time=99 meter=3 value=-2\n" ∷
    twin_call "now=1000 line=1 kind=T id=1 time=20 meter=5 value=9\n" ∷
    twin_call "now=1001 line=2 kind=B id=0 time=100 meter=0 value=0\n" ∷
    twin_call "now=1002 line=1 kind=U id=0 time=0 meter=0 value=0\n" ∷
    twin_call "now=1003 line=1 kind=S id=1 time=10 meter=3 value=7\n" ∷
    twin_call "now=1004 line=1 kind=B id=0 time=100 meter=0 value=0\n" ∷
    twin_call "now=1005 line=0 kind=P id=0 time=0 meter=0 value=0\n" ∷
    Input.fetch 1 1 (replicate 2112 255) ∷
    Input.acknowledge 1 1 (replicate 2112 255) ∷ []

-- its account
unfoldable pub twin_account : Account
twin_account =
    record {
      monitor = record { d = 1; t = 1; mark = false; lines = observed 1003 1000 };
      stables = arrived 1003 1000;
      acknowledged = 1 ∷ [];
    }
