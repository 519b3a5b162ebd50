-- The send-back store (document 02, W2) on a run of calls, computed: three stable results for two displays. Display 1 acknowledges two of
-- them, and nothing is given up, since display 2 has acknowledged none; then display 2 acknowledges one, and its place is zeroed. Both
-- fetch, display 1 what it has acknowledged itself, and calls that do not fit are refused. The store and the areas had nines in every
-- byte, so that whatever is laid down or zeroed beside its place changes a row.
use Rattle.std.specs.Prelude.{ℕ, zero, suc, ◌*◌, ◌≡◌, false, List, [], ◌∷◌, ◌++◌, pos, take, drop, replicate, length}
use Rattle.journal.specs.declared.Call.{Call}
use Rattle.store.specs.declared.Reading.{Reading}
use Rattle.protocol.specs.FailureFree.{failure_free}
use Rattle.node.specs.Calls.{Called}
use Rattle.node.specs.Opening.{closed_state}
use Rattle.consistency.specs.Runs.{Input, called}
use Rattle.consistency.specs.Accounts.{Account}
use Rattle.consistency.specs.Demand.{Handed, is_opened, settings_in, failure_free_bytes}
use Rattle.consistency.specs.SentBack.{last_in, least_in, newest_in, IsDisplay, IsHeld, place_in, Stored, Answers, FetchedFrom, Quiet}
use Rattle.consistency.specs.SentBack.{IsStep, LacksPlaces, box_after}
use Rattle.consistency_examples.specs.Given.{bytes_in, store_of, call}

unfoldable pub handed : Handed
handed =
    record {
      state = closed_state;
      lent = record { readings = store_of 256 9; sent = replicate 16400 9 };
      text = bytes_in "lines=1 bucket=100 window=1 hold=50 low=-1000 high=1000 displays=2\n";
    }

-- ---- the results

-- buckets 0 and 1 are worked as stable
unfoldable pub worked : List Input
worked =
    call "now=0 line=1 kind=S id=1 time=10 meter=3 value=7\n" ∷
    call "now=0 line=1 kind=S id=2 time=20 meter=5 value=-2\n" ∷
    call "now=1 line=1 kind=S id=3 time=150 meter=3 value=40\n" ∷
    call "now=2 line=1 kind=B id=0 time=200 meter=0 value=0\n" ∷
    call "now=3 line=0 kind=P id=0 time=0 meter=0 value=0\n" ∷
    call "now=3 line=0 kind=P id=0 time=0 meter=0 value=0\n" ∷ []

-- kind, meter, two zeros and id; start and count; sum; mean and last
unfoldable pub first : List ℕ
first =
    (83 ∷ 3 ∷ 0 ∷ 0 ∷ 1 ∷ 0 ∷ 0 ∷ 0 ∷ []) ++
    (0 ∷ 0 ∷ 0 ∷ 0 ∷ 1 ∷ 0 ∷ 0 ∷ 0 ∷ []) ++
    (7 ∷ 0 ∷ 0 ∷ 0 ∷ 0 ∷ 0 ∷ 0 ∷ 0 ∷ []) ++
    (7 ∷ 0 ∷ 0 ∷ 0 ∷ 7 ∷ 0 ∷ 0 ∷ 0 ∷ [])

unfoldable pub second : List ℕ
second =
    (83 ∷ 5 ∷ 0 ∷ 0 ∷ 2 ∷ 0 ∷ 0 ∷ 0 ∷ []) ++
    (0 ∷ 0 ∷ 0 ∷ 0 ∷ 1 ∷ 0 ∷ 0 ∷ 0 ∷ []) ++
    (254 ∷ 255 ∷ 255 ∷ 255 ∷ 255 ∷ 255 ∷ 255 ∷ 255 ∷ []) ++
    (254 ∷ 255 ∷ 255 ∷ 255 ∷ 254 ∷ 255 ∷ 255 ∷ 255 ∷ [])

unfoldable pub third : List ℕ
third =
    (83 ∷ 3 ∷ 0 ∷ 0 ∷ 3 ∷ 0 ∷ 0 ∷ 0 ∷ []) ++
    (100 ∷ 0 ∷ 0 ∷ 0 ∷ 1 ∷ 0 ∷ 0 ∷ 0 ∷ []) ++
    (40 ∷ 0 ∷ 0 ∷ 0 ∷ 0 ∷ 0 ∷ 0 ∷ 0 ∷ []) ++
    (40 ∷ 0 ∷ 0 ∷ 0 ∷ 40 ∷ 0 ∷ 0 ∷ 0 ∷ [])

-- ---- the displays

unfoldable pub acknowledges : ℕ → ℕ → Input
acknowledges display id = Input.acknowledge display id (replicate 2080 9)

unfoldable pub fetches : ℕ → ℕ → Input
fetches display from = Input.fetch display from (replicate 2080 9)

-- display 1 has acknowledged two
unfoldable pub two : List Input
two = worked ++ acknowledges 1 2 ∷ []

-- a refused one, which does not count, and display 2 has acknowledged one
unfoldable pub one : List Input
one = two ++ acknowledges 2 4 ∷ acknowledges 2 1 ∷ []

-- a step that does nothing
unfoldable pub late : Input
late = call "now=9 line=0 kind=P id=0 time=0 meter=0 value=0\n"

-- a call behind a list
unfoldable pub then : List Input → Input → Called
then is i = called (box_after handed is) i

unfoldable pub sent : List Input → List ℕ
sent is = (box_after handed is).lent.sent

-- ---- want of places, on accounts made for it

-- a stable reading of each of these meters in bucket b; and so for each of these buckets
unfoldable pub readings_in : ℕ → ℕ → List Reading
readings_in b zero = []
readings_in b (suc m) =
    record { id = 1; time = record { 0 = b * 100 }; value = pos 1; arrival = record { 0 = 0 }; kind = 83; meter = m } ∷ readings_in b m

unfoldable pub readings_to : ℕ → List Reading
readings_to zero = []
readings_to (suc b) = readings_to b ++ readings_in b 64

-- all 64 meters have a result in each of 9 stable buckets, of which d are worked; display 2 has acknowledged nothing
unfoldable pub crowded : ℕ → Account
crowded d =
    record {
      monitor = record { d = d; t = d; mark = false; lines = record { boundary = record { 0 = 900 }; entries = [] } ∷ [] };
      stables = readings_to 9 ∷ [];
      acknowledged = 500 ∷ 0 ∷ [];
    }

unfoldable pub step : Call
step = record { now = record { 0 = 3 }; id = 0; time = record { 0 = 0 }; value = pos 0; line = 0; kind = 80; meter = 0 }

pub record Resent : Type 0 where
  pub opened : is_opened handed
  pub displays : IsDisplay handed 2
  pub no_display : IsDisplay handed 3 → ⊥
  pub results : failure_free_bytes handed worked ≡ first ∷ second ∷ third ∷ []
  -- display 1 has acknowledged two results: all are held
  pub last1 : last_in handed two 1 ≡ 2
  pub last2 : last_in handed two 2 ≡ 0
  pub least : least_in handed two ≡ 0
  pub newest : newest_in handed two ≡ 3
  pub held : take 128 (sent two) ≡ first ++ second ++ third ++ replicate 32 0
  -- either display is given what is there from an id on, and what lies behind it in the area stays
  pub all : (then two (fetches 1 1)).records ≡ 3
  pub all_bytes : (then two (fetches 1 1)).area ≡ first ++ second ++ third ++ replicate 1984 9
  pub some : (then two (fetches 2 3)).records ≡ 1
  pub some_bytes : (then two (fetches 2 3)).area ≡ third ++ replicate 2048 9
  pub next : (then two (fetches 2 4)).answer ≡ 0
  pub none : (then two (fetches 2 4)).records ≡ 0
  -- what does not fit is refused, in order
  pub past : (then two (fetches 2 5)).answer ≡ 17
  pub from_nothing : (then two (fetches 2 0)).answer ≡ 17
  pub below : (then two (acknowledges 1 1)).answer ≡ 17
  pub above : (then two (acknowledges 2 4)).answer ≡ 17
  pub again : (then two (acknowledges 1 2)).answer ≡ 0
  pub display0 : (then two (fetches 0 1)).answer ≡ 16
  pub display3 : (then two (acknowledges 3 9)).answer ≡ 16
  pub short : (then two (Input.fetch 3 9 (replicate 2079 9))).answer ≡ 5
  -- display 2 has acknowledged one: result 1 is given up, and its place is zeroed
  pub last_then1 : last_in handed one 1 ≡ 2
  pub last_then2 : last_in handed one 2 ≡ 1
  pub least_then : least_in handed one ≡ 1
  pub held_then : take 128 (sent one) ≡ replicate 32 0 ++ second ++ third ++ replicate 32 0
  pub held2 : IsHeld handed one 2
  pub not_held1 : IsHeld handed one 1 → ⊥
  pub not_held4 : IsHeld handed one 4 → ⊥
  pub place1 : place_in (sent one) 1 ≡ second
  pub last_place : place_in (sent one) 511 ≡ replicate 32 0
  pub behind : drop 16384 (sent one) ≡ replicate 16 9
  -- it can be fetched no more; display 1 is given what it has acknowledged itself
  pub given_up : (then one (fetches 2 1)).answer ≡ 17
  pub own : (then one (fetches 1 2)).area ≡ second ++ third ++ replicate 2016 9
  -- what is not right is told: a result left at its place; 17 where there is no such display; a fetch from another id; a call that moves
  -- the clock
  pub not_stored : Stored handed one (sent two) → ⊥
  pub not_answers : Answers (replicate 2080 9) (IsDisplay handed 3) (IsHeld handed one 2) 17 → ⊥
  pub not_fetched : FetchedFrom handed two 2 (replicate 2080 9) (then two (fetches 1 1)) → ⊥
  pub not_quiet : Quiet (box_after handed two) (replicate 2080 0) (then two late) → ⊥
  -- eight crowded buckets fill the store, and the ninth finds no place
  pub is_step : IsStep (record { 0 = 3 }) step
  pub too_early : IsStep (record { 0 = 4 }) step → ⊥
  pub eight : length (failure_free (settings_in handed) (readings_to 9 ∷ []) 8).records ≡ 512
  pub nine : length (failure_free (settings_in handed) (readings_to 9 ∷ []) 9).records ≡ 576
  pub enough : LacksPlaces (settings_in handed) (crowded 7) → ⊥
  pub lacking : LacksPlaces (settings_in handed) (crowded 8)
