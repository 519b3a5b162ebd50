-- Examples of the send-back store's rules (document 02, W2): the answers to a display's two calls, what a fetch gives and what is given up,
-- with two displays at 10 and 5 and 20 as the newest stable id; steps on a store that is nearly full; places.
use Rattle.std.specs.Prelude.{ℕ, ◌≡◌, List, [], ◌∷◌, pos, neg_ℤ}
use Rattle.settings.specs.declared.Settings.{Settings}
use Rattle.journal.specs.declared.Call.{Call}
use Rattle.journal.specs.Kinds.{letter_p}
use Rattle.retransmission.specs.Places.{place_of}
use Rattle.operator_meter.specs.declared.Meter.{Meter}
use Rattle.protocol.specs.declared.Phase.TheVariants as Phase
use Rattle.protocol.specs.Node.{Line, Node}
use Rattle.protocol.specs.Refusals.{answer_to}
use Rattle.protocol.specs.Displays.{given_up_to, free_places, answer_to_acknowledgement, answer_to_fetch, fetch_count}
use Rattle.protocol.specs.Calls.{acknowledged_by}

-- the listing's settings, with a second display
unfoldable pub two : Settings
two = record { lines = 2; bucket = 100; window = 1; hold = 50; low = neg_ℤ (pos 1000); high = pos 1000; displays = 2 }

-- a line with this boundary that keeps no reading
unfoldable pub quiet : ℕ → Line
quiet boundary = record { boundary = record { 0 = boundary }; last_id = 0; last_stable_id = 0; kept = [] }

-- a node with this newest stable id whose displays have acknowledged up to 10 and 5; these meters are open; bucket 0 is stable
unfoldable pub node_holding : ℕ → List Meter → Node
node_holding newest meters =
    record {
      clock = record { 0 = 0 };
      c = 0;
      p = 0;
      phase = Phase.Stable;
      operator = record { meters = meters; number = newest };
      checkpoint = record { meters = meters; number = newest };
      lines = quiet 100 ∷ quiet 100 ∷ [];
      acknowledged = 10 ∷ 5 ∷ [];
    }

unfoldable pub node : Node
node = node_holding 20 []

-- a meter with a result
unfoldable pub meter : Meter
meter = record { sum = pos 7; count = 1; last = pos 7 }

unfoldable pub step : Call
step = record { now = record { 0 = 0 }; id = 0; time = record { 0 = 0 }; value = pos 0; line = 0; kind = letter_p; meter = 0 }

pub record SendBack : Type 0 where
  -- a fetch: from any id still held, also one that this display has acknowledged, or the next one
  pub held : answer_to_fetch two node 1 6 ≡ 0
  pub given_up : answer_to_fetch two node 1 5 ≡ 17
  pub zero : answer_to_fetch two node 1 0 ≡ 17
  pub next : answer_to_fetch two node 2 21 ≡ 0
  pub past : answer_to_fetch two node 2 22 ≡ 17
  pub display0 : answer_to_fetch two node 0 6 ≡ 16
  pub display3 : answer_to_fetch two node 3 99 ≡ 16
  -- as many as there are, up to 64
  pub all : fetch_count node 6 ≡ 15
  pub none : fetch_count node 21 ≡ 0
  pub most : fetch_count (node_holding 100 []) 6 ≡ 64
  -- an acknowledgement: not below the display's last, not above the newest
  pub below : answer_to_acknowledgement two node 1 9 ≡ 17
  pub same : answer_to_acknowledgement two node 1 10 ≡ 0
  pub newest : answer_to_acknowledgement two node 1 20 ≡ 0
  pub above : answer_to_acknowledgement two node 1 21 ≡ 17
  pub display2 : answer_to_acknowledgement two node 2 9 ≡ 0
  pub no_display : answer_to_acknowledgement two node 3 20 ≡ 16
  -- what all have acknowledged is given up, and no more
  pub behind : given_up_to (acknowledged_by two node 1 20) ≡ 5
  pub some : given_up_to (acknowledged_by two node 2 7) ≡ 7
  pub other : given_up_to (acknowledged_by two node 2 15) ≡ 10
  pub free : free_places node ≡ 497
  pub full : free_places (node_holding 517 []) ≡ 0
  -- a window with two results: as many places as results are enough, one is not; without a result it needs none
  pub enough : answer_to two (node_holding 515 (meter ∷ meter ∷ [])) step ≡ 0
  pub short : answer_to two (node_holding 516 (meter ∷ meter ∷ [])) step ≡ 15
  pub nothing : answer_to two (node_holding 517 []) step ≡ 0
  -- places
  pub first : place_of 1 ≡ 0
  pub last : place_of 512 ≡ 511
  pub again : place_of 513 ≡ 0
