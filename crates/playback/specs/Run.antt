-- An input played to its end: the settings, then text after text while there is one. The state left is one that demand 3 speaks of, behind
-- an opening and a list of calls.
use Rattle.std.specs.Prelude.{◌≡◌, Bool, true, false, List, ◌⊎◌, ℕ, zero, suc, ◌*◌, ◌≤◌, pos, replicate}
use Rattle.settings.specs.Limits.{max_lines}
use Rattle.store.specs.Sizes.{readings_per_line}
use Rattle.store.specs.Columns.{columns_of}
use Rattle.retransmission.specs.Sizes.{held_bytes}
use Rattle.node.specs.declared.State.{State}
use Rattle.node.specs.Held.{Held, held}
use Rattle.node.specs.View.{Lent, lent_of}
use Rattle.node.specs.Opening.{closed_state}
use Rattle.consistency.specs.Runs.{Box, Input, left_after}
use Rattle.consistency.specs.Demand.{Handed, box_of}
use Rattle.playback_dispatch.specs.Dispatch.{dispatched}
use Rattle.playback_cursor.specs.declared.Cursor.{Cursor}
use Rattle.playback_cursor.specs.Cut.{text_at}
use Rattle.playback_start.specs.declared.Started.{Started}
use Rattle.playback_start.specs.Start.{Begun}
use Rattle.playback_turn.specs.Turn.{Turned}

-- ---- turns

-- where a playback stands between two turns: what is kept between calls; area, buffer and output; the cursor
pub record Standing : Type 0 where
  pub box : Box
  pub area : List ℕ
  pub buf : List ℕ
  pub out : List ℕ
  pub cursor : Cursor

abbrev pub standing : Held → Lent → List ℕ → List ℕ → List ℕ → Cursor → Standing
standing st x area buf out c = record { box = record { state = st; lent = x }; area = area; buf = buf; out = out; cursor = c }

-- from one to the next by a turn, whose text is the one at the cursor
abbrev pub Turn : Bool → Bool → Standing → Standing → Type 0
Turn mixed acknowledging s t =
    Turned (dispatched mixed acknowledging s.box.state s.box.lent (text_at s.buf s.cursor) s.area)
    s.cursor s.buf s.out t.box.state t.cursor t.box.lent t.area t.buf t.out

-- so many turns, each with a text to play
pub data Turns (mixed acknowledging : Bool) (s : Standing) : ℕ → Standing → Type 0 where
  none : Turns mixed acknowledging s zero s
  turn :
      {n : ℕ} {t u : Standing} → Turns mixed acknowledging s n t → t.cursor.plays ≡ true → Turn mixed acknowledging t u →
      Turns mixed acknowledging s (suc n) u

-- turns to the end: until there is no text to play, or 2^64 - 2 of them
pub record PlayedOut (mixed acknowledging : Bool) (s : Standing) (st : Held) (x : Lent) (area buf out : List ℕ) : Type 0 where
  pub count : ℕ
  pub cursor : Cursor
  pub turns : Turns mixed acknowledging s count (standing st x area buf out cursor)
  pub over : (cursor.plays ≡ false) ⊎ (18446744073709551614 ≤ count)

-- ---- the whole

-- places of the store of readings, and stores of zeros
abbrev pub most_places : ℕ
most_places = max_lines * readings_per_line

unfoldable pub zeroed_stores : Lent
zeroed_stores =
    let zeros : List ℕ = replicate most_places 0 in
    lent_of (columns_of zeros zeros (replicate most_places (pos 0)) zeros zeros zeros) (replicate held_bytes 0)

-- what the opening is handed: the state before the first one, and the input's first text
unfoldable pub handed_with : List ℕ → Handed
handed_with text = record { state = closed_state; lent = zeroed_stores; text = text }

-- the box of a state and stores
abbrev pub box_on : State → Lent → Box
box_on st x = record { state = held st; lent = x }

-- calls lead from one box to another
pub record Reached (b after : Box) : Type 0 where
  pub inputs : List Input
  pub left : after ≡ left_after b inputs

-- a playback that leaves this state: how it begins, its turns to the end, and that these are calls of demand 3 from the opening on
pub record Finished (mixed acknowledging : Bool) (st : State) : Type 0 where
  -- the settings, on stores of zeros: buffer and output before and behind them, and the stores that the opening leaves
  pub buf : List ℕ
  pub out : List ℕ
  pub started : Started
  pub buffered : List ℕ
  pub answered : List ℕ
  pub opened : Lent
  pub begins : Begun buf out zeroed_stores started buffered answered opened
  -- the lines: the area that is lent, and what the last one leaves
  pub area : List ℕ
  pub after : Lent
  pub bytes : List ℕ
  pub rest : List ℕ
  pub written : List ℕ
  pub plays :
      PlayedOut mixed acknowledging (standing (held started.state) opened area buffered answered started.cursor)
      (held st) after bytes rest written
  pub calls : Reached (box_of (handed_with (text_at begins.buffered begins.first))) (box_on st after)
