-- How a playback begins: the input's first text opens the network, and what follows it is played if it did.
use Rattle.std.specs.Prelude.{◌≡◌, Bool, true, false, ◌||◌, List, ℕ, eqb, length}
use Rattle.area.specs.Laid.{in_front}
use Rattle.node.specs.Held.{held}
use Rattle.node.specs.View.{Lent}
use Rattle.node.specs.Opening.{closed_state, opened_on}
use Rattle.playback_reply.specs.Reply.{opening_text}
use Rattle.playback_cursor.specs.declared.Cursor.{Cursor}
use Rattle.playback_cursor.specs.Cut.{text_at, all_read, Fetched, Followed}
use Rattle.playback_start.specs.declared.Started.{Started}

-- the cursor, whose text is the last one too if this holds
abbrev pub last_if : Bool → Cursor → Cursor
last_if b c =
    record {
      at = c.at;
      whole = c.whole;
      have = c.have;
      used = c.used;
      plays = c.plays;
      passing = c.passing;
      last = c.last || b;
    }

-- buffer, output and stores at the beginning; what `start` gives; and what it leaves of buffer, output and stores
pub record Begun (buf out : List ℕ) (x : Lent) (r : Started) (after left : List ℕ) (y : Lent) : Type 0 where
  -- the first text is found where nothing was read before; there is always one, as settings that never came are an empty text
  pub first : Cursor
  pub buffered : List ℕ
  pub fetched : Fetched false (all_read 0 false false false) buf first buffered (length out)
  pub plays : first.plays ≡ true
  -- it opens the network, and the answer line stands in the output
  pub state : held r.state ≡ (opened_on closed_state x (text_at buffered first)).state
  pub lent : y ≡ (opened_on closed_state x (text_at buffered first)).lent
  pub answer : left ≡ in_front (opening_text (opened_on closed_state x (text_at buffered first))) out
  -- what follows it is played, unless no network is open
  pub onward : Followed (last_if (eqb r.state.settings.lines 0) first) (length (text_at buffered first))
      (length (opening_text (opened_on closed_state x (text_at buffered first)))) buffered r.cursor after (length out)
