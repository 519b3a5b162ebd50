-- The opening (document 01, sections 'Buckets and the operator' and 'Refusal by whom').
use Rattle.std.specs.Prelude.{ℕ, ◌*◌, ◌≡◌, Bool, cond, ◌||◌, List, ltb, pos, length, replicate, Result, Ok, Err}
use Rattle.answer.specs.declared.Refusal.{Refusal}
use Rattle.answer.specs.Numbers as Answer
use Rattle.settings.specs.declared.Settings.{Settings}
use Rattle.settings.specs.Limits.{max_lines, max_displays}
use Rattle.settings.specs.SettingsLine.{settings_answer}
use Rattle.settings.specs.ReadLine.{settings_of}
use Rattle.protocol.specs.Node.{Node, opened, no_line}
use Rattle.store.specs.Sizes.{readings_per_line}
use Rattle.store.specs.Columns.{with_rows, store_length, Columns, zeroed}
use Rattle.retransmission.specs.Sizes.{held_results, held_bytes}
use Rattle.retransmission.specs.Places.{empty_place, with_places}
use Rattle.node.specs.View.{Lent, head_of}
use Rattle.node.specs.Held.{Held}

-- what an opening answers and leaves
pub record Opened : Type 0 where
  pub answer : ℕ
  pub state : Held
  pub lent : Lent

-- some column has no room for all shares
unfoldable pub shares_short : ℕ → Columns → Bool
shares_short lines x = ltb (store_length x) (lines * readings_per_line)

-- 3: either store
unfoldable pub is_short : ℕ → Lent → Bool
is_short lines x = shares_short lines x.readings || ltb (length x.sent) held_bytes

-- a fresh state: every line's head 0, also past `lines`, and every display's last id, also past `displays`
unfoldable pub fresh_state : Settings → Held
fresh_state s =
    let n : Node = opened s in
    record {
      operator = n.operator;
      checkpoint = n.checkpoint;
      heads = replicate max_lines (head_of no_line);
      settings = s;
      clock = n.clock;
      c = n.c;
      p = n.p;
      phase = n.phase;
      acknowledged = replicate max_displays 0;
    }

-- the state before the first opening: no lines
unfoldable pub closed_state : Held
closed_state = fresh_state (record { lines = 0; bucket = 0; window = 0; hold = 0; low = pos 0; high = pos 0; displays = 0 })

-- a refused opening hands back what it was given
unfoldable pub opened_with : Held → Lent → Result Settings Refusal → Opened
opened_with st x (Ok s) =
    cond (is_short s.lines x) (record { answer = Answer.short_store; state = st; lent = x })
    (record {
      answer = 0;
      state = fresh_state s;
      lent =
          record {
            readings = with_rows x.readings (replicate (s.lines * readings_per_line) zeroed);
            sent = with_places x.sent (replicate held_results empty_place);
          };
    })
opened_with st x (Err refusal) = record { answer = settings_answer (Err refusal); state = st; lent = x }

unfoldable pub opened_on : Held → Lent → List ℕ → Opened
opened_on st x text = opened_with st x (settings_of text)
