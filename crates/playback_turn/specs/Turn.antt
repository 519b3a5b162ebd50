-- One turn of a playback: the text at the cursor makes its call, the reply is laid behind what the output holds, and the cursor goes on.
use Rattle.std.specs.Prelude.{◌≡◌, List, ◌++◌, ℕ, ◌+◌, length, take, drop}
use Rattle.node.specs.Held.{Held}
use Rattle.node.specs.View.{Lent}
use Rattle.node.specs.Calls.{Called}
use Rattle.playback_reply.specs.Reply.{reply_text}
use Rattle.playback_cursor.specs.declared.Cursor.{Cursor}
use Rattle.playback_cursor.specs.Cut.{text_at, Followed}

-- the call; cursor, buffer and output before it; what is held and the cursor after it; what it leaves of stores, area, buffer and output
pub record Turned (q : Called) (c : Cursor) (buf out : List ℕ) (st : Held) (next : Cursor) (x : Lent) (bytes after left : List ℕ)
    : Type 0 where
  pub state : st ≡ q.state
  pub lent : x ≡ q.lent
  pub area : bytes ≡ q.area
  pub reply : left ≡ take c.used out ++ reply_text q ++ drop (c.used + length (reply_text q)) out
  pub onward : Followed c (length (text_at buf c)) (length (reply_text q)) buf next after (length out)
