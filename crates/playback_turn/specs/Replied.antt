-- A text played: what its call leaves is handed on, and the reply stands in front of the output.
use Rattle.std.specs.Prelude.{ℕ, ◌≡◌, List, length}
use Rattle.area.specs.Laid.{in_front}
use Rattle.node.specs.Held.{Held}
use Rattle.node.specs.View.{Lent}
use Rattle.node.specs.Calls.{Called}
use Rattle.playback_reply.specs.Reply.{reply_text}

-- the call, the output before it, and what is left: what is held, stores and area, how many bytes are used, the output
pub record Replied (q : Called) (out : List ℕ) (st : Held) (x : Lent) (bytes : List ℕ) (used : ℕ) (out' : List ℕ) : Type 0 where
  pub state : st ≡ q.state
  pub lent : x ≡ q.lent
  pub area : bytes ≡ q.area
  pub used_bytes : used ≡ length (reply_text q)
  pub text : out' ≡ in_front (reply_text q) out
