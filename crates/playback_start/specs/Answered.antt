-- The settings played: what the opening leaves is handed on, and the answer line stands in front of the output.
use Rattle.std.specs.Prelude.{ℕ, ◌≡◌, List, length}
use Rattle.area.specs.Laid.{in_front}
use Rattle.node.specs.Held.{Held}
use Rattle.node.specs.View.{Lent}
use Rattle.node.specs.Opening.{Opened}
use Rattle.playback_reply.specs.Reply.{opening_text}

-- the opening, the output before it, and what is left: what is held, the stores, how many bytes are used, the output
pub record Answered (q : Opened) (out : List ℕ) (st : Held) (x : Lent) (used : ℕ) (out' : List ℕ) : Type 0 where
  pub state : st ≡ q.state
  pub lent : x ≡ q.lent
  pub used_bytes : used ≡ length (opening_text q)
  pub text : out' ≡ in_front (opening_text q) out
