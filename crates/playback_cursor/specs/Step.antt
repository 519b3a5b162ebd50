-- One step of the search for the next text: what the private functions of the search say.
use Rattle.std.specs.Prelude.{ℕ, ◌+◌, ◌-◌, ◌≤◌, ◌<◌, ◌≡◌, Bool, true, false, cond, ◌||◌, List, [], ◌++◌, ◌⊎◌, length}
use Rattle.fields.specs.Line.{holds_line}
use Rattle.fields.specs.Field.{ends_line}
use Rattle.playback_reply.specs.Reply.{longest_reply}
use Rattle.playback_cursor.specs.declared.Cursor.{Cursor}
use Rattle.playback_cursor.specs.Cut.{part, ahead, Ready, Fetched}

-- how many bytes are left in an output of `size` bytes, of which some are used, so that a reply has room: all is written out, but only
-- where it must
pub record Roomy (used size left : ℕ) : Type 0 where
  pub fits : left + longest_reply ≤ size
  pub written : (left ≡ 0) ⊎ (left ≡ used)
  pub unwritten : used + longest_reply ≤ size → left ≡ used

-- the place behind the last 0A of the first n bytes, or 0
pub record LinesEnd (s : List ℕ) (n r : ℕ) : Type 0 where
  pub within : r ≤ n
  pub ends : 0 < r → ends_line s (r - 1) ≡ true
  pub none : holds_line (part s r n) ≡ false

-- no text yet: nothing of what is to be cut is lost
pub record Further (c : Cursor) (buf : List ℕ) (r : Cursor) (after : List ℕ) (room : ℕ) : Type 0 where
  pub ready : Ready after room r
  pub fresh : List ℕ
  pub kept : (more : List ℕ) → ahead buf c (fresh ++ more) ≡ ahead after r more
  pub stays : r.passing ≡ true → c.passing ≡ true
  pub written : (r.used ≡ 0) ⊎ ((r.used ≡ c.used) × (after ≡ buf) × (fresh ≡ []))
  pub held : holds_line (ahead buf c []) ≡ true
      → (after ≡ buf) × (fresh ≡ []) × (c.used + longest_reply ≤ room → r.used ≡ c.used)

-- a step comes to a text or to an end; or it brings a byte, or the end of a line to pass over
pub record Advanced (opened : Bool) (c : Cursor) (buf : List ℕ) (r : Cursor) (after : List ℕ) (room : ℕ) : Type 0 where
  pub found : (r.plays || r.last) ≡ true → Fetched opened c buf r after room
  pub further : (r.plays || r.last) ≡ false
      → (f : Further c buf r after room) × (cond r.passing 1 0 < length f.fresh + cond c.passing 1 0)
