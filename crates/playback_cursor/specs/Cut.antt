-- The input cut into lines, as they are played: each line is one text; of a line longer than the buffer the text is what the buffer holds;
-- the last line needs no 0A. No contract says what a read brings or whether a write is taken: here `fresh` is what the reads of a call
-- brought, and a failed write is one of the ways to end.
use Rattle.std.specs.Prelude.{ℕ, ◌+◌, ◌-◌, ◌≤◌, ◌<◌, ◌≡◌, Bool, true, false, cond, ◌||◌, List, [], ◌++◌, ◌⊎◌, length, take, drop}
use Rattle.fields.specs.Line.{next_line, holds_line}
use Rattle.fields.specs.Field.{ends_line}
use Rattle.playback_reply.specs.Reply.{longest_reply}
use Rattle.playback_cursor.specs.declared.Cursor.{Cursor}

-- what follows a text's first line
unfoldable pub behind_line : List ℕ → List ℕ
behind_line s = drop (length (next_line s)) s

-- what is to be cut of these bytes: while a line that filled the buffer is not over, what follows that line
unfoldable pub past : Bool → List ℕ → List ℕ
past passing s = cond passing (behind_line s) s

-- the bytes between two places
abbrev pub part : List ℕ → ℕ → ℕ → List ℕ
part l from to = take (to - from) (drop from l)

-- what is unread, and the text at the cursor: the next line of what stands before `whole`
abbrev pub unread : List ℕ → Cursor → List ℕ
unread buf c = part buf c.at c.have

abbrev pub text_at : List ℕ → Cursor → List ℕ
text_at buf c = next_line (part buf c.at c.whole)

-- what is still to be cut, where the input goes on with `more`
abbrev pub ahead : List ℕ → Cursor → List ℕ → List ℕ
ahead buf c more = past c.passing (unread buf c ++ more)

-- the cursor behind a text of n bytes, once its reply of m bytes stands in the output
abbrev pub replied : Cursor → ℕ → ℕ → Cursor
replied c n m =
    record {
      at = c.at + n;
      whole = c.whole;
      have = c.have;
      used = c.used + m;
      plays = c.plays;
      passing = c.passing;
      last = c.last;
    }

-- the cursor behind its text
abbrev pub behind : List ℕ → Cursor → Cursor
behind buf c = replied c (length (text_at buf c)) 0

-- a cursor stands in the buffer: what is unread lies within it, up to `whole` there are whole lines, and behind it no 0A
abbrev pub Stands : List ℕ → Cursor → Type 0
Stands buf c =
    (c.at ≤ c.whole) × (c.whole ≤ c.have) × (c.have ≤ length buf) ×
    (c.at < c.whole → ends_line buf (c.whole - 1) ≡ true) × (holds_line (part buf c.whole c.have) ≡ false)

-- a cursor from which to go on: it stands in the buffer, and what is used lies within the output, where a reply has room
abbrev pub Ready : List ℕ → ℕ → Cursor → Type 0
Ready buf room c = Stands buf c × (c.used ≤ room) × (longest_reply ≤ room)

-- a cursor at a text: behind it, it stands in the buffer, and the reply has room in the output
abbrev pub Lies : List ℕ → ℕ → Cursor → Type 0
Lies buf room c = Stands buf (behind buf c) × (c.used + longest_reply ≤ room)

-- the cursor where all that was read is one text and all output is written
abbrev pub all_read : ℕ → Bool → Bool → Bool → Cursor
all_read end plays passing last =
    record { at = 0; whole = end; have = end; used = 0; plays = plays; passing = passing; last = last }

-- ---- the next text

-- why none is played: nothing is left of the input (but settings that never came are played, as an empty text); a write failed, for which
-- there was something to write; or a line that filled the buffer was not over after 2^64 - 2 bytes more
pub data Unplayed (opened : Bool) (c : Cursor) (buf fresh : List ℕ) : Type 0 where
  over : ahead buf c fresh ≡ [] → (opened || c.passing) ≡ true → Unplayed opened c buf fresh
  failed : 0 < c.used → Unplayed opened c buf fresh
  endless : c.passing ≡ true → 18446744073709551614 ≤ length fresh → Unplayed opened c buf fresh

-- from a cursor on a buffer to the next text, which is at r on the buffer `after`; `room` is the length of the output
pub record Fetched (opened : Bool) (c : Cursor) (buf : List ℕ) (r : Cursor) (after : List ℕ) (room : ℕ) : Type 0 where
  pub lies : Lies after room r
  pub fresh : List ℕ
  -- whatever the input goes on with (nothing, behind the last text): the text is the next line, as much of it as the buffer holds, and what
  -- is then still to be cut is all that follows that line
  pub played : r.plays ≡ true → (more : List ℕ) → (r.last ≡ true → more ≡ [])
      → (text_at after r ≡ take (length buf) (next_line (ahead buf c (fresh ++ more))))
      × (ahead after (behind after r) more ≡ behind_line (ahead buf c (fresh ++ more)))
  -- only a text without 0A can be the last
  pub ended : r.plays ≡ true → r.last ≡ true → holds_line (ahead buf c fresh) ≡ false
  pub unplayed : r.plays ≡ false → (r.last ≡ true) × Unplayed opened c buf fresh
  -- the output is written as a whole or not at all; without a write nothing is read
  pub written : (r.used ≡ 0) ⊎ ((r.used ≡ c.used) × (after ≡ buf) × (fresh ≡ []))
  -- a line that the buffer holds is the next text without a read, and without a write where its reply has room
  pub held : holds_line (ahead buf c []) ≡ true
      → (after ≡ buf) × (fresh ≡ []) × (c.used + longest_reply ≤ room → (r.plays ≡ true) × (r.used ≡ c.used))

-- on from a text of n bytes that was played, whose reply has m bytes: to the next text, but behind the last to none
pub record Followed (c : Cursor) (n m : ℕ) (buf : List ℕ) (r : Cursor) (after : List ℕ) (room : ℕ) : Type 0 where
  pub lies : Lies after room r
  pub next : c.last ≡ false → Fetched true (replied c n m) buf r after room
  pub none : c.last ≡ true → (r.plays ≡ false) × (after ≡ buf)
