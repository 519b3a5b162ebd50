-- The six kinds of calls, and the fields that they use (document 01, section 'Clocks, lines and readings').
use Rattle.std.specs.Prelude.{ℕ, Bool, true, false, cond, not, eqb}
use Rattle.journal.specs.Kinds.{letter_s, letter_t, letter_b, letter_u, letter_r}

-- S stable reading, T tentative reading, B boundary, U undo, R corrections done, P step
pub data Kind : Type 0 where
  S T B U R P : Kind

-- the kind with this letter; a call that was read has one of the six
unfoldable pub kind_of : ℕ → Kind
kind_of letter =
    cond (eqb letter letter_s) Kind.S
    (cond (eqb letter letter_t) Kind.T
    (cond (eqb letter letter_b) Kind.B (cond (eqb letter letter_u) Kind.U (cond (eqb letter letter_r) Kind.R Kind.P))))

-- the fields that a kind uses; meter and value go together
pub record Uses : Type 0 where
  pub line : Bool
  pub id : Bool
  pub time : Bool
  pub value : Bool

unfoldable pub uses : Kind → Uses
uses Kind.S = record { line = true; id = true; time = true; value = true }
uses Kind.T = record { line = true; id = true; time = true; value = true }
uses Kind.B = record { line = true; id = false; time = true; value = false }
uses Kind.U = record { line = true; id = true; time = false; value = false }
uses Kind.R = record { line = true; id = false; time = false; value = false }
uses Kind.P = record { line = false; id = false; time = false; value = false }

-- a step is the one kind that names no line
unfoldable pub is_step : Kind → Bool
is_step kind = not (uses kind).line
