-- What is to be cut of some bytes, once more is read behind them and once a line to pass over is over.
use mathlib.Core.Path.{◌≡◌, refl, sym}
use mathlib.Core.Bool.{Bool, true, false, cond, not, ◌&&◌}
use mathlib.Core.List.{List, [], ◌++◌, append-nil, append_assoc}
use Prim.Native.Nat.{ℕ, ◌≤◌}
use native.Mathlib.Omega.{arith}
use lib.ListN.{length}
use Rattle.fields.specs.Line.{holds_line}
use Rattle.store.proofs.Choices.{not_both}
use Rattle.playback_cursor.specs.Cut.{behind_line, past}
use Rattle.playback_cursor.proofs.WholeLines.{behind_whole, behind_part, behind_none, behind_within}

-- no line is whole: bytes read behind it are all that matters of a line to pass over
pub past_read : (p : Bool) (s t more : List ℕ) → holds_line s ≡ false → past p (s ++ (t ++ more)) ≡ past p ((cond p [] s ++ t) ++ more)
unfolding past
past_read true s t more h = behind_part s (t ++ more) h
past_read false s t more h = sym (append_assoc s t more)

-- the line to pass over is whole
pub past_over : (s more : List ℕ) → holds_line s ≡ true → past true (s ++ more) ≡ past false (behind_line s ++ more)
unfolding past
past_over s more h = behind_whole s more h

-- no line is whole, and nothing is read behind it
pub past_end : (p : Bool) (s : List ℕ) → holds_line s ≡ false → past p (s ++ []) ≡ cond p [] s
unfolding past
past_end true s h = rw (append-nil s) (behind_none s h)
past_end false s h = append-nil s

pub past_part : (p : Bool) (s : List ℕ) → holds_line s ≡ false → holds_line (past p (s ++ [])) ≡ false
unfolding past holds_line
past_part true s h = rw (append-nil s, behind_none s h)
past_part false s h = rw (append-nil s) h

pub past_within : (p : Bool) (s : List ℕ) → length (past p s) ≤ length s
unfolding past
past_within true s = behind_within s
past_within false s = omega arith

-- what plays passes nothing over
pub plays_unpassing : (p t : Bool) → not p && t ≡ true → p ≡ false
plays_unpassing true t e = not_both e refl
plays_unpassing false t e = refl
