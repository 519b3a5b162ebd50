-- One more turn, and the end of a playback.
use Prim.Native.Nat.{ℕ, ◌+◌, ◌≤◌}
use mathlib.Core.Path.{◌≡◌, sym, subst}
use mathlib.Core.Bool.{Bool, true, false}
use mathlib.Core.Logic.{inl, inr}
use mathlib.Core.List.{List}
use native.Mathlib.Numerals.{add-one}
use Rattle.node.specs.Held.{Held}
use Rattle.node.specs.View.{Lent}
use Rattle.playback_cursor.specs.declared.Cursor.{Cursor}
use Rattle.playback.specs.Run.{Standing, standing, Turn, Turns, PlayedOut}

module _ {mixed acknowledging : Bool} {s : Standing} where
  pub one_more :
      {n : ℕ} {t : Standing} (u : Standing) → Turns mixed acknowledging s n t → t.cursor.plays ≡ true → Turn mixed acknowledging t u →
      Turns mixed acknowledging s (n + 1) u
  one_more {n} u made plays e = subst (λ (k : ℕ). Turns mixed acknowledging s k u) (sym (add-one n)) (Turns.turn made plays e)

  module _ {n : ℕ} {st : Held} {x : Lent} {area buf out : List ℕ} {c : Cursor}
      (made : Turns mixed acknowledging s n (standing st x area buf out c)) where
    -- there is no text to play
    pub no_text : c.plays ≡ false → PlayedOut mixed acknowledging s st x area buf out
    no_text none = record { count = n; cursor = c; turns = made; over = inl none }

    -- as many turns as the loop makes
    pub no_turn : 18446744073709551614 ≤ n → PlayedOut mixed acknowledging s st x area buf out
    no_turn many = record { count = n; cursor = c; turns = made; over = inr many }
