-- Before the first opening every call is refused: a state of no lines asks for no places of readings, and 0 is outside the limits of
-- `lines`. So the answer is 4, or 3 where the send-back store is short.
use Prim.Native.Nat.{ℕ, ◌*◌}
use mathlib.Core.Path.{◌≡◌, refl, ap}
use mathlib.Core.Bool.{Bool, true, false, cond}
use mathlib.Core.List.{List}
use native.Mathlib.Omega.{arith}
use borrow.Author.Tests.{le-ltb}
use lib.Dec.{leb, ltb, eqb}
use lib.ListN.{length}
use Rattle.settings.specs.declared.Settings.{Settings}
use Rattle.settings.specs.Limits.{within_limits}
use Rattle.store.specs.Sizes.{readings_per_line}
use Rattle.store.specs.Columns.{store_length}
use Rattle.retransmission.specs.Sizes.{held_bytes}
use Rattle.protocol.specs.Refusals.{first_failed}
use Rattle.node.specs.Held.{Held}
use Rattle.node.specs.View.{Lent}
use Rattle.node.specs.Shape.{state_in_shape, in_shape}
use Rattle.node.specs.Opening.{shares_short, is_short}
use Rattle.node.specs.Calls.{host_tests, refused_with, called_on}

outside : (s : Settings) → s.lines ≡ 0 → within_limits s ≡ false
unfolding within_limits
outside s closed = let none : leb 1 s.lines ≡ false = ap (leb 1) closed in rw none

some_answer : (b : Bool) → eqb (cond b 3 4) 0 ≡ false
some_answer true = refl
some_answer false = refl

module _ (st : Held) (closed : st.settings.lines ≡ 0) (x : Lent) (area : List ℕ) where
  not_in_shape : in_shape st x ≡ false
  unfolding in_shape state_in_shape
  not_in_shape = rw (outside st.settings closed)

  host_refused : first_failed (host_tests st x area) ≡ cond (ltb (length x.sent) held_bytes) 3 4
  unfolding host_tests first_failed shares_short is_short
  host_refused =
      rw (not_in_shape, le-ltb (store_length x.readings) (st.settings.lines * readings_per_line) (omega (arith, closed)))

  -- whatever stores, text and area come: nothing is changed, and no record is given
  pub closed_refused :
      (text : List ℕ) → called_on st x text area ≡ refused_with (cond (ltb (length x.sent) held_bytes) 3 4) st x area
  unfolding called_on
  closed_refused text = rw (host_refused, some_answer (ltb (length x.sent) held_bytes))
