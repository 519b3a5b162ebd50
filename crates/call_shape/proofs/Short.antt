-- A store is short where one of its columns is: a smallest number is below a limit where one of the numbers is. By cases on the tests.
use Prim.Native.Nat.{ℕ, ◌*◌, min}
use mathlib.Core.Path.{◌≡◌, refl}
use mathlib.Core.Bool.{Bool, true, false, ◌||◌}
use native.Mathlib.Omega.{arith}
use borrow.Author.Tests.{lt-ltb, le-ltb, ltb-true, ltb-false}
use lib.Dec.{ltb}
use lib.ListN.{length}
use Rattle.store.specs.Sizes.{readings_per_line}
use Rattle.store.specs.Columns.{Columns, store_length}
use Rattle.node.specs.Opening.{shares_short}

min_below : (a b n : ℕ) → ltb (min a b) n ≡ ltb a n || ltb b n
min_below a b n =
    (elim (ltb a n) as (λ p. ltb a n ≡ p → ltb (min a b) n ≡ p || ltb b n) [
      | true ↦ λ e. lt-ltb (min a b) n (omega (arith, ltb-true a n e))
      | false ↦ λ e.
          (elim (ltb b n) as (λ q. ltb b n ≡ q → ltb (min a b) n ≡ q) [
            | true ↦ λ f. lt-ltb (min a b) n (omega (arith, ltb-true b n f))
            | false ↦ λ f. le-ltb (min a b) n (omega (arith, ltb-false a n e, ltb-false b n f))
          ])
          refl
    ])
    refl

-- a column of so few places has no room for the shares
abbrev lacks : ℕ → ℕ → Bool
lacks lines places = ltb places (lines * readings_per_line)

pub some_column_short :
    (lines : ℕ) (x : Columns) →
    shares_short lines x ≡
    lacks lines (length x.ids) ||
    (lacks lines (length x.times) ||
    (lacks lines (length x.values) ||
    (lacks lines (length x.arrivals) || (lacks lines (length x.kinds) || lacks lines (length x.meters)))))
unfolding shares_short store_length
some_column_short lines x = simp min_below
