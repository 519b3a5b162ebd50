-- A line's overdue readings, by two columns alone: the test over the shares of times and arrivals is the test over the line's kept
-- readings, which are the first rows of its share.
use Prim.Native.Nat.{ℕ, ◌+◌, ◌-◌, ◌*◌, ◌≤◌, ◌<◌}
use mathlib.Core.Path.{◌≡◌, refl, sym, ap, ap₂, ◌∙◌}
use mathlib.Core.Bool.{Bool, true, false, ◌||◌}
use mathlib.Core.List.{List}
use native.Mathlib.Omega.{arith}
use lib.ListN.{get_or, take, drop}
use Rattle.clock.specs.declared.ArrivalTick.{ArrivalTick}
use Rattle.settings.specs.declared.Settings.{Settings}
use Rattle.store.specs.Sizes.{readings_per_line}
use Rattle.store.specs.Lists.{some_of}
use Rattle.store.specs.Columns.{Columns, store_length, rows}
use Rattle.store.specs.Parts.{share}
use Rattle.store_columns.specs.Tests.{some_of_both, is_late_due}
use Rattle.store_columns.proofs.Kept.{some_late_due}
use Rattle.protocol.specs.Node.{Line, no_line}
use Rattle.protocol.specs.Rules.{is_overdue}
use Rattle.node.specs.declared.LineHead.{LineHead}
use Rattle.node.specs.View.{head_of}
use Rattle.node.proofs.Shares.{SmallHead}
use Rattle.node.proofs.Lines.{line_rows}
use Rattle.node.proofs.EachLine.{line_at}

-- whether a line keeps an overdue reading
abbrev pub keeps_overdue : Settings → ℕ → ArrivalTick → Line → Bool
keeps_overdue s p tick l = some_of (is_overdue s p tick) l.kept

-- what holds where either test was met
pub either_starts : {P : Type 0} (found late : Bool) → (found ≡ true → P) → (late ≡ true → P) → (found || late) ≡ true → P
either_starts true late h g e = h refl
either_starts false late h g e = g e

-- a part of a column, from one place to another, is a share
pub part_share : (from n : ℕ) (xs : List ℕ) → take (from + n - from) (drop from xs) ≡ share from n xs
unfolding share
part_share from n xs = let e : from + n - from ≡ n = omega arith in rw e refl

module _ (s : Settings) (p : ℕ) (tick : ArrivalTick) (x : Columns) (hs : List LineHead) (i : ℕ) where
  -- how many readings line i keeps
  abbrev kept_at : ℕ
  kept_at = (get_or hs i (head_of no_line)).kept

  pub line_overdue : (times arrivals : List ℕ) → i < s.lines → SmallHead (get_or hs i (head_of no_line))
      → s.lines * readings_per_line ≤ store_length x → x.times ≡ times → x.arrivals ≡ arrivals → (found : Bool)
      → found ≡
      some_of_both (is_late_due s.bucket p s.hold tick) (share (i * readings_per_line) kept_at times)
      (share (i * readings_per_line) kept_at arrivals)
      → found ≡ keeps_overdue s p tick (line_at hs (rows x (s.lines * readings_per_line)) i)
  unfolding is_overdue
  line_overdue times arrivals below small room told told' found e =
      let base : ℕ = i * readings_per_line in
      e
      ∙ ap₂ (λ (ts rs : List ℕ). some_of_both (is_late_due s.bucket p s.hold tick) (share base kept_at ts) (share base kept_at rs))
      (sym told) (sym told')
      ∙ some_late_due x base kept_at (omega arith) s.bucket p s.hold tick
      ∙ ap (some_of (is_overdue s p tick)) (sym (line_rows x (s.lines * readings_per_line) i (get_or hs i (head_of no_line)) small (omega arith)))
