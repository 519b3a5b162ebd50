-- Document 02, W11: the theorem. The node balances by any measure of readings, so by heat; carried to bytes, states and stores.
use Prim.Native.Nat.{ℕ, ◌<◌}
use mathlib.Core.Path.{◌≡◌, sym, ◌∙◌, ap, ap₂}
use mathlib.Core.Bool.{not}
use mathlib.Core.Logic.{◌⊎◌, inl, inr}
use mathlib.Core.List.{List, [], ◌∷◌, flatten}
use lib.Dec.{eqb}
use Rattle.settings.specs.declared.Settings.{Settings}
use Rattle.journal.specs.Kinds.{letter_s, letter_t}
use Rattle.store.specs.declared.Reading.{Reading}
use Rattle.store.specs.Lists.{keep, Every}
use Rattle.store.proofs.Pairs.{every_to, every_append}
use Rattle.store.proofs.Keeping.{keep_same}
use Rattle.operator.specs.Meters.{meter_count}
use Rattle.operator.proofs.Adding.{meter_of}
use Rattle.operator.proofs.Measures.{brought}
use Rattle.protocol.specs.Node.{Node, Line, kept_of}
use Rattle.protocol.specs.Runs.{Trace, start}
use Rattle.protocol.proofs.Lines.{is_tentative_reading, is_stable_reading}
use Rattle.protocol.proofs.Opening.{invariant}
use Rattle.protocol.proofs.Balance.{balanced as node-balanced}
use Rattle.node.specs.View.{view}
use Rattle.consistency.specs.Runs.{Box, Input, left_after}
use Rattle.consistency.specs.Accounts.{Account}
use Rattle.consistency.specs.Demand.{Handed, is_opened, box_of, settings_in, account_of}
use Rattle.consistency.specs.Balance.{plus, sent_heat, paid_heat, open_heat, kept_stables, kept_heat, Balance}
use Rattle.consistency.proofs.Heats.{heat_monoid, heat_measure, readings_heat, paid_reported}
use Rattle.consistency.proofs.ShapedLines.{LineShaped}
use Rattle.consistency.proofs.ShapedRuns.{kept_shaped}
use Rattle.consistency.proofs.Runs.{Stands, account_in, events_of, runs}
use Rattle.consistency.proofs.Opened.{box_stands, some_bucket, some_lines_lem, trace_of, mirrors}

-- ---- a box for a node

-- what a line in shape keeps is stable or tentative, so that the letter S is that of the stable ones
kept_letters :
    (ls : List Line) → Every LineShaped ls →
    Every (λ (r : Reading). eqb r.kind letter_s ≡ is_stable_reading r) (flatten (kept_of ls))
unfolding flatten kept_of is_stable_reading is_tentative_reading
kept_letters [] h = tt
kept_letters (l ∷ ls) h =
    every_append _ l.kept (flatten (kept_of ls)) (every_to l.kept (λ r q. by_letter r.kind q.kind) h.0.readings)
    (kept_letters ls h.1)
  where
    by_letter : (n : ℕ) → (n ≡ letter_s) ⊎ (n ≡ letter_t) → eqb n letter_s ≡ not (eqb n letter_t)
    by_letter n (inl e) = rw e
    by_letter n (inr e) = rw e

module _ (h : Handed) (e : is_opened h) (is : List Input) (i : ℕ) where
  abbrev s : Settings
  s = settings_in h

  abbrev t : Trace
  t = trace_of s h is

  abbrev b : Box
  b = left_after (box_of h) is

  stands : Stands s b.state b.lent t.node
  unfolding start
  stands = (runs s is (start s) (box_of h) (box_stands h e)).stands

  sent : sent_heat h is i ≡ brought heat_measure s i (flatten t.stables)
  unfolding sent_heat account_in
  sent =
      readings_heat s i (flatten (account_of h is).stables) ∙
      ap (λ (a : Account). brought heat_measure s i (flatten a.stables)) (mirrors h e is).account

  open_window : open_heat b i ≡ heat_measure.of_meter (meter_of t.node.checkpoint i)
  unfolding open_heat view meter_of heat_measure
  open_window = ap (λ (n : Node). heat_measure.of_meter (meter_of n.checkpoint i)) stands.is

  kept : kept_heat s b i ≡ brought heat_measure s i (keep is_stable_reading (flatten (kept_of t.node.lines)))
  unfolding kept_heat kept_stables
  kept =
      let ls : List Line = (view b.state b.lent.readings).lines in
      readings_heat s i _ ∙
      ap (brought heat_measure s i)
      (keep_same _ is_stable_reading (flatten (kept_of ls)) (kept_letters ls (kept_shaped h e is)) ∙
      ap (λ (n : Node). keep is_stable_reading (flatten (kept_of n.lines))) stands.is)

  balanced : i < meter_count → sent_heat h is i ≡ plus (paid_heat h is i) (plus (open_heat b i) (kept_heat s b i))
  unfolding heat_measure heat_monoid
  balanced inside =
      sent ∙ node-balanced heat_measure s i inside t (invariant s (some_bucket h e) (some_lines_lem h e) (events_of (box_of h) is)) ∙
      sym (ap₂ plus (paid_reported h e is i) (ap₂ plus open_window kept))

pub balance : Balance
balance = balanced
