-- What finding the rule asks for, from a store in shape of which four columns are lent.
use Prim.Native.Nat.{ℕ, ◌*◌, ◌≤◌}
use mathlib.Core.Path.{◌≡◌, subst}
use mathlib.Core.Bool.{true}
use mathlib.Core.List.{List}
use lib.ListN.{length, take}
use Rattle.settings.specs.Limits.{within_limits}
use Rattle.store.specs.declared.Store.{Store}
use Rattle.store.specs.Sizes.{readings_per_line}
use Rattle.store.specs.Lists.{all_of}
use Rattle.node.specs.Held.{Held}
use Rattle.node.specs.Shape.{head_ok}
use Rattle.step_rule.proofs.Asked.{asked}
use Rattle.call_decision.specs.Stores.{SomeStep}

pub record RuleReady (h : Held) (readings : Store) : Type 0 where
  pub limits : within_limits h.settings ≡ true
  pub of_times : h.settings.lines * readings_per_line ≤ length readings.times.now
  pub of_arrivals : h.settings.lines * readings_per_line ≤ length readings.arrivals.now
  pub heads : all_of head_ok (take h.settings.lines h.heads) ≡ true

pub rule_ready : (h : Held) (readings : Store) → SomeStep h readings → RuleReady h readings
rule_ready h readings some =
    let is : _ = some.is.work in
    let parts : _ = asked h some.store is.room is.shape in
    record {
      limits = parts.0;
      of_times = subst (λ (ns : List ℕ). h.settings.lines * readings_per_line ≤ length ns) is.of_times parts.1;
      of_arrivals = subst (λ (ns : List ℕ). h.settings.lines * readings_per_line ≤ length ns) some.is.of_arrivals parts.2;
      heads = parts.3;
    }
