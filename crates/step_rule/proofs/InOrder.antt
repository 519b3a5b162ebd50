-- The rule that applies to a node, told by the tests that were made, one after another: a test that was not made does not matter.
use Prim.Native.Nat.{◌≤◌, ◌<◌}
use mathlib.Core.Path.{◌≡◌, sym, ap, ◌∙◌}
use mathlib.Core.Bool.{Bool, true, false, true≢false}
use borrow.Author.Tests.{lt-ltb, le-ltb}
use Rattle.clock.specs.declared.ArrivalTick.{ArrivalTick}
use Rattle.settings.specs.declared.Settings.{Settings}
use Rattle.protocol.specs.declared.Rule.{Rule}
use Rattle.protocol.specs.Node.{Node, is_stable_bucket}
use Rattle.protocol.specs.Rules.{first_rule, is_correcting, some_overdue, rule_of}

module _ (s : Settings) (n : Node) (now : ArrivalTick) {stable : Bool} (told : stable ≡ is_stable_bucket s n.c n.lines) where
  pub withdraws : stable ≡ true → n.c < n.p → Rule.Withdraw ≡ rule_of s n now
  unfolding rule_of first_rule
  withdraws e h = rw (← told, e, lt-ltb n.c n.p h)

  pub works_stable : stable ≡ true → n.p ≤ n.c → Rule.WorkStable ≡ rule_of s n now
  unfolding rule_of first_rule
  works_stable e h = rw (← told, e, le-ltb n.c n.p h)

  module _ (e : stable ≡ false) {correcting : Bool} (told' : correcting ≡ is_correcting n.phase) where
    pub ends_correction : correcting ≡ true → Rule.EndCorrection ≡ rule_of s n now
    unfolding rule_of first_rule
    ends_correction f = rw (← told, e, ← told', f)

    module _ (f : correcting ≡ false) {due : Bool} (told'' : due ≡ some_overdue s n.p now n.lines) where
      pub works_tentative : due ≡ true → Rule.WorkTentative ≡ rule_of s n now
      unfolding rule_of first_rule
      works_tentative g = rw (← told, e, ← told', f, ← told'', g)

      pub idles : due ≡ false → Rule.Idle ≡ rule_of s n now
      unfolding rule_of first_rule
      idles g = rw (← told, e, ← told', f, ← told'', g)

-- whether a rule is rule 2
abbrev pub is_rule2 : Rule → Bool
is_rule2 Rule.Withdraw = false
is_rule2 Rule.WorkStable = true
is_rule2 Rule.EndCorrection = false
is_rule2 Rule.WorkTentative = false
is_rule2 Rule.Idle = false

-- what is promised of rule 2 alone
pub not_rule_2 : (G : Type 0) (r : Rule) → is_rule2 r ≡ false → r ≡ Rule.WorkStable → G
not_rule_2 G r other e = absurd (true≢false (sym (ap is_rule2 e) ∙ other))
