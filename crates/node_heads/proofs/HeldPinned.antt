-- What is held fixes the whole state, whose arrays have the lengths of their types. The two operators by the law on their columns,
-- everything else field by field.
use mathlib.Core.Path.{◌≡◌, ap}
use mathlib.Core.HLevel.{is_prop→PathP}
use native.Mathlib.Nat.{ℕ_set}
use lib.ListN.{length}
use Rattle.settings.specs.Limits.{max_lines, max_displays}
use Rattle.operator.proofs.Loaded.{Long}
use Rattle.operator.proofs.Pinned.{pinned}
use Rattle.node.specs.declared.State.{State}
use Rattle.node.specs.Held.{Held, held}

-- a state whose operators' columns have the lengths of their types, as its heads and its displays' last ids have by its own fields
pub record Whole (s : State) : Type 0 where
  pub operator : Long s.operator
  pub checkpoint : Long s.checkpoint

module _ (s t : State) (a : Whole s) (b : Whole t) (same : held s ≡ held t) where
  pub held_pinned : s ≡ t
  held_pinned =
      let operator = pinned s.operator t.operator a.operator b.operator (ap (λ (h : Held). h.operator) same) in
      let checkpoint = pinned s.checkpoint t.checkpoint a.checkpoint b.checkpoint (ap (λ (h : Held). h.checkpoint) same) in
      let heads = ap (λ (h : Held). h.heads) same in
      let acknowledged = ap (λ (h : Held). h.acknowledged) same in
      λ i. record {
        settings = ap (λ (h : Held). h.settings) same i;
        clock = ap (λ (h : Held). h.clock) same i;
        c = ap (λ (h : Held). h.c) same i;
        p = ap (λ (h : Held). h.p) same i;
        phase = ap (λ (h : Held). h.phase) same i;
        heads = heads i;
        acknowledged = acknowledged i;
        operator = operator i;
        checkpoint = checkpoint i;
        all_heads = is_prop→PathP (λ j. length (heads j) ≡ max_lines) (λ j. ℕ_set (length (heads j)) max_lines) s.all_heads t.all_heads i;
        all_displays =
            is_prop→PathP (λ j. length (acknowledged j) ≡ max_displays) (λ j. ℕ_set (length (acknowledged j)) max_displays)
            s.all_displays t.all_displays i;
      }
