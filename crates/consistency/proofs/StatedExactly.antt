-- The plain table of specs/PlainExactly.antt gives the statement of document 02's W4. Uses the two texts and no proof of either.
use Prim.Native.Nat.{ℕ, ◌≤◌}
use mathlib.Core.Path.{◌≡◌, sym, ◌∙◌, ap, subst}
use mathlib.Core.Bool.{false}
use mathlib.Core.Logic.Iff
use mathlib.Core.Logic.{◌↔◌}
use mathlib.Core.List.{List, ◌++◌}
use lib.ListN.{length}
use Rattle.protocol.specs.Rules.{is_correcting}
use Rattle.consistency.specs.Runs.{Box, Input, left_after}
use Rattle.consistency.specs.Demand.{Handed, opening, is_opened, box_of, remaining, Steps}
use Rattle.consistency.specs.Plain.{settings_on, run_of, left_on}
use Rattle.consistency.specs.Exactly.{left_in, steps_from, Exactly}
use Rattle.consistency.specs.PlainExactly.{left_by, PlainExactly}
use Rattle.consistency.proofs.Plain.{box_on, opened_left, opened_remaining}
use Rattle.consistency.proofs.Stated.{steps_count}
use Rattle.consistency.proofs.PlainExactly.{both, left_by_lem, state_after_lem, OpenedExactly}
use Rattle.consistency.proofs.PlainCount.{same_count}

from_any_box_lem :
    PlainExactly → (b : Box) → length b.state.heads ≡ 8 → (js : List Input) (n : ℕ) → Steps b n js →
    ((left_in (left_after b js) ≡ 0) × (is_correcting (left_after b js).state.phase ≡ false)) ↔ (steps_from b.state (left_in b) ≤ n)
from_any_box_lem p b heads js n steps =
    let count = steps_count steps in
    let exact =
    both _ _ _ _ (p.too_few_anywhere b.state b.lent heads js count.0)
    (p.enough_anywhere b.state b.lent heads js count.0) in
    rw (left_by_lem (left_after b js), state_after_lem b js, left_by_lem b)
    (Iff.trans (rw count.1 at exact) (Iff.symm (same_count steps (left_by b.state))))

from_opening :
    PlainExactly → (h : Handed) → is_opened h → (is js : List Input) (n : ℕ) → Steps (left_after (box_of h) is) n js →
    ((remaining h (is ++ js) ≡ 0) × (is_correcting (left_after (box_of h) (is ++ js)).state.phase ≡ false)) ↔
    (steps_from (left_after (box_of h) is).state (remaining h is) ≤ n)
unfolding is_opened opening
from_opening p h e is js n steps =
    let st = h.state in
    let x = h.lent in
    let text = h.text in
    let run = run_of st x text is in
    let plain : Steps (box_on run) n js = subst (λ (b : Box). Steps b n js) (opened_left st x text is) steps in
    let count = steps_count plain in
    let exact : OpenedExactly st x text is js =
    both _ _ _ _ (p.too_few st x text e is js count.0) (p.enough st x text e is js count.0) in
    rw (
      opened_remaining st x text (is ++ js),
      opened_remaining st x text is,
      opened_left st x text (is ++ js),
      opened_left st x text is,
    )
    (Iff.trans (rw count.1 at exact) (Iff.symm (same_count plain (left_on (settings_on st x text) run))))

pub stated_exactly : PlainExactly → Exactly
unfolding is_opened opening
stated_exactly p =
    record {
      settles_exactly = from_opening p;
      from_any_box = from_any_box_lem p;
      left_alike = λ h e is.
          left_by_lem (left_after (box_of h) is) ∙
          ap (λ (b : Box). left_by b.state) (opened_left h.state h.lent h.text is) ∙
          p.either_count h.state h.lent h.text e is ∙ sym (opened_remaining h.state h.lent h.text is);
    }
