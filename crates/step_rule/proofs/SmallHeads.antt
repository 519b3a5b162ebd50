-- Heads in shape keep no more readings than a line's share has places: one part of each head's test.
use mathlib.Core.Path.{◌≡◌}
use mathlib.Core.Bool.{true}
use mathlib.Core.List.{List}
use borrow.Author.Tests.{leb-true}
use lib.Dec.{leb}
use Rattle.store.specs.Sizes.{readings_per_line}
use Rattle.store.specs.Lists.{Every, all_of}
use Rattle.store.proofs.Choices.{and_parts}
use Rattle.store.proofs.Pairs.{every_to, every_passes}
use Rattle.node.specs.declared.LineHead.{LineHead}
use Rattle.node.specs.Shape.{head_ok}
use Rattle.node.proofs.Shares.{SmallHead}

small_head : (h : LineHead) → head_ok h ≡ true → SmallHead h
unfolding head_ok
small_head h e =
    leb-true _ _ (and_parts (leb h.kept readings_per_line) (leb h.last_stable_id h.last_id) e).0

pub small_heads : (hs : List LineHead) → all_of head_ok hs ≡ true → Every SmallHead hs
small_heads hs e = every_to hs small_head (every_passes head_ok hs e)
