-- In the loop of `playback_dispatch::catch_all_up` the displays so far have caught up.
use Rattle.std.proofs.Common.{◌≡◌, ℕ, Result}
use Rattle.answer.specs.declared.Refusal.{Refusal}
use Rattle.node.specs.Calls.{called_of}
use Rattle.node.specs.View.{SameStores}
use Rattle.playback_dispatch.specs.Dispatch.{all_caught_up}
use Rattle.playback_dispatch.proofs.catch_all_up.Given as goal

abbrev pub invariant-loop-display : goal.invariant-loop-display
invariant-loop-display l =
    SameStores l.initial.stores l.stores ×
    ((reply : Result ℕ Refusal) →
    called_of reply l.state l.stores l.area ≡ all_caught_up l.display (called_of reply l.initial.state l.initial.stores l.area))
