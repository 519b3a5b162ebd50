-- `playback_dispatch::catch_all_up` meets its contract: one turn of the loop, and one display more has caught up.
use Rattle.std.proofs.Common.{refl, rules}
use Rattle.playback_dispatch.specs.Dispatch.{all_caught_up}
use Rattle.playback_dispatch.proofs.CatchingUp.{in_turn}
use Rattle.playback_dispatch.proofs.catch_all_up.Goals as goal

pub loop-display-init : goal.loop-display-init
unfolding all_caught_up
loop-display-init c = (search rules, λ reply. refl)

pub loop-display-preserved : goal.loop-display-preserved
loop-display-preserved c =
    let l = c.loop-display in
    (search rules, λ reply. in_turn l.display _ _ _ (c.catch_up.ensures.caught_up reply) (l.invariant.1 reply))
