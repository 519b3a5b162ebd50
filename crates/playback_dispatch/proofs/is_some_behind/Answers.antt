-- `playback_dispatch::is_some_behind` meets its contract: it looks at the ids of the displays that there are.
use Rattle.std.proofs.Common.{sym, ◌∙◌, ltb, rules, tests}
use Rattle.std.proofs.lemmas.Iterator.{YieldsList-from_slice, YieldsList-from_take}
use Rattle.std.proofs.lemmas.Iterator.Search.{any_from_yields_List}
use Rattle.node.specs.Held.{held}
use Rattle.playback_dispatch.proofs.CatchingUp.{behind_any}
use Rattle.playback_dispatch.proofs.is_some_behind.Goals as goal

pub returns : goal.returns
returns c =
    let s = c.args.state.now in
    any_from_yields_List (λ id. ltb id s.checkpoint.number) _ _ c.any.result c.any.ensures.ran
    (YieldsList-from_take s.settings.displays (YieldsList-from_slice s.acknowledged cc) cc) (λ x b q k. search (rules, tests))
    ∙ sym (behind_any (held s) s.all_displays)
