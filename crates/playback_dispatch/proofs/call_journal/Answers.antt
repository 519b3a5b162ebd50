-- `playback_dispatch::call_journal` meets its contract: what the call leaves, and behind it the displays or not.
use Rattle.std.proofs.Common.{sym, ap, ◌∙◌}
use Rattle.settings.specs.Limits.{max_displays}
use Rattle.playback_dispatch.specs.Dispatch.{all_caught_up, followed}
use Rattle.playback_dispatch.proofs.CatchingUp.{all_follow, none_lags, none_follows}
use Rattle.playback_dispatch.proofs.call_journal.Goals as goal
use Rattle.playback_dispatch.proofs.call_journal.Goals.{else-acknowledging-via-then-acknowledging+else-is_some_behind, else-acknowledging-via-else-acknowledging}

pub returns-then-is_some_behind-clause-called : goal.returns-then-is_some_behind-clause-called
unfolding followed
returns-then-is_some_behind-clause-called c =
    all_follow c.args.acknowledging max_displays _ _ c.if-acknowledging.true
    (c.catch_all_up.ensures.caught_up c.call-reply.result ∙ ap (all_caught_up max_displays) c.call-reply.ensures.called)

pub returns-else-acknowledging-clause-called : goal.returns-else-acknowledging-clause-called
unfolding followed
returns-else-acknowledging-clause-called c =
    elim c.else-acknowledging.branch [
      | else-acknowledging-via-then-acknowledging+else-is_some_behind w ↦
          none_lags c.args.acknowledging max_displays _ _ w.if-acknowledging.true
          (sym w.is_some_behind.ensures ∙ w.if-is_some_behind.false) c.call-reply.ensures.called
      | else-acknowledging-via-else-acknowledging w ↦
          none_follows c.args.acknowledging max_displays _ _ w.if-acknowledging.false c.call-reply.ensures.called
    ]
