-- What the opening leaves is handed on, and its text is written.
use Rattle.node.specs.Held.{held}
use Rattle.node.specs.View.{lent}
use Rattle.playback_start.proofs.Fronts.{opening_laid}
use Rattle.playback_start.proofs.play_settings.Goals as goal

pub returns-clause-answered : goal.returns-clause-answered
returns-clause-answered c =
    opening_laid (held c.open.new.state) (lent c.open.new.stores) _ _ c.number_of-answer.ensures c.open.ensures.opened c.args.out.now
    c.put_answer.new.out c.put_answer.result c.put_answer.ensures
