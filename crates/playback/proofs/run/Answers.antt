-- The playback begins on stores of zeros, and what it leaves is where the first journal line is played from.
use Rattle.playback.specs.Run.{zeroed_stores}
use Rattle.playback.proofs.Reached.{finished}
use Rattle.playback.proofs.run.Goals as goal

pub returns : goal.returns
unfolding zeroed_stores
returns c = finished c.play_lines.new.state c.start-started.ensures.begun c.play_lines.ensures.played
