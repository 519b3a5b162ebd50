-- `step_corrections::end_correction` meets its contract: one record, and the state with its word `stable`.
use Rattle.std.proofs.Common.{refl}
use Rattle.protocol.specs.Rules.{act}
use Rattle.node.specs.View.{heads_with, put_state}
use Rattle.step_outcome.specs.Done.{node_alone}
use Rattle.step_corrections.proofs.LinesStay.{none_in_front, one_record}
use Rattle.step_corrections.proofs.end_correction.Goals as goal

pub returns : goal.returns
unfolding act put_state node_alone heads_with
returns c =
    record {
      state = rw none_in_front refl;
      bytes = one_record _ c.marker-done.ensures c.put_record.ensures;
      count = refl;
    }
