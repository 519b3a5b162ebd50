-- `step_corrections::withdraw` meets its contract: one record, and the state with its checkpoint back.
use Rattle.std.proofs.Common.{refl}
use Rattle.protocol.specs.Rules.{act}
use Rattle.node.specs.Held.{held}
use Rattle.step_outcome.specs.Done.{node_alone}
use Rattle.step_corrections.proofs.LinesStay.{one_record, withdraw_held}
use Rattle.step_corrections.proofs.withdraw.Goals as goal

pub returns : goal.returns
unfolding act node_alone
returns c =
    record {
      state = withdraw_held (held c.args.state.now);
      bytes = one_record _ c.marker-undo.ensures c.put_record.ensures;
      count = refl;
    }
