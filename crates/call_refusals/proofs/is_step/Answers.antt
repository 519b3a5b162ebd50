-- `call_refusals::is_step` meets its contract: by the letter.
use Rattle.std.proofs.Common.{rules}
use Rattle.store_columns.specs.Shape.{is_reading_kind}
use Rattle.protocol.specs.Kinds.{is_step, uses, kind_of}
use Rattle.call_refusals.proofs.is_step.Goals as goal

pub returns : goal.returns
unfolding is_reading_kind is_step uses kind_of
returns c = search rules
