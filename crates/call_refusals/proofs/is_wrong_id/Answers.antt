-- `call_refusals::is_wrong_id` meets its contract: by the letter.
use Rattle.std.proofs.Common.{rules}
use Rattle.store_columns.specs.Shape.{is_reading_kind}
use Rattle.protocol.specs.Refusals.{wrong_id}
use Rattle.protocol.specs.Kinds.{kind_of}
use Rattle.call_refusals.proofs.is_wrong_id.Goals as goal

pub returns-then-is_reading : goal.returns-then-is_reading
unfolding is_reading_kind wrong_id kind_of
returns-then-is_reading c = search rules

pub returns : goal.returns
unfolding is_reading_kind wrong_id kind_of
returns c = search rules
