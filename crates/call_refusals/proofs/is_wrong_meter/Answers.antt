-- `call_refusals::is_wrong_meter` meets its contract: by the letter.
use Rattle.std.proofs.Common.{rules}
use Rattle.store_columns.specs.Shape.{is_reading_kind}
use Rattle.protocol.specs.Refusals.{wrong_meter}
use Rattle.protocol.specs.Kinds.{uses, kind_of}
use Rattle.call_refusals.proofs.is_wrong_meter.Goals as goal

pub returns : goal.returns
unfolding is_reading_kind wrong_meter uses kind_of
returns c = search rules
