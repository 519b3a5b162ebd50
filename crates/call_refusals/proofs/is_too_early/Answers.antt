-- `call_refusals::is_too_early` meets its contract: by the letter.
use Rattle.std.proofs.Common.{rules}
use Rattle.store_columns.specs.Shape.{is_reading_kind}
use Rattle.protocol.specs.Refusals.{too_early}
use Rattle.protocol.specs.Kinds.{uses, kind_of}
use Rattle.call_refusals.proofs.is_too_early.Goals as goal

pub returns : goal.returns
unfolding is_reading_kind too_early uses kind_of
returns c = search rules
