-- `call_refusals::is_field_unused` meets its contract: by the letter.
use Rattle.std.proofs.Common.{rules}
use Rattle.store_columns.specs.Shape.{is_reading_kind}
use Rattle.protocol.specs.Refusals.{unused_field, is_zero}
use Rattle.protocol.specs.Kinds.{uses, kind_of}
use Rattle.call_refusals.proofs.is_field_unused.Goals as goal

pub returns-then-is_reading : goal.returns-then-is_reading
unfolding is_reading_kind unused_field is_zero uses kind_of
returns-then-is_reading c = search rules

pub returns-in-66 : goal.returns-in-66
unfolding is_reading_kind unused_field is_zero uses kind_of
returns-in-66 c = search rules

pub returns-in-85 : goal.returns-in-85
unfolding is_reading_kind unused_field is_zero uses kind_of
returns-in-85 c = search rules

pub returns-in_default : goal.returns-in_default
unfolding is_reading_kind unused_field is_zero uses kind_of
returns-in_default c = search rules
