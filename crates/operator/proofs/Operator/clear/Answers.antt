-- Columns of zeros are meters without a value, place by place.
use Rattle.std.proofs.Common.{refl}
use Rattle.operator_meter.specs.Values.{no_meter}
use Rattle.operator.specs.Meters.{clear}
use Rattle.operator.specs.Loaded.{meter_at, meters_from, meters_of}
use Rattle.operator.proofs.Operator.clear.Goals as goal

pub returns : goal.returns
unfolding clear no_meter meters_of meters_from meter_at
returns c = refl
