-- `call_opening::fresh_state` meets its contract: columns of zeros are meters without a value, place by place.
use Rattle.std.proofs.Common.{refl}
use Rattle.operator_meter.specs.Values.{no_meter}
use Rattle.operator.specs.Meters.{fresh}
use Rattle.operator.specs.Loaded.{meter_at, meters_from, meters_of}
use Rattle.protocol.specs.Node.{opened, no_line}
use Rattle.node.specs.View.{head_of}
use Rattle.node.specs.Opening.{fresh_state}
use Rattle.call_opening.proofs.fresh_state.Goals as goal

pub returns : goal.returns
unfolding fresh_state opened fresh no_line head_of no_meter meters_of meters_from meter_at
returns c = refl
