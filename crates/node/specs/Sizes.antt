-- Sizes of the node.
use Rattle.std.specs.Prelude.{ℕ, ◌+◌, ◌*◌}
use Rattle.record.specs.Sizes.{record_bytes}
use Rattle.operator.specs.Meters.{meter_count}

-- results that one bucket can give: one for each meter
abbrev pub results_per_bucket : ℕ
results_per_bucket = meter_count

-- records that one call can give: a bucket's results, and the boundary behind them
abbrev pub records_per_call : ℕ
records_per_call = results_per_bucket + 1

-- bytes of an output area that no call is refused for
abbrev pub area_bytes : ℕ
area_bytes = records_per_call * record_bytes

-- the last bucket that c and p may name
abbrev pub last_bucket : ℕ
last_bucket = 42_949_673
