-- A meter's values (document 01, section 'Buckets and the operator').
use Rattle.std.specs.Prelude.{◌+◌, Bool, ◌&&◌, ltb, ℤ, pos, ◌+ℤ◌}
use Rattle.std.specs.Int.Signed.{le_z}
use Rattle.settings.specs.declared.Settings.{Settings}
use Rattle.operator_meter.specs.declared.Meter.{Meter}

-- a meter without a value
unfoldable pub no_meter : Meter
no_meter = record { sum = pos 0; count = 0; last = pos 0 }

-- a meter with one value more
unfoldable pub with_value : ℤ → Meter → Meter
with_value v m = record { sum = m.sum +ℤ v; count = m.count + 1; last = v }

-- a value that the operator does not drop
unfoldable pub is_counted : Settings → ℤ → Bool
is_counted s v = le_z s.low v && le_z v s.high

-- this meter has a result
unfoldable pub has_result : Meter → Bool
has_result m = ltb 0 m.count
