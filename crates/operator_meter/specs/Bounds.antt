-- A meter within its bounds (document 01, section 'Refusal by whom', refusal 4).
use Rattle.std.specs.Prelude.{ℕ, suc, ◌*◌, ◌-◌, ◌^◌, Bool, ◌&&◌, leb, ℤ, pos, negsuc}
use Rattle.operator_meter.specs.declared.Meter.{Meter}

-- the largest count of a meter
abbrev pub count_limit : ℕ
count_limit = 32_768

-- a sum that so many values can have
unfoldable pub sum_ok : ℤ → ℕ → Bool
sum_ok (pos a) count = leb a ((2 ^ 31 - 1) * count)
sum_ok (negsuc a) count = leb (suc a) (2 ^ 31 * count)

unfoldable pub meter_ok : Meter → Bool
meter_ok m = leb m.count count_limit && sum_ok m.sum m.count
