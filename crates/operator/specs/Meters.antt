-- The operator's meters, and a reading added (document 01, section 'Buckets and the operator').
use Rattle.std.specs.Prelude.{ℕ, cond, List, [], ◌∷◌, get_or, set, replicate}
use Rattle.settings.specs.declared.Settings.{Settings}
use Rattle.store.specs.declared.Reading.{Reading}
use Rattle.store.specs.Order.{Placed}
use Rattle.operator_meter.specs.declared.Meter.{Meter}
use Rattle.operator_meter.specs.Values.{no_meter, with_value, is_counted}

-- how many meters there are
abbrev pub meter_count : ℕ
meter_count = 64

-- the operator: its meters, and the number of the newest result, 0 if there is none
pub record Operator : Type 0 where
  pub meters : List Meter
  pub number : ℕ

-- the operator cleared, its numbering kept
unfoldable pub clear : Operator → Operator
clear o = record { meters = replicate meter_count no_meter; number = o.number }

-- the operator as the opening leaves it
unfoldable pub fresh : Operator
fresh = record { meters = replicate meter_count no_meter; number = 0 }

-- the operator with one reading more
unfoldable pub add : Settings → Operator → Reading → Operator
add s o r =
    cond (is_counted s r.value)
    (record { meters = set o.meters r.meter (with_value r.value (get_or o.meters r.meter no_meter)); number = o.number })
    o

-- the operator with readings more, one after the other
unfoldable pub add_all : Settings → Operator → List Placed → Operator
add_all s o [] = o
add_all s o (r ∷ rs) = add_all s (add s o r.reading) rs
