-- The operator as the code holds it: a column for each number of a meter, and the numbering.
use Rattle.std.specs.Prelude.{ℕ, zero, suc, List, [], ◌∷◌, ℤ, pos, get_or}
use Rattle.operator_meter.specs.declared.Meter.{Meter}
use Rattle.operator.specs.Meters.{Operator, meter_count}
use Rattle.operator.specs.declared.Operator.{Operator as Loaded}

-- the meter whose numbers stand at place i of the columns
unfoldable pub meter_at : List ℕ → List ℤ → List ℤ → ℕ → Meter
meter_at counts sums lasts i = record { sum = get_or sums i (pos 0); count = get_or counts i 0; last = get_or lasts i (pos 0) }

-- so many meters from place i on
unfoldable pub meters_from : List ℕ → List ℤ → List ℤ → ℕ → ℕ → List Meter
meters_from counts sums lasts i zero = []
meters_from counts sums lasts i (suc n) = meter_at counts sums lasts i ∷ meters_from counts sums lasts (suc i) n

-- the meters in three columns
unfoldable pub meters_of : List ℕ → List ℤ → List ℤ → List Meter
meters_of counts sums lasts = meters_from counts sums lasts 0 meter_count

-- what the operator that the code holds stands for
abbrev pub operator_of : Loaded → Operator
operator_of o = record { meters = meters_of o.counts o.sums o.lasts; number = o.number }
