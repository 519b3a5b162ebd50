-- A pass over readings that come in any order of time: of each meter the last value is that of the newest reading met.
use Rattle.std.specs.Prelude.{ℕ, ◌+◌, Bool, cond, leb, List, ℤ, ◌+ℤ◌, get_or, set}
use Rattle.operator_meter.specs.declared.Meter.{Meter}
use Rattle.operator_meter.specs.Values.{no_meter, with_value}
use Rattle.operator.specs.Meters.{Operator}
use Rattle.operator.specs.declared.Operator.{Operator as Loaded}
use Rattle.operator.specs.Loaded.{operator_of}

-- the operator in a pass, and for each meter the time of its newest reading met so far
pub record Passing : Type 0 where
  pub operator : Operator
  pub newest : List ℕ

-- a meter with one value more, where a newer value is there already
unfoldable pub with_older_value : ℤ → Meter → Meter
with_older_value v m = record { sum = m.sum +ℤ v; count = m.count + 1; last = m.last }

-- a meter with one value more, of a time that is the newest met or not
unfoldable pub valued : Bool → ℤ → Meter → Meter
valued isNewest v m = cond isNewest (with_value v m) (with_older_value v m)

-- a reading that counts, entered: its time, its value and its meter
unfoldable pub entered : Passing → ℕ → ℤ → ℕ → Passing
entered p t v m =
    record {
      operator = record {
        meters = set p.operator.meters m (valued (leb (get_or p.newest m 0) t) v (get_or p.operator.meters m no_meter));
        number = p.operator.number;
      };
      newest = set p.newest m (cond (leb (get_or p.newest m 0) t) t (get_or p.newest m 0));
    }

-- a pass whose operator is in columns
abbrev pub passing : Loaded → List ℕ → Passing
passing o newest = record { operator = operator_of o; newest = newest }
