-- The results of a closing window (document 01, section 'Buckets and the operator').
use Rattle.std.specs.Prelude.{ℕ, suc, cond, List, [], ◌∷◌}
use Rattle.clock.specs.declared.ReadingTime.{ReadingTime}
use Rattle.signed.specs.Mean.{mean}
use Rattle.record.specs.declared.Record.{Record}
use Rattle.operator_meter.specs.declared.Meter.{Meter}
use Rattle.operator_meter.specs.Values.{has_result}

-- the result of meter number i, of this kind, at the window's start, with this number
unfoldable pub result_of : ℕ → ReadingTime → ℕ → ℕ → Meter → Record
result_of kind start i number m =
    record {
      sum = m.sum;
      id = number;
      time = start;
      count = m.count;
      mean = mean m.sum m.count;
      last = m.last;
      kind = kind;
      meter = i;
    }

-- the results of the meters from number i on, meters rising, numbered behind `number`
unfoldable pub results : ℕ → ReadingTime → ℕ → ℕ → List Meter → List Record
results kind start i number [] = []
results kind start i number (m ∷ ms) =
    cond (has_result m)
    (result_of kind start i (suc number) m ∷ results kind start (suc i) (suc number) ms)
    (results kind start (suc i) number ms)
