-- Records without a result: an undo has only an id, a boundary only a time, corrections done neither (document 01, section 'Buckets and the
-- operator').
use Rattle.std.specs.Prelude.{ℕ, pos}
use Rattle.clock.specs.declared.ReadingTime.{ReadingTime}
use Rattle.record.specs.declared.Record.{Record}

unfoldable pub marker : ℕ → ℕ → ReadingTime → Record
marker kind id time =
    record { sum = pos 0; id = id; time = time; count = 0; mean = pos 0; last = pos 0; kind = kind; meter = 0 }
