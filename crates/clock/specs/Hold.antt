-- The hold: how long the box waits for a silent line (document 01, section 'One step', rule 4).
use Rattle.std.specs.Prelude.{ℕ, ◌+◌, Bool, leb}
use Rattle.clock.specs.declared.ArrivalTick.{ArrivalTick}

-- a reading that arrived then is due now: arrival + hold ≤ now, as numbers without a width
unfoldable pub is_due : ℕ → ArrivalTick → ArrivalTick → Bool
is_due hold arrival tick = leb (arrival.0 + hold) tick.0
