-- Document 02, W11: the heat balance, meter by meter. What was sent in is what was paid, what the window open at the checkpoint holds, and
-- what is still kept. The statement, over the lists of demand 3.
use Rattle.std.specs.Prelude.{ℕ, ◌+◌, ◌<◌, ◌≡◌, Bool, ◌&&◌, eqb, ℤ, pos, ◌+ℤ◌, get_or}
use mathlib.Core.List.{List, foldr, flatten, map}
use Rattle.settings.specs.declared.Settings.{Settings}
use Rattle.journal.specs.Kinds.{letter_s}
use Rattle.record.specs.declared.Record.{Record}
use Rattle.store.specs.declared.Reading.{Reading}
use Rattle.store.specs.Lists.{keep}
use Rattle.operator_meter.specs.declared.Meter.{Meter}
use Rattle.operator_meter.specs.Values.{no_meter, is_counted}
use Rattle.operator.specs.Meters.{meter_count}
use Rattle.protocol.specs.Node.{kept_of}
use Rattle.node.specs.View.{view}
use Rattle.consistency.specs.Runs.{Box, Input, left_after, record_in}
use Rattle.consistency.specs.Demand.{Handed, is_opened, box_of, settings_in, account_of, output_of}

-- how much: the number of readings, and the sum of their values
pub record Heat : Type 0 where
  pub count : ℕ
  pub sum : ℤ

unfoldable pub no_heat : Heat
no_heat = record { count = 0; sum = pos 0 }

unfoldable pub plus : Heat → Heat → Heat
plus a b = record { count = a.count + b.count; sum = a.sum +ℤ b.sum }

-- what all elements of a list bring
unfoldable pub heat_of : {A : Type 0} → (A → Heat) → List A → Heat
heat_of brings = foldr (λ x h. plus (brings x) h) no_heat

-- what a reading brings, what a meter holds, what a result reports
unfoldable pub of_reading : Reading → Heat
of_reading r = record { count = 1; sum = r.value }

unfoldable pub of_meter : Meter → Heat
of_meter m = record { count = m.count; sum = m.sum }

unfoldable pub of_result : Record → Heat
of_result r = record { count = r.count; sum = r.sum }

-- a reading with a value inside low to high, of meter i
unfoldable pub counts_for : Settings → ℕ → Reading → Bool
counts_for s i r = is_counted s r.value && eqb r.meter i

-- a stable result of meter i: by the letter, so that every other kind is passed over
unfoldable pub pays_for : ℕ → Record → Bool
pays_for i r = eqb r.kind letter_s && eqb r.meter i

-- sent in: the accepted stable readings, by the journal calls' fields and answers alone
unfoldable pub sent_heat : Handed → List Input → ℕ → Heat
sent_heat h is i = heat_of of_reading (keep (counts_for (settings_in h) i) (flatten (account_of h is).stables))

-- paid: the stable results of the output as it came, every piece of which is a record (`Clean` in Demand.antt); fetched records are no part
-- of it
unfoldable pub paid_heat : Handed → List Input → ℕ → Heat
paid_heat h is i = heat_of of_result (keep (pays_for i) (map record_in (output_of h is)))

-- the window open at the checkpoint
unfoldable pub open_heat : Box → ℕ → Heat
open_heat b i = of_meter (get_or b.state.checkpoint.meters i no_meter)

-- the stable readings that the store still keeps
unfoldable pub kept_stables : Box → List Reading
kept_stables b = keep (λ (r : Reading). eqb r.kind letter_s) (flatten (kept_of (view b.state b.lent.readings).lines))

unfoldable pub kept_heat : Settings → Box → ℕ → Heat
kept_heat s b i = heat_of of_reading (keep (counts_for s i) (kept_stables b))

-- one equation for count and sum
abbrev pub Balance : Type 0
Balance =
    (h : Handed) → is_opened h → (is : List Input) (i : ℕ) → i < meter_count →
    let b : Box = left_after (box_of h) is in
    sent_heat h is i ≡ plus (paid_heat h is i) (plus (open_heat b i) (kept_heat (settings_in h) b i))
