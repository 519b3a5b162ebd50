-- The heat balance (document 02, W11) on a run of calls, computed. Windows have two buckets; the first is paid, of the second one bucket
-- is worked as stable when line 2 falls silent, and the other then as tentative, with one bucket more. Every part of the balance is above
-- 0, and whatever it must not count is there: values outside low to high, worked and kept; a refused reading; a tentative one; a tentative
-- result; paid results fetched once more; and an operator that holds something else than the checkpoint.
use Rattle.std.specs.Prelude.{ℕ, ◌≡◌, eqb, ℤ, pos, neg_ℤ, get_or, replicate}
use mathlib.Core.List.{List, [], ◌∷◌, ◌++◌, flatten, map}
use Rattle.record.specs.declared.Record.{Record}
use Rattle.store.specs.Lists.{keep}
use Rattle.operator_meter.specs.Values.{no_meter}
use Rattle.protocol.specs.Node.{kept_of}
use Rattle.node.specs.View.{view}
use Rattle.node.specs.Opening.{closed_state}
use Rattle.consistency.specs.Runs.{Box, Input, called, left_after, record_in}
use Rattle.consistency.specs.Demand.{Handed, is_opened, box_of, settings_in, output_of}
use Rattle.consistency.specs.Balance.{Heat, plus, heat_of, of_reading, of_meter, of_result, counts_for}
use Rattle.consistency.specs.Balance.{sent_heat, paid_heat, open_heat, kept_heat}
use Rattle.consistency_examples.specs.Given.{bytes_in, lent_filled, call}

unfoldable pub handed : Handed
handed =
    record {
      state = closed_state;
      lent = lent_filled 512 16384 0;
      text = bytes_in "lines=2 bucket=100 window=2 hold=50 low=-1000 high=1000 displays=1\n";
    }

-- up to the outage: buckets 0, 1 and 2 are worked as stable
unfoldable pub before : List Input
before =
    call "now=0 line=1 kind=S id=1 time=10 meter=3 value=7\n" ∷
    call "now=0 line=2 kind=S id=1 time=99 meter=3 value=-2\n" ∷
    call "now=1 line=1 kind=S id=2 time=150 meter=5 value=-1000\n" ∷
    call "now=1 line=2 kind=S id=2 time=120 meter=3 value=1001\n" ∷
    call "now=2 line=2 kind=B id=0 time=300 meter=0 value=0\n" ∷
    call "now=3 line=1 kind=S id=3 time=210 meter=3 value=40\n" ∷
    call "now=4 line=1 kind=S id=4 time=310 meter=3 value=500\n" ∷
    call "now=4 line=1 kind=B id=0 time=400 meter=0 value=0\n" ∷
    call "now=4 line=2 kind=S id=3 time=320 meter=3 value=-1001\n" ∷
    call "now=4 line=2 kind=S id=4 time=530 meter=3 value=60\n" ∷
    call "now=5 line=0 kind=P id=0 time=0 meter=0 value=0\n" ∷
    call "now=5 line=0 kind=P id=0 time=0 meter=0 value=0\n" ∷
    call "now=5 line=0 kind=P id=0 time=0 meter=0 value=0\n" ∷
    call "now=6 line=1 kind=T id=5 time=410 meter=3 value=9\n" ∷ []

-- a reading that does not have its line's next id
unfoldable pub refused : Input
refused = call "now=7 line=2 kind=S id=9 time=350 meter=3 value=300\n"

-- the display fetches what was paid
unfoldable pub fetches : Input
fetches = Input.fetch 1 1 (replicate 2080 0)

-- buckets 3 and 4 are worked as tentative
unfoldable pub step : Input
step = call "now=60 line=0 kind=P id=0 time=0 meter=0 value=0\n"

unfoldable pub calls : List Input
calls = before ++ refused ∷ fetches ∷ step ∷ step ∷ []

unfoldable pub box : Box
box = left_after (box_of handed) calls

unfoldable pub heat : ℕ → ℤ → Heat
heat count sum = record { count = count; sum = sum }

pub record Balanced : Type 0 where
  pub opened : is_opened handed
  pub refusal : (called (left_after (box_of handed) before) refused).answer ≡ 11
  pub fetched : (called (left_after (box_of handed) before) fetches).records ≡ 2
  -- meter 3: 7, -2, 40, 500 and 60 were sent in; the first two are paid, the third is in the open window, the others are kept
  pub sent3 : sent_heat handed calls 3 ≡ heat 5 (pos 605)
  pub paid3 : paid_heat handed calls 3 ≡ heat 2 (pos 5)
  pub open3 : open_heat box 3 ≡ heat 1 (pos 40)
  pub kept3 : kept_heat (settings_in handed) box 3 ≡ heat 2 (pos 560)
  pub total3 : plus (heat 2 (pos 5)) (plus (heat 1 (pos 40)) (heat 2 (pos 560))) ≡ heat 5 (pos 605)
  -- meter 5: all is paid
  pub sent5 : sent_heat handed calls 5 ≡ heat 1 (neg_ℤ (pos 1000))
  pub paid5 : paid_heat handed calls 5 ≡ heat 1 (neg_ℤ (pos 1000))
  -- of meter 3 the operator holds the tentative reading alone; with it three readings are kept; with the tentative result four are reported
  pub operator3 : of_meter (get_or box.state.operator.meters 3 no_meter) ≡ heat 1 (pos 9)
  pub any_kept3 :
      heat_of of_reading (keep (counts_for (settings_in handed) 3) (flatten (kept_of (view box.state box.lent.readings).lines))) ≡
      heat 3 (pos 569)
  pub any_result3 :
      heat_of of_result (keep (λ (r : Record). eqb r.meter 3) (map record_in (output_of handed calls))) ≡ heat 4 (pos 545)
