-- How many steps settle a box (document 02, W4), computed: the request's cases, the listing step by step, and a box that no list of calls
-- leaves.
use Rattle.std.specs.Prelude.{◌≡◌, true, false, List, [], ◌∷◌, ◌++◌, length}
use Rattle.protocol.specs.declared.Phase.TheVariants as Phase
use Rattle.protocol.specs.Rules.{is_correcting}
use Rattle.protocol.specs.StepCount.{steps_needed}
use Rattle.node.specs.Held.{Held}
use Rattle.consistency.specs.Runs.{Box, Input, left_after}
use Rattle.consistency.specs.Demand.{box_of, Steps}
use Rattle.consistency.specs.Exactly.{left_in, steps_from}
use Rattle.consistency_examples.specs.Given.{handed, readings, step, late, fetches, acknowledges}

-- the box of the listing after these calls
unfoldable pub listed : List Input → Box
listed is = left_after (box_of handed) is

-- a host's own box: c is past every boundary, and a correction is going on
unfoldable pub made : Box
made =
    let st : Held = (box_of handed).state in
    record {
      state =
          record {
            operator = st.operator;
            checkpoint = st.checkpoint;
            heads = st.heads;
            settings = st.settings;
            clock = st.clock;
            c = 2;
            p = 2;
            phase = Phase.Correcting;
            acknowledged = st.acknowledged;
          };
      lent = (box_of handed).lent;
    }

pub record Counted : Type 0 where
  -- in `stable`, with no, one and three stable buckets left
  pub stable0 : steps_needed 0 false false ≡ 0
  pub stable1 : steps_needed 1 false false ≡ 1
  pub stable3 : steps_needed 3 false false ≡ 3
  -- with tentative work out, in `failure`
  pub failure0 : steps_needed 0 true false ≡ 0
  pub failure1 : steps_needed 1 true false ≡ 3
  pub failure3 : steps_needed 3 true false ≡ 5
  -- in `correcting`
  pub correcting0 : steps_needed 0 false true ≡ 1
  pub correcting1 : steps_needed 1 false true ≡ 2
  pub correcting3 : steps_needed 3 false true ≡ 4
  -- the listing: one bucket is left and tentative work is out; the undo, the stable result and the R are to come
  pub heads : length (listed readings).state.heads ≡ 8
  pub left : left_in (listed readings) ≡ 1
  pub needed : steps_from (listed readings).state 1 ≡ 3
  -- behind the undo it is correcting
  pub left_next : left_in (listed (readings ++ step ∷ [])) ≡ 1
  pub needed_next : steps_from (listed (readings ++ step ∷ [])).state 1 ≡ 2
  -- behind the stable result no bucket is left, and it is correcting still
  pub left_then : left_in (listed (readings ++ step ∷ step ∷ [])) ≡ 0
  pub needed_then : steps_from (listed (readings ++ step ∷ step ∷ [])).state 0 ≡ 1
  pub correcting_then : is_correcting (listed (readings ++ step ∷ step ∷ [])).state.phase ≡ true
  -- behind the R no more
  pub needed_no_more : steps_from (listed (readings ++ step ∷ step ∷ step ∷ [])).state 0 ≡ 0
  pub correcting_no_more : is_correcting (listed (readings ++ step ∷ step ∷ step ∷ [])).state.phase ≡ false
  -- two steps, one short of enough, and three, a refused call and the display's calls among them
  pub two_steps : Steps (listed readings) 2 (step ∷ late ∷ step ∷ fetches ∷ acknowledges ∷ [])
  pub three_steps : Steps (listed readings) 3 (step ∷ late ∷ step ∷ fetches ∷ acknowledges ∷ step ∷ [])
  -- the host's box: nothing is left below c, and one step ends the correction
  pub made_heads : length made.state.heads ≡ 8
  pub made_left : left_in made ≡ 0
  pub made_needed : steps_from made.state 0 ≡ 1
  pub made_step : Steps made 1 (step ∷ [])
