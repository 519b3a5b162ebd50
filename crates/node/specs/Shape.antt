-- What is held and the stores in shape (document 01, section 'Refusal by whom', refusal 4; document 02, W2). Only lines 1 to `lines`
-- and displays 1 to `displays` are looked at.
use Rattle.std.specs.Prelude.{ℕ, ◌+◌, ◌*◌, ◌-◌, Bool, true, cond, ◌&&◌, List, map, leb, ltb, eqb, take}
use Rattle.settings.specs.Limits.{within_limits}
use Rattle.store.specs.declared.Reading.{Reading}
use Rattle.store.specs.Sizes.{readings_per_line}
use Rattle.store.specs.Lists.{all_of}
use Rattle.store_columns.specs.Shape.{rises, is_reading_kind}
use Rattle.operator.specs.Meters.{meter_count}
use Rattle.operator_meter.specs.Bounds.{meter_ok}
use Rattle.protocol.specs.declared.Phase.{Phase}
use Rattle.protocol.specs.Node.{Line}
use Rattle.node.specs.Sizes.{results_per_bucket, last_bucket}
use Rattle.protocol.specs.Displays.{least_of}
use Rattle.retransmission.specs.Sizes.{held_results}
use Rattle.retransmission.specs.Places.{places_of, places_ok}
use Rattle.store.specs.Columns.{Columns}
use Rattle.node.specs.View.{Lent, view}
use Rattle.node.specs.declared.LineHead.{LineHead}
use Rattle.node.specs.Held.{Held}

-- a kept reading: S or T, its meter not past the last one
unfoldable pub reading_ok : Reading → Bool
reading_ok r = is_reading_kind r.kind && ltb r.meter meter_count

-- each id above the one before it
unfoldable pub ids_rise : List Reading → Bool
ids_rise rs = rises (map (λ (r : Reading). r.id) rs)

unfoldable pub head_ok : LineHead → Bool
head_ok h = leb h.kept readings_per_line && leb h.last_stable_id h.last_id

unfoldable pub kept_ok : Line → Bool
kept_ok l = all_of reading_ok l.kept && ids_rise l.kept

-- c, p and the state's word: tentative work is out exactly in `failure`
unfoldable pub phase_ok : ℕ → ℕ → Phase → Bool
phase_ok c p Phase.Stable = eqb p c
phase_ok c p Phase.Failure = ltb c p
phase_ok c p Phase.Correcting = eqb p c

unfoldable pub buckets_ok : Held → Bool
buckets_ok st = leb st.c st.p && (leb st.p last_bucket && phase_ok st.c st.p st.phase)

-- the last stable result's id and the newest one's
unfoldable pub numbers_ok : Held → Bool
numbers_ok st =
    leb st.checkpoint.number (results_per_bucket * st.c) &&
    (leb st.operator.number (results_per_bucket * st.p) &&
    (leb st.checkpoint.number st.operator.number &&
    cond (eqb st.p st.c) (leb st.operator.number st.checkpoint.number) true))

-- a display's last id: not above the newest stable id, and not more than 512 below it
unfoldable pub display_ok : ℕ → ℕ → Bool
display_ok newest id = leb id newest && leb newest (id + held_results)

unfoldable pub displays_ok : Held → Bool
displays_ok st = all_of (display_ok st.checkpoint.number) (take st.settings.displays st.acknowledged)

-- the places of the results that some display has not acknowledged
unfoldable pub sent_ok : Held → List ℕ → Bool
sent_ok st sent =
    let least : ℕ = least_of (take st.settings.displays st.acknowledged) in
    places_ok (places_of sent) least (st.checkpoint.number - least)

-- the state and the store of readings
unfoldable pub state_in_shape : Held → Columns → Bool
state_in_shape st x =
    within_limits st.settings &&
    (all_of head_ok (take st.settings.lines st.heads) &&
    (all_of kept_ok (view st x).lines &&
    (buckets_ok st && (numbers_ok st && (all_of meter_ok st.operator.meters && all_of meter_ok st.checkpoint.meters)))))

-- and what is held for the displays; their ids are tested before any place is looked at
unfoldable pub in_shape : Held → Lent → Bool
in_shape st x = state_in_shape st x.readings && (displays_ok st && sent_ok st x.sent)
