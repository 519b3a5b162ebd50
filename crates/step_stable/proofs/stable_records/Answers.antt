-- `step_stable::stable_records` meets its contract: the results, and the boundary behind them where bucket c closes a window.
use Rattle.std.proofs.Common.{◌*◌, ◌≤◌, ◌≡◌, sym, ◌∙◌, ap, true, false, ℕ, length, length-take, length-drop, arith, rules}
use Rattle.clock.specs.Buckets.{bucket_end}
use Rattle.clock.specs.Windows.{closes_window}
use Rattle.journal.specs.Kinds.{letter_s, letter_b}
use Rattle.record.specs.Sizes.{record_bytes}
use Rattle.record.specs.Markers.{marker}
use Rattle.record.proofs.Stores.{record_lent}
use Rattle.operator.specs.Meters.{meter_count}
use Rattle.operator.proofs.Loaded.{length_meters}
use Rattle.node.specs.Held.{Held, held}
use Rattle.node.proofs.Limits.{limits_hold}
use Rattle.node.proofs.Shape.{state_facts}
use Rattle.node.proofs.Times.{start_fits, stable_start_fits}
use Rattle.step_work.proofs.Given.{room_left}
use Rattle.step_stable.proofs.Boundary.{goes_on_done, closes_done}
use Rattle.step_stable.proofs.stable_records.Goals as goal

pub work-results-requires : goal.work-results-requires
work-results-requires c =
    let st : Held = held c.args.state.now in
    let some_window : 1 ≤ c.args.state.now.settings.window =
    (limits_hold st.settings (state_facts st c.requires.0.store c.requires.0.is.shape).limits).some_window in
    let begins = stable_start_fits st.settings.bucket st.c c.requires.2 in
    (c.requires.0, c.requires.1, start_fits st.settings.bucket st.settings.window st.c some_window begins)

pub closes_window-requires : goal.closes_window-requires
closes_window-requires c =
    let st : Held = held c.args.state.now in
    omega (arith, (limits_hold st.settings (state_facts st c.requires.0.store c.requires.0.is.shape).limits).some_window)

pub returns-then-not-closes_window : goal.returns-then-not-closes_window
returns-then-not-closes_window c =
    let st : Held = held c.args.state.now in
    λ x is.
    let e = c.work-results.ensures x is in
    goes_on_done st x c.args.area.now (held c.work-results.new.state) c.work-results.new.area c.work-results.result e.0 e.1 e.2
    (sym c.closes_window.ensures ∙ c.if-not-closes_window.true)

pub slice_bounds-put_record-count : goal.slice_bounds-put_record-count
slice_bounds-put_record-count c =
    let st : Held = held c.args.state.now in
    let e = c.work-results.ensures c.requires.0.store c.requires.0.is in
    let meters : length st.operator.meters ≡ meter_count = length_meters _ _ _ in
    let room = room_left st c.requires.0.store letter_s st.c c.work-results.result c.args.area.now c.work-results.new.area meters c.requires.1
    e.2 e.1 in
    omega (arith, room.0)

pub slice_bounds-put_record-start : goal.slice_bounds-put_record-start
slice_bounds-put_record-start c =
    let st : Held = held c.args.state.now in
    let e = c.work-results.ensures c.requires.0.store c.requires.0.is in
    let meters : length st.operator.meters ≡ meter_count = length_meters _ _ _ in
    let room = room_left st c.requires.0.store letter_s st.c c.work-results.result c.args.area.now c.work-results.new.area meters c.requires.1
    e.2 e.1 in
    let enough = room.0 in search rules

pub put_record-requires : goal.put_record-requires
put_record-requires c =
    let st : Held = held c.args.state.now in
    let e = c.work-results.ensures c.requires.0.store c.requires.0.is in
    let meters : length st.operator.meters ≡ meter_count = length_meters _ _ _ in
    let room = room_left st c.requires.0.store letter_s st.c c.work-results.result c.args.area.now c.work-results.new.area meters c.requires.1
    e.2 e.1 in
    simp (length-take, length-drop) (omega (arith, room.0))

pub overflow_add-result : goal.overflow_add-result
overflow_add-result c =
    let st : Held = held c.args.state.now in
    let e = c.work-results.ensures c.requires.0.store c.requires.0.is in
    let meters : length st.operator.meters ≡ meter_count = length_meters _ _ _ in
    let room = room_left st c.requires.0.store letter_s st.c c.work-results.result c.args.area.now c.work-results.new.area meters c.requires.1
    e.2 e.1 in
    omega (arith, room.1)

pub returns : goal.returns
returns c =
    let st : Held = held c.args.state.now in
    -- the boundary made, and laid down behind the results
    let boundary : c.marker.result ≡ marker letter_b 0 (record { 0 = bucket_end c.args.state.now.settings.bucket c.args.state.now.c }) =
    c.marker.ensures ∙ ap (λ (t : ℕ). marker letter_b 0 (record { 0 = t })) c.bucket_end.ensures in
    λ x is.
    let e = c.work-results.ensures x is in
    closes_done st x c.args.area.now (held c.work-results.new.state) c.work-results.new.area c.work-results.result e.0 e.1 e.2
    (sym c.closes_window.ensures ∙ c.if-not-closes_window.false) _ c.marker.result boundary
    (record_lent c.work-results.new.area c.put_record.new.out c.marker.result (c.work-results.result * record_bytes) c.put_record.ensures)
