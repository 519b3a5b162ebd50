-- Each early return is the first refusal that stands.
use Rattle.std.proofs.Common.{arith, ap, sym, ◌∙◌, ◌*◌}
use mathlib.Core.Bool.{not}
use Rattle.store.specs.Sizes.{readings_per_line}
use Rattle.store.specs.Lent.{viewed}
use Rattle.store.proofs.Columns.{Room, room}
use Rattle.node.specs.Held.{held}
use Rattle.node.specs.Shape.{displays_ok, sent_ok}
use Rattle.node.proofs.Limits.{Limits, limits_hold}
use Rattle.call_shape.proofs.Whole.{shape_limits}
use Rattle.call_shape.proofs.FirstRefusal.{lent, short_store, short_sent, out_of_shape, out_of_places, short_area, nothing_refused}
use Rattle.call_shape.proofs.host_refusal.Goals as goal

pub returns-then-is_short : goal.returns-then-is_short
returns-then-is_short c =
    let s = c.args.state.now in
    let x = c.args.readings in
    λ area e.
    short_store (held s) (viewed x) c.args.sent.now area _ c.is_short.ensures
    c.if-is_short.true

pub returns-then-sent-lt-HELD_BYTES : goal.returns-then-sent-lt-HELD_BYTES
returns-then-sent-lt-HELD_BYTES c =
    let s = c.args.state.now in
    let x = c.args.readings in
    λ area e.
    short_sent (held s) (viewed x) c.args.sent.now area _ c.is_short.ensures
    c.if-is_short.false (omega arith)

pub is_in_shape-requires : goal.is_in_shape-requires
is_in_shape-requires c =
    let s = c.args.state.now in
    let x = c.args.readings in
    let lines = s.settings.lines in
    let r : Room (lines * readings_per_line) (viewed x) =
    room (lines * readings_per_line) (viewed x) (lent lines x _ c.is_short.ensures c.if-is_short.false).room in
    (r.ids, r.kinds, r.meters)

pub returns-then-not-is_in_shape : goal.returns-then-not-is_in_shape
returns-then-not-is_in_shape c =
    let s = c.args.state.now in
    let x = c.args.readings in
    let long = lent s.settings.lines x _ c.is_short.ensures c.if-is_short.false in
    λ area e.
    out_of_shape (held s) (viewed x) c.args.sent.now area _ c.is_short.ensures
    c.if-is_short.false (omega arith) _ (c.is_in_shape.ensures (viewed x) long) (ap not c.if-not-is_in_shape.true)

pub are_displays_ok-requires : goal.are_displays_ok-requires
are_displays_ok-requires c =
    let s = c.args.state.now in
    let x = c.args.readings in
    let long = lent s.settings.lines x _ c.is_short.ensures c.if-is_short.false in
    let limits : Limits s.settings =
    limits_hold s.settings
    (shape_limits (held s) (viewed x)
    (sym (c.is_in_shape.ensures (viewed x) long) ∙ c.if-not-is_in_shape.false)) in
    (limits.some_displays, limits.displays, omega arith)

pub returns-then-not-are_displays_ok : goal.returns-then-not-are_displays_ok
unfolding displays_ok sent_ok
returns-then-not-are_displays_ok c =
    let s = c.args.state.now in
    let x = c.args.readings in
    let long = lent s.settings.lines x _ c.is_short.ensures c.if-is_short.false in
    λ area e.
    out_of_places (held s) (viewed x) c.args.sent.now area _ c.is_short.ensures
    c.if-is_short.false (omega arith) _ (c.is_in_shape.ensures (viewed x) long) (ap not c.if-not-is_in_shape.false) _
    c.are_displays_ok.ensures (ap not c.if-not-are_displays_ok.true)

pub returns-then-room-lt-AREA_BYTES : goal.returns-then-room-lt-AREA_BYTES
unfolding displays_ok sent_ok
returns-then-room-lt-AREA_BYTES c =
    let s = c.args.state.now in
    let x = c.args.readings in
    let long = lent s.settings.lines x _ c.is_short.ensures c.if-is_short.false in
    λ area e.
    short_area (held s) (viewed x) c.args.sent.now area _ c.is_short.ensures
    c.if-is_short.false (omega arith) _ (c.is_in_shape.ensures (viewed x) long) (ap not c.if-not-is_in_shape.false) _
    c.are_displays_ok.ensures (ap not c.if-not-are_displays_ok.false) (omega arith)

pub returns : goal.returns
unfolding displays_ok sent_ok
returns c =
    let s = c.args.state.now in
    let x = c.args.readings in
    let long = lent s.settings.lines x _ c.is_short.ensures c.if-is_short.false in
    λ area e.
    nothing_refused (held s) (viewed x) c.args.sent.now area _ c.is_short.ensures
    c.if-is_short.false (omega arith) _ (c.is_in_shape.ensures (viewed x) long) (ap not c.if-not-is_in_shape.false) _
    c.are_displays_ok.ensures (ap not c.if-not-are_displays_ok.false) (omega arith)
