-- Each turn lays down the next meter's result; behind the last one the window's results lie.
use Rattle.std.proofs.Common.{rules, arith, ◌≡◌, ◌<◌, ℕ, List, length, length-take, length-drop, sym, ap, subst, ◌∙◌}
use Rattle.std.specs.Prelude.{Option, Some, None}
use Rattle.area.specs.Laid.{in_front}
use Rattle.clock.specs.declared.ReadingTime.{ReadingTime}
use Rattle.signed.specs.Range.{InRange}
use Rattle.record.proofs.Stores.{record_lent}
use Rattle.store.proofs.Pairs.{every_index}
use Rattle.marks.specs.Marks.{next_marked}
use Rattle.operator_meter.specs.declared.Meter.{Meter}
use Rattle.operator_meter.specs.Values.{no_meter}
use Rattle.operator.specs.Parts.{marks_of}
use Rattle.operator.specs.Loaded.{operator_of}
use Rattle.operator.proofs.Loaded.{length_meters}
use Rattle.operator.proofs.Laying.{laying_begins, room_next, laying_next, laying_ends}
use Rattle.operator.proofs.Laying.{rest_of_window, close_cleared}
use Rattle.operator.proofs.Operator.close.Goals as goal

-- a meter with a result was found
is_next :
    (ms : List Meter) (from : ℕ) {i : ℕ} {marked : List ℕ} {next : Option ℕ} → marked ≡ marks_of ms → next ≡ next_marked marked from → next ≡ Some i →
    next_marked (marks_of ms) from ≡ Some i
is_next ms from told answer is = ap (λ (words : List ℕ). next_marked words from) (sym told) ∙ sym answer ∙ is

pub loop-i-init : goal.loop-i-init
loop-i-init c =
    let o = c.args.self.now in
    laying_begins c.args.kind _ (operator_of o).meters c.args.area.now o.number c.requires.0 (length_meters o.counts o.sums o.lasts)

pub overflow_cast-number : goal.overflow_cast-number
overflow_cast-number c = let r =
    room_next c.args.kind (record { 0 = c.window_start.result }) (operator_of c.args.self.now).meters c.args.area.now c.args.self.now.number
    c.requires.0 c.loop-i.area c.loop-i.number c.loop-i.at c.loop-i.from c.loop-i.invariant c.in-Some.i
    (is_next (operator_of c.args.self.now).meters c.loop-i.from c.marks-marked.ensures c.next_marked.ensures.0 c.in-Some.is) in omega arith

pub meter-requires : goal.meter-requires
meter-requires c =
    let r =
    room_next c.args.kind (record { 0 = c.window_start.result }) (operator_of c.args.self.now).meters c.args.area.now c.args.self.now.number
    c.requires.0 c.loop-i.area c.loop-i.number c.loop-i.at c.loop-i.from c.loop-i.invariant c.in-Some.i
    (is_next (operator_of c.args.self.now).meters c.loop-i.from c.marks-marked.ensures c.next_marked.ensures.0 c.in-Some.is) in
    r.below

pub result-r-requires : goal.result-r-requires
result-r-requires c =
    let ms = (operator_of c.args.self.now).meters in
    let r =
    room_next c.args.kind (record { 0 = c.window_start.result }) (operator_of c.args.self.now).meters c.args.area.now c.args.self.now.number
    c.requires.0 c.loop-i.area c.loop-i.number c.loop-i.at c.loop-i.from c.loop-i.invariant c.in-Some.i
    (is_next (operator_of c.args.self.now).meters c.loop-i.from c.marks-marked.ensures c.next_marked.ensures.0 c.in-Some.is) in
    let inside : c.in-Some.i < length ms = omega (arith, c.loop-i.invariant.whole) in (
      r.below,
      subst (λ (m : Meter). InRange m.sum m.count) (sym c.meter.ensures)
          (every_index (λ (m : Meter). InRange m.sum m.count) ms c.in-Some.i no_meter inside c.requires.3),
    )

pub slice_bounds-put_record-count : goal.slice_bounds-put_record-count
slice_bounds-put_record-count c = let r =
    room_next c.args.kind (record { 0 = c.window_start.result }) (operator_of c.args.self.now).meters c.args.area.now c.args.self.now.number
    c.requires.0 c.loop-i.area c.loop-i.number c.loop-i.at c.loop-i.from c.loop-i.invariant c.in-Some.i
    (is_next (operator_of c.args.self.now).meters c.loop-i.from c.marks-marked.ensures c.next_marked.ensures.0 c.in-Some.is) in omega arith

pub slice_bounds-put_record-start : goal.slice_bounds-put_record-start
slice_bounds-put_record-start c = let r =
    room_next c.args.kind (record { 0 = c.window_start.result }) (operator_of c.args.self.now).meters c.args.area.now c.args.self.now.number
    c.requires.0 c.loop-i.area c.loop-i.number c.loop-i.at c.loop-i.from c.loop-i.invariant c.in-Some.i
    (is_next (operator_of c.args.self.now).meters c.loop-i.from c.marks-marked.ensures c.next_marked.ensures.0 c.in-Some.is) in search rules

pub put_record-requires : goal.put_record-requires
put_record-requires c = let r =
    room_next c.args.kind (record { 0 = c.window_start.result }) (operator_of c.args.self.now).meters c.args.area.now c.args.self.now.number
    c.requires.0 c.loop-i.area c.loop-i.number c.loop-i.at c.loop-i.from c.loop-i.invariant c.in-Some.i
    (is_next (operator_of c.args.self.now).meters c.loop-i.from c.marks-marked.ensures c.next_marked.ensures.0 c.in-Some.is) in simp (length-take, length-drop) (omega arith)

pub overflow_add-at : goal.overflow_add-at
overflow_add-at c = let r =
    room_next c.args.kind (record { 0 = c.window_start.result }) (operator_of c.args.self.now).meters c.args.area.now c.args.self.now.number
    c.requires.0 c.loop-i.area c.loop-i.number c.loop-i.at c.loop-i.from c.loop-i.invariant c.in-Some.i
    (is_next (operator_of c.args.self.now).meters c.loop-i.from c.marks-marked.ensures c.next_marked.ensures.0 c.in-Some.is) in omega arith

pub overflow_add-from : goal.overflow_add-from
overflow_add-from c = let r =
    room_next c.args.kind (record { 0 = c.window_start.result }) (operator_of c.args.self.now).meters c.args.area.now c.args.self.now.number
    c.requires.0 c.loop-i.area c.loop-i.number c.loop-i.at c.loop-i.from c.loop-i.invariant c.in-Some.i
    (is_next (operator_of c.args.self.now).meters c.loop-i.from c.marks-marked.ensures c.next_marked.ensures.0 c.in-Some.is) in omega arith

pub loop-i-smaller : goal.loop-i-smaller
loop-i-smaller c = let r =
    room_next c.args.kind (record { 0 = c.window_start.result }) (operator_of c.args.self.now).meters c.args.area.now c.args.self.now.number
    c.requires.0 c.loop-i.area c.loop-i.number c.loop-i.at c.loop-i.from c.loop-i.invariant c.in-Some.i
    (is_next (operator_of c.args.self.now).meters c.loop-i.from c.marks-marked.ensures c.next_marked.ensures.0 c.in-Some.is) in omega arith

pub loop-i-preserved : goal.loop-i-preserved
loop-i-preserved c =
    let l = c.loop-i in
    let o = operator_of c.args.self.now in
    let start : ReadingTime = record { 0 = c.window_start.result } in
    let done = c.result-r in
    laying_next c.args.kind start o.meters c.args.area.now o.number c.requires.0 l.area l.number l.at l.from l.invariant c.in-Some.i
    (is_next (operator_of c.args.self.now).meters c.loop-i.from c.marks-marked.ensures c.next_marked.ensures.0 c.in-Some.is) done.result (rw c.meter.ensures at done.ensures) _
    (record_lent l.area c.put_record.new.out done.result l.at c.put_record.ensures)

pub returns : goal.returns
returns c =
    let l = c.loop-i in
    let a = c.args in
    let o = operator_of a.self.now in
    let start : ReadingTime = record { 0 = c.window_start.result } in
    let none : next_marked (marks_of o.meters) l.from ≡ None =
    ap (λ (words : List ℕ). next_marked words l.from) (sym c.marks-marked.ensures) ∙ sym c.next_marked.ensures.0 ∙ c.in_default.is in
    let (number, bytes) =
    laying_ends a.kind start o.meters a.area.now o.number c.requires.0 l.area l.number l.at l.from l.invariant none in (
      c.clear.ensures ∙ close_cleared a.s a.kind a.j o l.number number,
      bytes ∙ ap (λ (x : List ℕ). in_front x a.area.now) (rest_of_window a.s a.kind a.j o c.window_start.result c.window_start.ensures),
    )
