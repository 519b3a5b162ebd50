-- What is left of the bucket's places leads to the same end, and each meter has room for one value more a place.
use Rattle.std.proofs.Common.{◌-◌, ◌*◌, take}
use Rattle.store.specs.Sizes.{readings_per_line}
use Rattle.operator.specs.Loaded.{operator_of}
use Rattle.operator.specs.Pass.{passing}
use Rattle.operator.proofs.Turns.{Turn, Lines}
use Rattle.operator.proofs.Operator.add.Given as goal

abbrev pub invariant-loop-i : goal.invariant-loop-i
invariant-loop-i l =
    let r = l.fn.readings in
    Lines l.fn.s l.fn.j r.times.now r.values.now r.meters.now (take l.fn.s.lines l.fn.kept) (operator_of l.fn.self) (passing l.self l.newest) l.i

abbrev pub invariant-loop-at : goal.invariant-loop-at
invariant-loop-at l =
    let r = l.fn.readings in
    let b = l.initial in
    Turn l.fn.s l.fn.j r.times.now r.values.now r.meters.now (passing b.self b.newest) (passing l.self l.newest) (l.i * readings_per_line) l.at l.end

abbrev pub decreases-loop-at : goal.decreases-loop-at
decreases-loop-at l = l.end - l.at
