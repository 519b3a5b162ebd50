-- The value is the last one of its meter, or a newer one was met.
use Rattle.std.proofs.Common.{rules, arith, get_or, pos, to_z-of_z}
use Rattle.operator.proofs.Loaded.{Long}
use Rattle.operator.proofs.Entered.{sum_made, entered_newest, entered_older}
use Rattle.operator.proofs.Operator.enter.Goals as goal

pub returns-then-newest-meter : goal.returns-then-newest-meter
returns-then-newest-meter c =
    let o = c.args.self.now in
    let long : Long o = record { sums = search rules; counts = search rules; lasts = search rules } in
    entered_newest o c.args.newest.now c.args.time c.args.value c.args.meter long c.requires.0 _
    (sum_made (get_or o.sums c.args.meter (pos 0)) c.args.value (get_or o.counts c.args.meter 0) c.requires.1 c.requires.2 c.ranges.value)
    _ (to_z-of_z c.ranges.value) (omega (arith, c.if-newest-meter.true))

pub returns-else-newest-meter : goal.returns-else-newest-meter
returns-else-newest-meter c =
    let o = c.args.self.now in
    let long : Long o = record { sums = search rules; counts = search rules; lasts = search rules } in
    entered_older o c.args.newest.now c.args.time c.args.value c.args.meter long c.requires.0 _
    (sum_made (get_or o.sums c.args.meter (pos 0)) c.args.value (get_or o.counts c.args.meter 0) c.requires.1 c.requires.2 c.ranges.value)
    (omega (arith, c.if-newest-meter.false))
