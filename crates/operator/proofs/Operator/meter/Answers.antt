-- The three numbers at a place are the meter there; each fits the type that it is of.
use Rattle.std.proofs.Common.{rules, get_or, pos, w32, w64, SFits}
use Rattle.operator.proofs.FromColumns.{meter_read}
use Rattle.operator.proofs.Operator.meter.Goals as goal

pub returns : goal.returns
returns c =
    let o = c.args.self.now in
    let sum : SFits w64 (get_or o.sums c.args.i (pos 0)) = search rules in
    let last : SFits w32 (get_or o.lasts c.args.i (pos 0)) = search rules in
    meter_read o.counts o.sums o.lasts c.args.i c.requires sum last
