use Rattle.std.proofs.Common.{ℕ, ◌-◌, rules}
use Rattle.store.specs.Columns.{Columns}
use Rattle.store.specs.Lent.{columns}
use Rattle.store.proofs.Columns.{Room, room}
use Rattle.store.proofs.Runs.{part_filled}
use Rattle.store_columns.proofs.Rows.{zeroed_rows}
use Rattle.store_columns.proofs.zero.Goals as goal

pub returns-clause-zeroes : goal.returns-clause-zeroes
returns-clause-zeroes c =
    let from : ℕ = c.args.from in
    let to : ℕ = c.args.to in
    let x : Columns = columns c.args.store.now in
    let space : Room to x = room to x c.requires.1 in
    let h = c.requires.0 in
    zeroed_rows x from (to - from)
    (part_filled x.ids c.fill.new.self 0 from to h space.ids (search rules))
    (part_filled x.times c.fill-2.new.self 0 from to h space.times (search rules))
    (part_filled x.values c.fill-3.new.self _ from to h space.values (search rules))
    (part_filled x.arrivals c.fill-4.new.self 0 from to h space.arrivals (search rules))
    (part_filled x.kinds c.fill-5.new.self 0 from to h space.kinds (search rules))
    (part_filled x.meters c.fill-6.new.self 0 from to h space.meters (search rules))
