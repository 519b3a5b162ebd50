-- `store_truncation::cut` meets its contract: as many readings are kept as ids, and zeroes behind them leave the kept ones.
use Rattle.std.proofs.Common.{◌+◌, ◌-◌, ◌≡◌, arith}
use Rattle.store.specs.Columns.{store_length}
use Rattle.store.specs.Lent.{columns}
use Rattle.store_truncation.proofs.CutRows.{ids_kept, few_kept, cut_rows}
use Rattle.store_truncation.proofs.cut.Goals as goal

pub overflow_add-base : goal.overflow_add-base
unfolding store_length
overflow_add-base c =
    let a = c.args in
    omega (arith, few_kept (columns a.store.now) a.base a.n a.id c.requires.0 (a.base + a.n - a.base) c.count_up_to-kept.ensures, c.requires.0)

pub zero-requires : goal.zero-requires
zero-requires c =
    let a = c.args in
    (omega (arith, few_kept (columns a.store.now) a.base a.n a.id c.requires.0 (a.base + a.n - a.base) c.count_up_to-kept.ensures), c.requires.0)

-- as many readings as ids; and the zeroes leave them
pub returns-clause-kept : goal.returns-clause-kept
returns-clause-kept c =
    let a = c.args in
    let kept = c.count_up_to-kept.result in
    let few = few_kept (columns a.store.now) a.base a.n a.id c.requires.0 (a.base + a.n - a.base) c.count_up_to-kept.ensures in
    let as_many = ids_kept (columns a.store.now) a.base a.n a.id c.requires.0 c.count_up_to-kept.ensures (omega arith) in
    let behind : a.base + a.n - (a.base + kept) ≡ a.n - kept = omega arith in
    let cut = cut_rows (columns a.store.now) a.base a.n a.id c.requires.0 c.requires.1 kept (a.base + a.n - (a.base + kept)) as_many behind in
    (as_many, rw cut at c.zero.ensures.zeroes)
