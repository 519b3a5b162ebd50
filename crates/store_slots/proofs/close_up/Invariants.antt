-- Where the place `at` is next, the share's first places hold those that stay, and the places behind them, up to this one, are zeroed.
use Rattle.std.proofs.Common.{◌+◌, ◌-◌, ◌≡◌, length}
use Rattle.store.specs.Columns.{zeroed}
use Rattle.store_slots.proofs.Closing.{kept, closed_run}
use Rattle.store_slots.proofs.Refusing.{is_other}
use Rattle.store_slots.proofs.close_up.Given as goal

abbrev pub invariant-loop-at : goal.invariant-loop-at
invariant-loop-at l =
    (l.to ≡ l.base + length (kept (is_other l.bucket l.j) zeroed l.base l.initial.slots (l.at - l.base))) ×
    (l.slots ≡ closed_run (is_other l.bucket l.j) zeroed l.base l.initial.slots (l.at - l.base))
