-- What is laid over is below a power of two exactly if every count before the place is.
use Rattle.std.proofs.Common.{◌≡◌, ℕ, ◌^◌, nat_lt, length}
use Rattle.operator_bounds.specs.Places.{all_below, counts_below_at}
use Rattle.operator_bounds.proofs.counts_over.Given as goal

abbrev pub invariant-loop-first : goal.invariant-loop-first
invariant-loop-first l = (k : ℕ) → nat_lt l.over (2 ^ k) ≡ all_below (counts_below_at l.operator l.checkpoint k) (length l.yielded)
