use Rattle.std.proofs.Common.{ℕ, ◌<◌, ◌≤◌, slice_index}
use Rattle.store_columns.proofs.common_bits.Given as goal

-- no word so far is below it
abbrev pub invariant-loop-word : goal.invariant-loop-word
invariant-loop-word l = (j : ℕ) → j < l.word-index → l.common ≤ slice_index l.words j
