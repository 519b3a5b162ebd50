-- The next marked place from the place reached is the one asked for.
use Rattle.std.proofs.Common.{◌≡◌, ◌*◌, ◌-◌}
use Rattle.marks.specs.Words.{word_bits, word_count}
use Rattle.marks.specs.Marks.{next_marked}
use Rattle.marks.proofs.next_marked.Given as goal

abbrev pub invariant-loop-from : goal.invariant-loop-from
invariant-loop-from l = next_marked l.words l.from ≡ next_marked l.words l.initial.from

abbrev pub decreases-loop-from : goal.decreases-loop-from
decreases-loop-from l = word_bits * word_count - l.from
