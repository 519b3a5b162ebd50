-- The marks of the words that are passed are counted.
use Rattle.std.proofs.Common.{◌≡◌, ◌*◌}
use Rattle.marks.specs.Words.{word_bits}
use Rattle.marks.specs.Marks.{marked_from}
use Rattle.marks.proofs.marked_count.Given as goal

abbrev pub invariant-loop-word : goal.invariant-loop-word
invariant-loop-word l = l.n ≡ marked_from l.fn.words 0 (word_bits * l.word-index)
