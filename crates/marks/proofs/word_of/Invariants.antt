-- The word is that of the places from the one reached on.
use Rattle.std.proofs.Common.{◌≡◌}
use Rattle.marks.specs.Words.{word_of}
use Rattle.marks.proofs.Words.{tests}
use Rattle.marks.proofs.word_of.Given as goal

abbrev pub invariant-loop-i : goal.invariant-loop-i
invariant-loop-i l = l.word ≡ word_of (tests l.counts l.from l.i)
