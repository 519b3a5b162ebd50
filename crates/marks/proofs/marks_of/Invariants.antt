-- The words that are passed are the words of the tests.
use Rattle.std.proofs.Common.{◌≡◌, map, take, ltb, length}
use Rattle.marks.specs.Words.{word_count, words_of}
use Rattle.marks.proofs.marks_of.Given as goal

abbrev pub invariant-loop-i : goal.invariant-loop-i
invariant-loop-i l = (length l.words ≡ word_count) × (take l.i l.words ≡ take l.i (words_of word_count (map (ltb 0) l.counts)))
