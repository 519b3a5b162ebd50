-- Where a word has nothing left, the next one is looked at; where it has, the place is found.
use Rattle.std.proofs.Common.{◌^◌, ◌<◌, ◌/◌, sym, ◌∙◌, arith, get_or}
use Rattle.marks.specs.Words.{word_bits}
use Rattle.marks.proofs.Next.{next_behind, word_passed, next_in_word, next_answered}
use Rattle.marks.proofs.next_marked.Goals as goal

pub returns-then-rest-ne0 : goal.returns-then-rest-ne0
returns-then-rest-ne0 c =
    let a = c.args in
    let l = c.loop-from in
    let below : get_or a.words (l.from / word_bits) 0 < 2 ^ word_bits = omega arith in
    next_answered a.words a.from (sym (next_in_word a.words l.from below (omega arith)) ∙ l.invariant)

pub loop-from-preserved : goal.loop-from-preserved
loop-from-preserved c = sym (word_passed c.args.words c.loop-from.from c.if-rest-ne0.false) ∙ c.loop-from.invariant

pub returns : goal.returns
returns c = next_answered c.args.words c.args.from (sym (next_behind c.args.words c.loop-from.from (omega arith)) ∙ c.loop-from.invariant)
