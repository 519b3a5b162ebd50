-- Each word's marks are its ones, of which there are at most 64.
use Rattle.std.proofs.Common.{◌≡◌, ◌+◌, ◌*◌, ◌^◌, ◌<◌, ℕ, refl, sym, ap, ◌∙◌, length, get_or, arith, rules}
use lib.Count.{ones, ones-le}
use Rattle.marks.specs.Words.{word_bits, word_count}
use Rattle.marks.specs.Marks.{marked_from}
use Rattle.marks.proofs.Places.{marked_most, counted_more, counted_all}
use Rattle.marks.proofs.marked_count.Goals as goal

pub loop-word-init : goal.loop-word-init
unfolding marked_from
loop-word-init c = refl

pub overflow_add-n : goal.overflow_add-n
overflow_add-n c =
    let words = c.args.words in
    let l = c.loop-word in
    let fits : get_or words l.word-index 0 < 2 ^ word_bits = search rules in
    let most = marked_most words (word_bits * l.word-index) 0 in
    let few = ones-le word_bits (get_or words l.word-index 0) fits in
    omega arith

pub loop-word-preserved : goal.loop-word-preserved
loop-word-preserved c =
    let words = c.args.words in
    let l = c.loop-word in
    let fits : get_or words l.word-index 0 < 2 ^ word_bits = search rules in
    ap (λ (n : ℕ). n + ones (get_or words l.word-index 0)) l.invariant ∙ sym (counted_more words l.word-index fits)

pub returns : goal.returns
returns c =
    let sized : length c.args.words ≡ word_count = search rules in
    c.loop-word.invariant ∙ counted_all c.args.words c.loop-word.word-index word_count sized (omega arith)
