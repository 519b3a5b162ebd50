-- From the last place down the word is that of the places from the one reached on.
use Rattle.std.proofs.Common.{◌≡◌, ◌+◌, ◌*◌, ◌-◌, ◌^◌, ◌<◌, refl, length, get_or, ltb, arith, rules}
use Rattle.marks.specs.Words.{word_bits, word_count, word_of}
use Rattle.marks.proofs.Words.{bit_small, packed_room, packed_more}
use Rattle.marks.proofs.word_of.Goals as goal

pub loop-i-init : goal.loop-i-init
unfolding word_of
loop-i-init c = refl

pub overflow_mul-word : goal.overflow_mul-word
overflow_mul-word c =
    let l = c.loop-i in
    let room : l.word < 2 ^ 63 = packed_room c.args.counts c.args.from l.i l.word l.invariant (omega arith) in
    omega arith

pub overflow_add-word : goal.overflow_add-word
overflow_add-word c =
    let l = c.loop-i in
    let room : l.word < 2 ^ 63 = packed_room c.args.counts c.args.from l.i l.word l.invariant (omega arith) in
    let bit = bit_small (ltb 0 (get_or c.args.counts (c.args.from + (l.i - 1)) 0)) in
    omega arith

pub loop-i-preserved : goal.loop-i-preserved
loop-i-preserved c =
    let a = c.args in
    let l = c.loop-i in
    let sized : length a.counts ≡ word_bits * word_count = search rules in
    packed_more a.counts a.from l.i l.word l.invariant (omega arith) c.from.result c.from.ensures (omega arith) (omega arith)
