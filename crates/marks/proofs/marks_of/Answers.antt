-- A word more stands where it should.
use Rattle.std.proofs.Common.{◌≡◌, ◌*◌, ◌∙◌, ap, ℕ, map, take, drop, ltb, arith, add-one}
use lib.ListN.{length-set}
use Rattle.marks.specs.Words.{word_bits, word_count, word_of}
use Rattle.marks.proofs.Words.{written_more, written_all}
use Rattle.marks.proofs.marks_of.Goals as goal

pub loop-i-preserved : goal.loop-i-preserved
loop-i-preserved c =
    let l = c.loop-i in
    let bs = map (ltb 0) c.args.counts in
    let there : l.i * word_bits ≡ word_bits * l.i = omega arith in (
      length-set l.words l.i c.word_of.result ∙ l.invariant.0,
      rw add-one
          (written_more word_count bs l.words l.i c.word_of.result l.invariant.0 (omega arith) l.invariant.1
          (c.word_of.ensures ∙ ap (λ (k : ℕ). word_of (take word_bits (drop k bs))) there)),
    )

pub returns : goal.returns
returns c =
    let l = c.loop-i in
    written_all word_count (map (ltb 0) c.args.counts) l.words l.i l.invariant.0 (omega arith) l.invariant.1
