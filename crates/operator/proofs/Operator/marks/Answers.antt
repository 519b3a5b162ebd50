-- The counts above 0 are those of the meters with a result.
use Rattle.std.proofs.Common.{◌≡◌, length, ap, ◌∙◌, rules}
use Rattle.marks.specs.Words.{word_count, words_of}
use Rattle.operator.specs.Meters.{meter_count}
use Rattle.operator.specs.Parts.{marks_of}
use Rattle.operator.proofs.FromColumns.{tests_of}
use Rattle.operator.proofs.Operator.marks.Goals as goal

pub returns : goal.returns
unfolding marks_of
returns c =
    let o = c.args.self.now in
    let sized : length o.counts ≡ meter_count = search rules in
    c.marks_of.ensures ∙ ap (words_of word_count) (tests_of o.counts o.sums o.lasts sized)
