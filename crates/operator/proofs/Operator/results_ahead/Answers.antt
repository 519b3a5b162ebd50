-- As many meters are marked as give a result.
use Rattle.std.proofs.Common.{sym, ap, ◌∙◌}
use Rattle.marks.specs.Marks.{marked_count}
use Rattle.operator.specs.Work.{close}
use Rattle.operator.specs.Loaded.{operator_of}
use Rattle.operator.proofs.Loaded.{length_meters}
use Rattle.operator.proofs.Closing.{window_results_length}
use Rattle.operator.proofs.NextResults.{marked_givers}
use Rattle.operator.proofs.Operator.results_ahead.Goals as goal

pub returns : goal.returns
unfolding close
returns c =
    λ s kind j.
    let o = c.args.self.now in
    c.marked_count.ensures ∙ ap marked_count c.marks.ensures ∙
    marked_givers (operator_of o).meters (length_meters o.counts o.sums o.lasts) ∙ sym (window_results_length s kind j (operator_of o))
