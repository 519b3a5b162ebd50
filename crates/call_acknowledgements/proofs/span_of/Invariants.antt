-- In the loop they are those of the ids so far.
use Rattle.std.proofs.Common.{◌≡◌, ◌+◌, take}
use Rattle.protocol.specs.Displays.{least_of}
use Rattle.call_acknowledgements.specs.SpanOf.{greatest_of}
use Rattle.call_acknowledgements.proofs.span_of.Given as goal

abbrev pub invariant-loop-id : goal.invariant-loop-id
invariant-loop-id l =
    (l.span.least ≡ least_of (take (l.id-index + 1) l.ids)) × (l.span.greatest ≡ greatest_of (take (l.id-index + 1) l.ids))
