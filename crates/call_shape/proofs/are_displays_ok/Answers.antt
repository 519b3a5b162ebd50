-- `call_shape::are_displays_ok` meets its contract: the ids first, by the least and the greatest of them, then the places.
use Rattle.std.proofs.Common.{◌≡◌, ℕ, ◌<◌, ◌≤◌, List, length, take, ap, ◌∙◌, arith, rules}
use Rattle.std.proofs.lemmas.List.{length-take-le}
use Rattle.settings.specs.Limits.{max_displays}
use Rattle.protocol.specs.Displays.{least_of}
use Rattle.node.specs.Shape.{displays_ok, sent_ok}
use Rattle.call_acknowledgements.specs.declared.Span.{Span}
use Rattle.call_acknowledgements.specs.SpanOf.{greatest_of, span_of}
use Rattle.call_acknowledgements.proofs.Near.{ahead_fails, far_fails, near_passes, least_below_greatest}
use Rattle.call_shape.proofs.are_displays_ok.Goals as goal

-- what is told of these ids, of which there is one at least
record Told (own : List ℕ) (span : Span) : Type 0 where
  pub some : 0 < length own
  pub least : span.least ≡ least_of own
  pub greatest : span.greatest ≡ greatest_of own
  pub order : least_of own ≤ greatest_of own

-- as many displays as there are have an id each
told :
    (n : ℕ) (ids : List ℕ) (span : Span) → length ids ≡ max_displays → 1 ≤ n → n ≤ max_displays → span ≡ span_of (take n ids) →
    Told (take n ids) span
told n ids span size low high e =
    let some : 0 < length (take n ids) = omega (arith, length-take-le n ids (omega arith)) in
    record {
      some = some;
      least = ap (λ (s : Span). s.least) e;
      greatest = ap (λ (s : Span). s.greatest) e;
      order = least_below_greatest (take n ids) some;
    }

pub returns-then-newest-acknowledged : goal.returns-then-newest-acknowledged
unfolding displays_ok sent_ok
returns-then-newest-acknowledged c =
    let s = c.args.state.now in
    let t = told s.settings.displays s.acknowledged _ (search rules) c.requires.0 c.requires.1 c.span_of-acknowledged.ensures in
    rw (ahead_fails s.checkpoint.number (take s.settings.displays s.acknowledged) t.some (omega (arith, t.greatest)))

pub overflow_sub-newest : goal.overflow_sub-newest
overflow_sub-newest c =
    let s = c.args.state.now in
    let t = told s.settings.displays s.acknowledged _ (search rules) c.requires.0 c.requires.1 c.span_of-acknowledged.ensures in
    omega (arith, t.least, t.greatest, t.order)

pub returns-then-newest-acknowledged-gt-HELD_RESULTS : goal.returns-then-newest-acknowledged-gt-HELD_RESULTS
unfolding displays_ok sent_ok
returns-then-newest-acknowledged-gt-HELD_RESULTS c =
    let s = c.args.state.now in
    let t = told s.settings.displays s.acknowledged _ (search rules) c.requires.0 c.requires.1 c.span_of-acknowledged.ensures in
    rw (far_fails s.checkpoint.number (take s.settings.displays s.acknowledged) t.some (omega (arith, t.greatest)) (omega (arith, t.least)))

pub are_held-requires : goal.are_held-requires
are_held-requires c =
    let s = c.args.state.now in
    let t = told s.settings.displays s.acknowledged _ (search rules) c.requires.0 c.requires.1 c.span_of-acknowledged.ensures in
    (c.requires.2, omega (arith, t.least, t.greatest, t.order), omega (arith, t.least))

pub returns : goal.returns
unfolding displays_ok sent_ok
returns c =
    let s = c.args.state.now in
    let t = told s.settings.displays s.acknowledged _ (search rules) c.requires.0 c.requires.1 c.span_of-acknowledged.ensures in
    c.are_held.ensures
    ∙ rw (
      t.least,
      near_passes s.checkpoint.number (take s.settings.displays s.acknowledged) t.some (omega (arith, t.greatest)) (omega (arith, t.least)),
    )
