use Rattle.std.proofs.Common.{false, not, sym, ap, ◌∙◌, add-one, arith}
use Rattle.store_places.specs.Places.{is_time_of}
use Rattle.store_places.proofs.FirstPlaces.{first_none, first_here, first_next}
use Rattle.store_places.proofs.next_out.Goals as goal

pub returns-then-not-is_in : goal.returns-then-not-is_in
unfolding is_time_of
returns-then-not-is_in c =
    let a = c.args in
    sym (first_here 0 (is_time_of false a.bucket a.j) a.end a.times.now c.requires.2 c.loop-at.at c.loop-at-test.true
    (sym (ap not c.is_in.ensures) ∙ ap not c.if-not-is_in.true))
    ∙ c.loop-at.invariant

pub loop-at-preserved : goal.loop-at-preserved
unfolding is_time_of
loop-at-preserved c =
    let a = c.args in
    rw add-one
    (sym (first_next 0 (is_time_of false a.bucket a.j) a.end a.times.now c.requires.2 c.loop-at.at c.loop-at-test.true
    (sym (ap not c.is_in.ensures) ∙ ap not c.if-not-is_in.false))
    ∙ c.loop-at.invariant)

pub returns : goal.returns
returns c =
    let a = c.args in
    sym (first_none 0 (is_time_of false a.bucket a.j) a.end a.times.now c.requires.2 c.loop-at.at (omega arith)) ∙ c.loop-at.invariant
