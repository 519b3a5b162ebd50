use Rattle.std.proofs.Common.{◌≡◌, ◌∷◌, le_trans, rules}
use lib.Bits.{and_le_l}
use Rattle.store_columns.proofs.SmallSteps.{one_laid}
use Rattle.store_columns.proofs.few_steps_back.Goals as goal

pub loop-id-preserved : goal.loop-id-preserved
loop-id-preserved c =
    let before = c.loop-id.id-iterator in
    let after = c.next.new.self in
    let id = c.in-Some.id.now in
    let next = c.in-Some.next.now in
    let here : before.a.rest.now ≡ id ∷ after.a.rest.now = search rules in
    let there : before.b.rest.now ≡ next ∷ after.b.rest.now = search rules in
    λ small steps.
    (rw (here, there) at c.loop-id.invariant) (le_trans small (and_le_l c.loop-id.back _))
    (one_laid c.loop-id.back id next after.a.rest.now after.b.rest.now (search rules) (search rules) small steps)
