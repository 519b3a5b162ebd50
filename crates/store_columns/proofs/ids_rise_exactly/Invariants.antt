use Rattle.std.proofs.Common.{◌≡◌, ◌&&◌, drop}
use Rattle.store_columns.specs.Shape.{rises}
use Rattle.store_columns.proofs.ids_rise_exactly.Given as goal

-- the second iterator is one id ahead; what is told so far, together with the test of what is left, stays the same
abbrev pub invariant-loop-id : goal.invariant-loop-id
invariant-loop-id l =
    let left = l.id-iterator.a.rest.now in
    (l.id-iterator.b.rest.now ≡ drop 1 left) × (l.ok && rises left ≡ rises l.ids)
