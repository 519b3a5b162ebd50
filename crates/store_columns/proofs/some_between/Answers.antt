use Rattle.std.proofs.Common.{◌≡◌, ◌∙◌, ◌⊎◌, nat_le, ◌&&◌, length, sym, rules}
use mathlib.Core.Bool.{or-false}
use Rattle.store_columns.proofs.Tests.{none_left}
use Rattle.store_columns.proofs.some_between.Goals as goal

pub returns : goal.returns
returns c =
    let it = c.loop-time.time-iterator in
    let left : (length it.a.rest.now ≡ 0) ⊎ (length it.b.rest.now ≡ 0) = search rules in
    let none = none_left (λ t a. nat_le c.args.first.0 t && nat_le a c.args.latest.0) it.a.rest.now it.b.rest.now left in
    sym (or-false c.loop-time.found) ∙ (rw none at c.loop-time.invariant)
