use Rattle.std.proofs.Common.{◌∙◌, ◌≡◌, ◌*◌, ◌-◌, ◌≤◌, ◌&&◌, nat_le, rules}
use Rattle.store_columns.specs.Tests.{some_of_both}
use Rattle.store_columns.proofs.LateDue.{some_late_due}
use Rattle.store_columns.proofs.some_due.Goals as goal

pub returns-clause-value : goal.returns-clause-value
returns-clause-value c =
    let a = c.args in
    let first : c.in-Ok.first ≡ a.p * a.bucket = search rules in
    let latest : c.in-Some.latest ≡ a.tick.0 - a.hold = search rules in
    let held : a.hold ≤ a.tick.0 = search rules in
    let told : c.some_between.result ≡ some_of_both (λ t s. nat_le c.in-Ok.first t && nat_le s c.in-Some.latest) a.times.now a.arrivals.now = search rules in
    (rw (first, latest) at told) ∙ some_late_due a.bucket a.p a.hold a.tick a.times.now a.arrivals.now c.requires held
