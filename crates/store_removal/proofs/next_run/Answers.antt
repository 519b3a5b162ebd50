-- `store_removal::next_run` meets its contract: both places lie within the share.
use Rattle.std.proofs.Common.{true, false, arith}
use Rattle.store_places.specs.Places.{is_time_of}
use Rattle.store_places.proofs.FirstPlaces.{first_within}
use Rattle.store_removal.proofs.next_run.Goals as goal

pub next_out-next-requires : goal.next_out-next-requires
next_out-next-requires c =
    let a = c.args in
    let until = first_within (is_time_of true a.bucket a.j) a.from a.end a.store.now.times.now c.requires.1 in
    (c.requires.0, omega (arith, until, c.next_in-until.ensures), c.requires.2)

pub returns-clause-within : goal.returns-clause-within
returns-clause-within c =
    let a = c.args in
    let until = first_within (is_time_of true a.bucket a.j) a.from a.end a.store.now.times.now c.requires.1 in
    let next = first_within (is_time_of false a.bucket a.j) c.next_in-until.result a.end a.store.now.times.now
    (omega (arith, until, c.next_in-until.ensures)) in
    omega (arith, until, next, c.next_in-until.ensures, c.next_out-next.ensures)
