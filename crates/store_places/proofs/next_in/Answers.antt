-- `store_places::next_in` meets its contract: the bucket may start behind the last time; otherwise its times are those from its start to its
-- last time, and the blocks and the times that are passed hold none of them.
use Rattle.std.proofs.Common.{◌≡◌, ◌∙◌, ℕ, ◌-◌, ◌*◌, ◌^◌, ◌<◌, ◌≤◌, suc, min, true, false, List, length, get_or, take, drop, sym, add-one, length-take, arith, rules}
use Rattle.clock.specs.declared.ReadingTime.{ReadingTime}
use Rattle.clock.specs.Buckets.{bucket_end}
use Rattle.store.specs.Lists.{some_of}
use Rattle.store.specs.Parts.{share}
use Rattle.store_places.specs.Places.{first_place, is_time_of, is_from_to}
use Rattle.store_places.proofs.BucketTest.{range_test, late_bucket}
use Rattle.store_places.proofs.FirstPlaces.{first_none, first_here, first_next, first_nowhere, first_same, first_behind, take_within}
use Rattle.store_places.proofs.next_in.Goals as goal

-- the times from the first to the last are the bucket's
in_range :
    (times : List ℕ) (from end bucket j : ℕ) (first last : ReadingTime) → 0 < bucket → first.0 ≡ j * bucket →
    suc last.0 ≡ min (bucket_end bucket j) (2 ^ 32) → from ≤ end → end ≤ length times → ((i : ℕ) → get_or times i 0 < 2 ^ 32) →
    first_place (is_from_to first last) from end times ≡ first_place (is_time_of true bucket j) from end times
in_range times from end bucket j first last some starts ends h room fits =
    first_same 0 (is_from_to first last) (is_time_of true bucket j) times
    (λ i. range_test bucket j first last (get_or times i 0) some starts ends (fits i)) from end h room

pub returns-in_default : goal.returns-in_default
returns-in_default c =
    let a = c.args in
    let late : 2 ^ 32 ≤ a.j * a.bucket = search rules in
    sym
    (first_nowhere 0 (is_time_of true a.bucket a.j) a.times.now a.from a.end c.requires.1 c.requires.2
    (λ i. late_bucket a.bucket a.j (get_or a.times.now i 0) c.requires.0 late (omega (arith, c.type_inv.times i))))

pub loop-at-init : goal.loop-at-init
unfolding share
loop-at-init c =
    let a = c.args in
    let n : ℕ = c.pass_blocks.result in
    let first : ReadingTime = record { 0 = c.in-Ok.first } in
    let last : ReadingTime = record { 0 = c.unwrap_or-last.result } in
    let inside : n ≤ a.end - a.from = omega (arith, c.pass_blocks.ensures.0, length-take (a.end - a.from) (drop a.from a.times.now)) in
    let none : some_of (is_from_to first last) (take n (take (a.end - a.from) (drop a.from a.times.now))) ≡ false = c.pass_blocks.ensures.1 in
    sym (first_behind 0 (is_from_to first last) a.end a.times.now c.requires.2 n a.from (omega (arith, inside))
    (rw (take_within n (a.end - a.from) (drop a.from a.times.now) inside) at none))

pub returns-then-is_from_to : goal.returns-then-is_from_to
unfolding bucket_end
returns-then-is_from_to c =
    let a = c.args in
    let first : ReadingTime = record { 0 = c.in-Ok.first } in
    let last : ReadingTime = record { 0 = c.unwrap_or-last.result } in
    let starts : c.in-Ok.first ≡ a.j * a.bucket = search rules in
    let ends : suc c.unwrap_or-last.result ≡ min (bucket_end a.bucket a.j) (2 ^ 32) = search rules in
    sym (first_here 0 (is_from_to first last) a.end a.times.now c.requires.2 c.loop-at.at c.loop-at-test.true (sym c.is_from_to.ensures ∙ c.if-is_from_to.true))
    ∙ c.loop-at.invariant
    ∙ in_range a.times.now a.from a.end a.bucket a.j first last c.requires.0 starts ends c.requires.1 c.requires.2 (λ i. omega (arith, c.type_inv.times i))

pub loop-at-preserved : goal.loop-at-preserved
loop-at-preserved c =
    let a = c.args in
    let first : ReadingTime = record { 0 = c.in-Ok.first } in
    let last : ReadingTime = record { 0 = c.unwrap_or-last.result } in
    rw add-one
    (sym (first_next 0 (is_from_to first last) a.end a.times.now c.requires.2 c.loop-at.at c.loop-at-test.true
    (sym c.is_from_to.ensures ∙ c.if-is_from_to.false))
    ∙ c.loop-at.invariant)

pub returns : goal.returns
unfolding bucket_end
returns c =
    let a = c.args in
    let first : ReadingTime = record { 0 = c.in-Ok.first } in
    let last : ReadingTime = record { 0 = c.unwrap_or-last.result } in
    let starts : c.in-Ok.first ≡ a.j * a.bucket = search rules in
    let ends : suc c.unwrap_or-last.result ≡ min (bucket_end a.bucket a.j) (2 ^ 32) = search rules in
    sym (first_none 0 (is_from_to first last) a.end a.times.now c.requires.2 c.loop-at.at (omega arith)) ∙ c.loop-at.invariant
    ∙ in_range a.times.now a.from a.end a.bucket a.j first last c.requires.0 starts ends c.requires.1 c.requires.2 (λ i. omega (arith, c.type_inv.times i))
