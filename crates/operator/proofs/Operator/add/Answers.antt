-- A place that is visited is in its line's share, so that its reading is there and is of a known meter; the next place of the bucket leads
-- to the same end, and so does the next line.
use Rattle.std.proofs.Common.{rules, arith, ◌≡◌, ◌+◌, ◌*◌, true, ◌≤◌, length, length-take, take, get_or, pos, ◌∙◌, SFits, w32, to_z-of_z}
use Rattle.settings.specs.Limits.{max_lines}
use Rattle.store.specs.Sizes.{readings_per_line}
use Rattle.store.specs.Lent.{columns}
use Rattle.store_places.specs.Places.{is_time_of}
use Rattle.store_places.proofs.FirstPlaces.{first_within}
use Rattle.operator_meter.specs.Bounds.{count_limit}
use Rattle.operator_meter.proofs.Bounds.{meters_ok}
use Rattle.operator.specs.Loaded.{operator_of}
use Rattle.operator.specs.Pass.{passing}
use Rattle.operator.proofs.Loaded.{length_meters}
use Rattle.operator.proofs.Pass.{started}
use Rattle.operator.proofs.Turns.{Turn, after_visit, visit_enters, visit_passes, turn_more, turn_skips}
use Rattle.operator.proofs.Turns.{lines_start, lines_more, lines_in_range, lines_end}
use Rattle.operator.proofs.Entered.{counted_at}
use Rattle.operator.proofs.KnownMeters.{all_lines, kept_told, line_few, share_in, place_below, in_times, in_values, in_meters, place_known}
use Rattle.operator.proofs.Operator.add.Goals.{Joined-inside-is_counted, then-inside-is_counted, else-inside-is_counted}
use Rattle.operator.proofs.Operator.add.Goals as goal

pub loop-i-init : goal.loop-i-init
unfolding started
loop-i-init c =
    let a = c.args in
    let r = a.readings.now in
    let o = operator_of a.self.now in
    lines_start a.s a.j r.times.now r.values.now r.meters.now (take a.s.lines a.kept) o (meters_ok o.meters c.requires.1.bounds)

pub bounds-readings-at : goal.bounds-readings-at
bounds-readings-at c =
    let all : length c.args.kept ≡ max_lines = search rules in in_times c.args.kept c.requires.0 c.requires.1 all c.loop-i-test.true c.loop-at-test.true

pub bounds-readings-at-in-loop-at : goal.bounds-readings-at-in-loop-at
bounds-readings-at-in-loop-at c =
    let all : length c.args.kept ≡ max_lines = search rules in in_values c.args.kept c.requires.0 c.requires.1 all c.loop-i-test.true c.loop-at-test.true

pub bounds-readings-at-then-inside-is_counted : goal.bounds-readings-at-then-inside-is_counted
bounds-readings-at-then-inside-is_counted c =
    let all : length c.args.kept ≡ max_lines = search rules in in_meters c.args.kept c.requires.0 c.requires.1 all c.loop-i-test.true c.loop-at-test.true

pub enter-requires : goal.enter-requires
enter-requires c =
    let all : length c.args.kept ≡ max_lines = search rules in
    let l = c.loop-at in
    let below = place_below c.args.kept c.requires.0 c.requires.1 all c.loop-i-test.true c.loop-at-test.true in
    let known = place_known c.args.kept c.requires.0 c.requires.1 all c.loop-i-test.true c.loop-at-test.true l.invariant.behind in
    let (count, range) = counted_at l.self (count_limit + l.at) _ known l.invariant.counted in
    (known, omega (arith, count, below), range)

pub next_in-at-requires : goal.next_in-at-requires
next_in-at-requires c =
    let all : length c.args.kept ≡ max_lines = search rules in
    (c.requires.1.bucket, omega (arith, c.loop-at-test.true), share_in c.args.kept c.requires.0 c.requires.1 all c.loop-i-test.true)

-- the pass has met the place
met :
    (c : Joined-inside-is_counted) →
    Turn c.args.s c.args.j c.args.readings.now.times.now c.args.readings.now.values.now c.args.readings.now.meters.now
    (passing c.loop-i.self c.loop-i.newest) (passing c.if-inside-is_counted.self c.if-inside-is_counted.newest) (c.loop-i.i * readings_per_line)
    (c.loop-at.at + 1) (c.loop-i.i * readings_per_line + get_or c.args.kept c.loop-i.i 0)
met c =
    let a = c.args in
    let r = a.readings.now in
    let l = c.loop-at in
    let all : length a.kept ≡ max_lines = search rules in
    let value : SFits w32 (get_or r.values.now l.at (pos 0)) = search rules in
    let p = passing l.self l.newest in
    let t = get_or r.times.now l.at 0 in
    let v = get_or r.values.now l.at (pos 0) in
    let m = get_or r.meters.now l.at 0 in
    let in_told = c.is_in-inside.ensures in
    let told = rw (to_z-of_z value) at c.is_counted.ensures in
    let visited : passing c.if-inside-is_counted.self c.if-inside-is_counted.newest ≡ after_visit a.s a.j p t v m =
    elim c.if-inside-is_counted.branch [
      | then-inside-is_counted w ↦
          (λ i. passing (w.self-is i) (w.newest-is i)) ∙ rw (to_z-of_z value) at w.enter.ensures ∙
          visit_enters a.s a.j p t v m _ _ in_told told w.if-inside-is_counted.true
      | else-inside-is_counted w ↦
          (λ i. passing (w.self-is i) (w.newest-is i)) ∙ visit_passes a.s a.j p t v m _ _ in_told told w.if-inside-is_counted.false
    ] in
    rw visited
    (turn_more a.s a.j r.times.now r.values.now r.meters.now (passing c.loop-i.self c.loop-i.newest) p (c.loop-i.i * readings_per_line) l.at _
    l.invariant c.loop-at-test.true (share_in a.kept c.requires.0 c.requires.1 all c.loop-i-test.true) value.sfits)

pub loop-at-preserved-then-inside : goal.loop-at-preserved-then-inside
loop-at-preserved-then-inside c = met c.before

pub loop-at-smaller : goal.loop-at-smaller
loop-at-smaller c =
    let a = c.args in
    let end = c.loop-i.i * readings_per_line + get_or a.kept c.loop-i.i 0 in
    let within = first_within (is_time_of true a.s.bucket a.j) (c.loop-at.at + 1) end a.readings.now.times.now (omega (arith, c.loop-at-test.true)) in
    omega (arith, c.next_in-at.ensures, within, c.loop-at-test.true)

pub loop-at-preserved : goal.loop-at-preserved
loop-at-preserved c =
    let a = c.args in
    let r = a.readings.now in
    let all : length a.kept ≡ max_lines = search rules in
    turn_skips a.s a.j r.times.now r.values.now r.meters.now (passing c.loop-i.self c.loop-i.newest)
    (passing c.if-inside-is_counted.self c.if-inside-is_counted.newest) (c.loop-i.i * readings_per_line) (c.loop-at.at + 1) _ (met c.before.before)
    c.next_in-at.result c.next_in-at.ensures (share_in a.kept c.requires.0 c.requires.1 all c.loop-i-test.true)

pub loop-i-preserved : goal.loop-i-preserved
loop-i-preserved c =
    let a = c.args in
    let r = a.readings.now in
    let all : length a.kept ≡ max_lines = search rules in
    let few = line_few a.kept c.requires.0 c.requires.1 all c.loop-i-test.true in
    let lines = all_lines a.kept c.requires.0 c.requires.1 all c.loop-i-test.true in
    let told = kept_told a.kept c.requires.0 c.requires.1 all c.loop-i-test.true in
    lines_more a.s a.j r.times.now r.values.now r.meters.now (take a.s.lines a.kept) (operator_of a.self.now) (passing c.loop-i.self c.loop-i.newest)
    c.loop-i.i c.loop-i.invariant (passing c.loop-at.self c.loop-at.newest) c.loop-at.at _ (omega (arith, lines, c.loop-i-test.true))
    (omega (arith, few, told)) (omega (arith, told)) c.loop-at.invariant (omega (arith, c.loop-at-test.false))

pub returns : goal.returns
returns c =
    let a = c.args in
    let r = a.readings.now in
    let o = operator_of a.self.now in
    let l = c.loop-i in
    let kept = take a.s.lines a.kept in
    let all : length a.kept ≡ max_lines = search rules in
    let lines : length kept ≤ l.i = omega (arith, length-take a.s.lines a.kept, c.loop-i-test.false) in (
      lines_in_range a.s a.j r.times.now r.values.now r.meters.now kept o (passing l.self l.newest) l.i l.invariant,
      lines_end a.s a.j (columns r) kept o (passing l.self l.newest) l.i l.invariant lines
          (length_meters a.self.now.counts a.self.now.sums a.self.now.lasts) c.requires.1.small,
    )
