-- `settings::within_limits` meets its contract: each test is the definition's, and they are made one behind the other.
use Rattle.std.proofs.Common.{arith, rules, ◌≡◌, ◌&&◌, Bool, leb, w32, SFits}
use Rattle.std.proofs.lemmas.Grind.{common_steps}
use mir.Facts.{to_z-of_z}
use Rattle.settings.specs.Limits.{within_limits}
use Rattle.settings.proofs.within_limits.Goals as goal
use Rattle.settings.proofs.within_limits.Goals.{then-contains, else-contains, then-contains-2, else-contains-2, then-contains-3, else-contains-3, then-s-le-MAX_HOLD, else-s-le-MAX_HOLD}

pub returns-else-s : goal.returns-else-s
unfolding within_limits
returns-else-s c =
    let s = c.args.s in
    let lines : Bool = leb 1 s.lines && leb s.lines 8 in
    let bucket : Bool = leb 100 s.bucket && leb s.bucket 36_000 in
    let window : Bool = leb 1 s.window && leb s.window 16 in
    let t1 : c.if-contains.value ≡ (lines && bucket) =
    elim c.if-contains.branch [ then-contains w ↦ grind (arith, common_steps) | else-contains w ↦ grind (arith, common_steps) ] in
    let t2 : c.if-contains-2.value ≡ ((lines && bucket) && window) =
    elim c.if-contains-2.branch [ then-contains-2 w ↦ grind (arith, common_steps) | else-contains-2 w ↦ grind (arith, common_steps) ] in
    let t3 : c.if-contains-3.value ≡ (((lines && bucket) && window) && leb s.hold 864_000) =
    elim c.if-contains-3.branch [ then-contains-3 w ↦ grind (arith, common_steps) | else-contains-3 w ↦ grind (arith, common_steps) ] in
    let low : SFits w32 s.low = search rules in
    let high : SFits w32 s.high = search rules in
    elim c.if-s-le-MAX_HOLD.branch [ then-s-le-MAX_HOLD w ↦ grind (arith, common_steps, to_z-of_z low, to_z-of_z high) | else-s-le-MAX_HOLD w ↦ grind (arith, common_steps) ]
