-- `playback_cursor::lines_end` meets its contract: at the place that was found stands a 0A, and behind it none.
use Rattle.std.proofs.Common.{◌≡◌, ◌∙◌, ◌+◌, ◌-◌, ◌<◌, sym, ap, ℕ, length, take, eqb, arith}
use lib.Seq.{length-take-le, get_or-take}
use Rattle.fields.specs.Field.{ends_line}
use Rattle.playback_cursor.proofs.WholeLines.{none_after}
use Rattle.playback_cursor.proofs.lines_end.Goals as goal

pub returns-in-Some : goal.returns-in-Some
unfolding ends_line
returns-in-Some c =
    let s = c.args.s.now in
    let n = c.args.n in
    let at = c.in-Some.at in
    let f = c.in-Some.ensures in
    let size : length (take n s) ≡ n = length-take-le n s c.requires in
    let within : at < n = omega (arith, f.0.high, size) in
    let place : at + 1 - 1 ≡ at = omega arith in
    record {
      within = omega arith;
      ends = λ _. rw place (ap (λ (b : ℕ). eqb b 10) (sym (get_or-take n s at 0 within)) ∙ f.1);
      none = none_after s n (at + 1) c.requires (λ k q h e. f.0.after k q (omega (arith, h, size)) e);
    }

pub returns-in-None : goal.returns-in-None
returns-in-None c =
    let s = c.args.s.now in
    let n = c.args.n in
    let size : length (take n s) ≡ n = length-take-le n s c.requires in
    record {
      within = omega arith;
      ends = λ h. absurd (omega (arith, h));
      none = none_after s n 0 c.requires (λ k q h e. c.in-None.ensures k q (omega (arith, h, size)) e);
    }
