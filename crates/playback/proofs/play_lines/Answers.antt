-- No turn before the first, and one more in each round of the loop.
use borrow.Author.Tests.{not-true, not-false}
use Rattle.std.proofs.Common.{arith, rules, sym, subst, ℕ}
use Rattle.playback_cursor.specs.Cut.{Lies}
use Rattle.playback.specs.Run.{Turns}
use Rattle.playback.proofs.Ended.{one_more, no_text, no_turn}
use Rattle.playback.proofs.play_lines.Goals as goal

pub loop-turn-init : goal.loop-turn-init
loop-turn-init c = (c.requires, search rules, Turns.none)

pub play_turn-cursor-requires : goal.play_turn-cursor-requires
play_turn-cursor-requires c = c.loop-turn.invariant.0

pub loop-turn-preserved : goal.loop-turn-preserved
loop-turn-preserved c =
    let p = c.play_turn-cursor in
    let l = c.loop-turn in (
      subst (λ (n : ℕ). Lies p.new.buf n p.result) (sym p.auto.out) p.ensures.turned.onward.lies,
      search rules,
      one_more _ l.invariant.2 (not-false _ c.if-not-cursor.false) p.ensures.turned,
    )

pub returns-then-not-cursor-clause-played : goal.returns-then-not-cursor-clause-played
returns-then-not-cursor-clause-played c = no_text c.loop-turn.invariant.2 (not-true _ c.if-not-cursor.true)

pub returns-clause-played : goal.returns-clause-played
returns-clause-played c = no_turn c.loop-turn.invariant.2 (omega arith)
