-- What the steps keep the search keeps.
use Rattle.std.proofs.Common.{arith, sym, subst, length}
use Rattle.playback_cursor.specs.declared.Cursor.{Cursor}
use Rattle.playback_cursor.specs.Cut.{Fetched}
use Rattle.playback_cursor.proofs.Turns.{searched_none, searched_more, further_fetched, further_endless}
use Rattle.playback_cursor.proofs.fetch.Goals as goal

pub loop-turn-init : goal.loop-turn-init
loop-turn-init c = searched_none c.args.cursor c.args.buf.now (length c.args.out.now) c.requires

pub advance-cursor-requires : goal.advance-cursor-requires
advance-cursor-requires c = c.loop-turn.invariant.0.ready

pub returns-then-cursor : goal.returns-then-cursor
returns-then-cursor c =
    let l = c.loop-turn in
    further_fetched c.args.cursor c.args.buf.now (length c.args.out.now) l.cursor l.buf l.invariant.0
    c.args.opened c.advance-cursor.result c.advance-cursor.new.buf l.auto.buf (c.advance-cursor.ensures.found c.if-cursor.true)

pub loop-turn-preserved : goal.loop-turn-preserved
loop-turn-preserved c =
    let l = c.loop-turn in
    let g = c.advance-cursor.ensures.further c.if-cursor.false in
    searched_more c.args.cursor c.args.buf.now (length c.args.out.now) l.cursor l.buf l.turn l.invariant
    c.advance-cursor.result c.advance-cursor.new.buf g.0 g.1

pub returns : goal.returns
returns c =
    let l = c.loop-turn in
    subst
    (λ (r : Cursor). Fetched c.args.opened c.args.cursor c.args.buf.now r l.buf (length c.args.out.now))
    (sym c.ended.ensures)
    (further_endless c.args.cursor c.args.buf.now (length c.args.out.now) l.cursor l.buf l.invariant.0
    c.args.opened (omega (arith, l.invariant.1)) (omega (arith, l.auto.buf)))
