-- The text to play lies within the buffer, its reply has room in the output, and turns lead from where the playback stood to where it
-- stands.
use Rattle.std.proofs.Common.{length}
use Rattle.node.specs.Held.{held}
use Rattle.node.specs.View.{lent, SameStores}
use Rattle.playback_cursor.specs.Cut.{Lies}
use Rattle.playback.specs.Run.{standing, Turns}
use Rattle.playback.proofs.play_lines.Given as goal

abbrev pub invariant-loop-turn : goal.invariant-loop-turn
invariant-loop-turn l =
    let i = l.initial in
    Lies l.buf (length l.out) l.cursor
    × SameStores i.stores l.stores
    × Turns l.mode.mixed l.mode.acknowledging (standing (held i.state) (lent i.stores) i.area i.buf i.out i.cursor) l.turn
    (standing (held l.state) (lent l.stores) l.area l.buf l.out l.cursor)
