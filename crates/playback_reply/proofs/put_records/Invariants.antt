-- The texts of the first i records are laid down, and the place is behind them.
use Rattle.std.proofs.Common.{◌≡◌, ◌+◌, length}
use Rattle.area.specs.Laid.{laid}
use Rattle.playback_reply.specs.Reply.{record_lines}
use Rattle.playback_reply.proofs.put_records.Given as goal

abbrev pub invariant-loop-i : goal.invariant-loop-i
invariant-loop-i l =
    (l.place ≡ l.at + length (record_lines l.i l.area)) × (l.out ≡ laid l.fn.out l.at (record_lines l.i l.area))
