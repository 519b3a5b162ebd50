-- Whether a display is behind, so that there is something to acknowledge.
use Rattle.std.specs.Prelude.{ℕ, zero, suc, Bool, false, ◌||◌}
use Rattle.node.specs.Held.{Held}
use Rattle.playback_dispatch.specs.Dispatch.{is_behind}

-- one of the first n displays is
unfoldable pub some_behind : ℕ → Held → Bool
some_behind zero st = false
some_behind (suc n) st = some_behind n st || is_behind st n
