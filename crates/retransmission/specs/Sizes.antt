-- Sizes of the send-back store (document 02, W2).
use Rattle.std.specs.Prelude.{ℕ, ◌*◌}
use Rattle.record.specs.Sizes.{record_bytes}

-- stable results that the store has places for
abbrev pub held_results : ℕ
held_results = 512

-- bytes of a store that no call is refused for
abbrev pub held_bytes : ℕ
held_bytes = held_results * record_bytes

-- results that one fetch gives at most
abbrev pub fetch_limit : ℕ
fetch_limit = 64
