-- What a writer leaves: the number that it answers, and the output with the bytes laid over it.
use Rattle.std.specs.Prelude.{ℕ, ◌+◌, ◌≡◌, List, length}
use Rattle.area.specs.Laid.{laid, in_front}

-- bytes from a place on: it answers the place behind them
abbrev pub PutAt : List ℕ → ℕ → List ℕ → ℕ → List ℕ → Type 0
PutAt out at bytes r after = (r ≡ at + length bytes) × (after ≡ laid out at bytes)

-- bytes from the first place on: it answers how many
abbrev pub PutInFront : List ℕ → List ℕ → ℕ → List ℕ → Type 0
PutInFront out bytes r after = (r ≡ length bytes) × (after ≡ in_front bytes out)
