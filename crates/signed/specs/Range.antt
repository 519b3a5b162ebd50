-- The range of a sum, which its mean needs to fit its width.
use Rattle.std.specs.Prelude.{ℕ, suc, ◌-◌, ◌*◌, ◌^◌, ◌≤◌, ℤ, pos, negsuc}

-- the sums that so many values of 32 bits can have: -2^31 × count to (2^31 - 1) × count
abbrev pub InRange : ℤ → ℕ → Type 0
InRange (pos a) count = a ≤ (2 ^ 31 - 1) * count
InRange (negsuc a) count = suc a ≤ 2 ^ 31 * count
