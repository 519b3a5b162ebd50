-- The parts of a field: whether it was read, its value and the place behind it; 0 and the first place of the text where it was not.
use Rattle.std.specs.Prelude.{ℕ, Bool, true, false, Option, Some, None}

abbrev pub parts : {V : Type 0} → Option (V × ℕ) → V → Bool × V × ℕ
parts (Some (v, e)) zero = (true, v, e)
parts None zero = (false, zero, 0)
