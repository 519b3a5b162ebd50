-- The kinds of records, by their letter's byte (document 01, sections 'Buckets and the operator' and 'From the opening on').
use Rattle.std.specs.Prelude.{ℕ, Bool, ◌||◌, eqb}

-- S: a stable result
unfoldable pub is_stable : ℕ → Bool
is_stable kind = eqb kind 83

-- T: a tentative result
unfoldable pub is_tentative : ℕ → Bool
is_tentative kind = eqb kind 84

-- S or T
unfoldable pub is_result : ℕ → Bool
is_result kind = is_stable kind || is_tentative kind

-- S, T, U (undo), B (boundary) or R (corrections done)
unfoldable pub is_record : ℕ → Bool
is_record kind = is_result kind || (eqb kind 85 || (eqb kind 66 || eqb kind 82))
