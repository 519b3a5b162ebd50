-- Tests in their order, each with its refusal's number.
use Rattle.std.specs.Prelude.{ℕ, Bool, cond, List, [], ◌∷◌}

-- a test that a call may fail, and the documents' number of that refusal
pub record Test : Type 0 where
  pub fails : Bool
  pub number : ℕ

-- the number of the first test that fails, 0 if none does
unfoldable pub first_failed : List Test → ℕ
first_failed [] = 0
first_failed (t ∷ ts) = cond t.fails t.number (first_failed ts)
