-- The readings of a bucket, in the order inside it (document 01, section 'Buckets and the operator').
use Rattle.std.specs.Prelude.{ℕ, suc, Bool, cond, List, [], ◌∷◌, ◌++◌, map, ltb, eqb}
use Rattle.clock.specs.Buckets.{bucket_of}
use Rattle.store.specs.Lists.{keep}
use Rattle.store.specs.declared.Reading.{Reading}

-- a reading with the number of the line that it came in by
pub record Placed : Type 0 where
  pub line : ℕ
  pub reading : Reading

-- the order: time, then line, then id
unfoldable pub before : Placed → Placed → Bool
before a b =
    cond (eqb a.reading.time.0 b.reading.time.0)
    (cond (eqb a.line b.line) (ltb a.reading.id b.reading.id) (ltb a.line b.line))
    (ltb a.reading.time.0 b.reading.time.0)

unfoldable pub insert : Placed → List Placed → List Placed
insert r [] = r ∷ []
insert r (x ∷ xs) = cond (before r x) (r ∷ x ∷ xs) (x ∷ insert r xs)

unfoldable pub sort : List Placed → List Placed
sort [] = []
sort (x ∷ xs) = insert x (sort xs)

-- a reading's bucket is j
unfoldable pub is_in : ℕ → ℕ → Reading → Bool
is_in length j r = eqb (bucket_of length r.time) j

-- bucket j's readings of the lines numbered from n on, line by line
unfoldable pub gather : ℕ → ℕ → ℕ → List (List Reading) → List Placed
gather length j n [] = []
gather length j n (kept ∷ lines) =
    map (λ (r : Reading). record { line = n; reading = r }) (keep (is_in length j) kept) ++ gather length j (suc n) lines

-- bucket j's readings of all lines, in order
unfoldable pub in_bucket : ℕ → ℕ → List (List Reading) → List Placed
in_bucket length j lines = sort (gather length j 1 lines)
