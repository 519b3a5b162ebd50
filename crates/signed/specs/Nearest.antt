-- How a quotient is rounded. That this is the one number that `IsNearest` means, and 0 of no values, are laws.
use Rattle.std.specs.Prelude.{ℕ, ◌+◌, ◌*◌, ◌/◌, ◌%◌, cond, ltb, eqb}

-- a divided by n to the nearest whole, a half to the even one: the quotient or the next, by twice the rest against n; 0 where n is 0
unfoldable pub nearest : ℕ → ℕ → ℕ
nearest a n =
    let q = a / n in
    let twice = 2 * (a % n) in
    cond (eqb n 0) 0 (cond (ltb twice n) q (cond (ltb n twice) (q + 1) (q + q % 2)))
