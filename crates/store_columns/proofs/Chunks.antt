-- A list's first chunks, joined again.
use Rattle.std.proofs.Common.{◌≡◌, ℕ, zero, suc, ◌+◌, ◌*◌, List, ◌++◌, take, drop, ap, arith}
use lib.Seq.{take-add}
use Rattle.std.specs.List.{concat}
use Rattle.std.specs.Simd.{first_chunks}

pub joined : (n k : ℕ) (xs : List ℕ) → concat (first_chunks n k xs) ≡ take (k * n) xs
joined n zero xs =
    let none : 0 * n ≡ 0 = omega arith in
    rw none
joined n (suc k) xs =
    let more : suc k * n ≡ n + k * n = omega arith in
    rw (more, take-add n (k * n) xs) (ap (λ (l : List ℕ). take n xs ++ l) (joined n k (drop n xs)))
