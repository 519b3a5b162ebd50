-- The product of two numbers of 32 bits, the first of which may be one more than the largest, leaves room in 64.
use Prim.Native.Nat.{ℕ, ◌-◌, ◌*◌, ◌<◌, ◌≤◌, ◌^◌}
use native.Mathlib.Nat.{mul-le-mul}
use native.Mathlib.Omega.{arith}

pub product_le : (a b : ℕ) → a ≤ 2 ^ 32 → b < 2 ^ 32 → a * b ≤ 2 ^ 32 * (2 ^ 32 - 1)
product_le a b h k = mul-le-mul {n₂ = 2 ^ 32} {m₂ = 2 ^ 32 - 1} h (omega arith)
