-- Laws on the start of a window: window × length before the end of the bucket that closes it, and never before time 0.
use mathlib.Core.Path.{◌≡◌, ap}
use Prim.Native.Nat.{ℕ, ◌+◌, ◌-◌, ◌*◌, ◌≤◌}
use native.Mathlib.Omega.{arith}
use Rattle.clock.specs.Buckets.{bucket_end}
use Rattle.clock.specs.Windows.{window_start}

-- a claim of its own, in the document's words: a window has its length, where it does not begin at time 0
pub window_start_end : (bucket window j : ℕ) → window ≤ j + 1 → window_start bucket window j + window * bucket ≡ bucket_end bucket j
unfolding window_start bucket_end
window_start_end bucket window j h =
    let e : (j + 1 - window) + window ≡ j + 1 = omega arith in
    let p : ((j + 1 - window) + window) * bucket ≡ (j + 1) * bucket = ap (λ (k : ℕ). k * bucket) e in
    omega arith

pub window_start_early : (bucket window j : ℕ) → j + 1 ≤ window → window_start bucket window j ≡ 0
unfolding window_start
window_start_early bucket window j h =
    let e : j + 1 - window ≡ 0 = omega arith in
    rw e (omega arith)
