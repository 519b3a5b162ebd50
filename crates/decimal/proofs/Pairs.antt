-- A value that was read and the place behind it: both are those of an equal pair.
use mathlib.Core.Path.{◌≡◌, ap}
use Prim.Native.Nat.{ℕ}
use Rattle.std.specs.Prelude.{Option, Some}

module _ {V : Type 0} where
  pub same_read : (v w : V) (e f : ℕ) → ◌≡◌ {A = Option (V × ℕ)} (Some (v, e)) (Some (w, f)) → (v ≡ w) × (e ≡ f)
  same_read v w e f q =
      let p : ◌≡◌ {A = V × ℕ} (v, e) (w, f) = cc in
      (ap (λ (r : V × ℕ). r.0) p, ap (λ (r : V × ℕ). r.1) p)
