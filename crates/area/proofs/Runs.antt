-- A run of bytes laid over an area: the place behind it, and the area with it.
use mathlib.Core.Path.{◌≡◌, ap, ◌∙◌}
use mathlib.Core.List.{List}
use Prim.Native.Nat.{ℕ, ◌+◌}
use native.Mathlib.Nat.{zero-add}
use lib.ListN.{length}
use Rattle.area.specs.Laid.{laid}
use Rattle.area.proofs.Laid.{length_laid}

-- a run t laid over an area from a place on: the place e behind it, and the area m with it
abbrev pub LaidTo : List ℕ → ℕ → List ℕ → ℕ → List ℕ → Type 0
LaidTo l at t e m = (e ≡ at + length t) × (m ≡ laid l at t)

-- the area is as long as before
pub length_laid_to : (l t m : List ℕ) (at e : ℕ) → LaidTo l at t e m → length m ≡ length l
length_laid_to l t m at e p = ap length p.1 ∙ length_laid l at t

-- from the first place on
pub laid_to_front : (l t m : List ℕ) (e : ℕ) → LaidTo l 0 t e m → (e ≡ length t) × (m ≡ laid l 0 t)
laid_to_front l t m e p = (p.0 ∙ zero-add (length t), p.1)
