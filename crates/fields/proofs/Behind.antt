-- One byte stored behind a run of bytes makes a longer run.
use mathlib.Core.Path.{◌≡◌, sym, ap, ◌∙◌}
use mathlib.Core.List.{List, [], ◌∷◌, ◌++◌}
use Prim.Native.Nat.{ℕ, ◌+◌}
use native.Mathlib.Omega.{arith}
use lib.ListN.{length, set, length-append}
use Rattle.area.specs.Laid.{laid}
use Rattle.area.proofs.Laid.{laid_one, laid_laid}

pub laid_behind :
    (l m t : List ℕ) (at e b : ℕ) → e ≡ at + length t → m ≡ laid l at t →
    (e + 1 ≡ at + length (t ++ b ∷ [])) × (set m e b ≡ laid l at (t ++ b ∷ []))
laid_behind l m t at e b q p = (
  omega (arith, length-append t (b ∷ [])),
  sym (laid_one m e b) ∙ ap (λ (x : List ℕ). laid x e (b ∷ [])) p ∙ laid_laid l at e t (b ∷ []) q,
)
