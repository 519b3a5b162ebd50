-- Which values the operator counts, as an order on numbers: from low to high, both among them.
use mathlib.Core.Path.{◌≡◌, refl, sym, subst}
use mathlib.Core.Bool.{Bool, true, false, ◌&&◌}
use mathlib.Core.Logic.{◌↔◌}
use lib.Dec.{T}
use lib.IntN.{ℤ}
use lib.Signed.{le_z, ◌≤ℤ◌, le_z_yes}
use Rattle.settings.specs.declared.Settings.{Settings}
use Rattle.operator_meter.specs.Values.{is_counted}

both : (a b : Bool) → (a && b ≡ true) ↔ (T a × T b)
both true b = (λ e. (tt, subst T (sym e) tt), λ h. holds b h.1)
  where
    holds : (b : Bool) → T b → b ≡ true
    holds true h = refl
    holds false h = absurd h
both false b = (λ e. absurd (subst T (sym e) tt), λ h. absurd h.0)

pub counted_within : (s : Settings) (v : ℤ) → (is_counted s v ≡ true) ↔ ((s.low ≤ℤ v) × (v ≤ℤ s.high))
unfolding is_counted
counted_within s v = (
  λ e. let h : T (le_z s.low v) × T (le_z v s.high) = (both (le_z s.low v) (le_z v s.high)).0 e in (le_z_yes h.0, le_z_yes h.1),
  λ h. (both (le_z s.low v) (le_z v s.high)).1 (h.0.le, h.1.le),
)
