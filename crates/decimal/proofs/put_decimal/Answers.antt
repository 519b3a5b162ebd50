-- `decimal::put_decimal` meets its contract: a minus where the number is below zero, and the digits of its magnitude.
use Rattle.std.proofs.Common.{◌≡◌, ◌+◌, refl, sym, ap, ◌∙◌, ℕ, ℤ, pos, ◌∷◌, length, arith, true, false, FitsSigned, to_z, of_z, w64}
use lib.ListN.{length-set}
use lib.IntN.{nat_abs}
use lib.Signed.{lt_z}
use mir.Facts.{to_z-of_z}
use Rattle.area.specs.Laid.{laid}
use Rattle.decimal.specs.Decimal.{digits, decimal}
use Rattle.decimal.proofs.Decimals.{decimal_below_zero, decimal_from_zero}
use Rattle.decimal.proofs.Filled.{laid_minus}
use Rattle.decimal.proofs.put_decimal.Goals as goal
use Rattle.decimal.proofs.put_decimal.Goals.{then-z-lt0, else-z-lt0}

-- the text by the branch
module _ (z : ℤ) (m : ℕ) (fits : FitsSigned w64 z) (told : m ≡ nat_abs (to_z w64 (of_z w64 z))) where
  below : lt_z (to_z w64 (of_z w64 z)) (pos 0) ≡ true → decimal z ≡ 45 ∷ digits m
  below is =
      decimal_below_zero z (rw (to_z-of_z fits) at is) ∙ ap (λ (n : ℕ). 45 ∷ digits n) (sym (told ∙ ap nat_abs (to_z-of_z fits)))

  from : lt_z (to_z w64 (of_z w64 z)) (pos 0) ≡ false → decimal z ≡ digits m
  from is = decimal_from_zero z (rw (to_z-of_z fits) at is) ∙ ap digits (sym (told ∙ ap nat_abs (to_z-of_z fits)))

-- behind the branch the digits make the text, and end where it does
text :
    (c : goal.After-put_digits-arg-1) →
    let ds = digits c.unsigned_abs-m.result in
    (c.if-z-lt0.place + length ds ≡ c.args.at + length (decimal c.args.z))
    × (length c.if-z-lt0.out ≡ length c.args.out.now)
    × (laid c.if-z-lt0.out c.if-z-lt0.place ds ≡ laid c.args.out.now c.args.at (decimal c.args.z))
text c =
    let a = c.args in
    let m = c.unsigned_abs-m in
    let ds = digits m.result in
    elim c.if-z-lt0.branch [
      | then-z-lt0 w ↦ rw (w.out-is, w.place-is, below a.z m.result c.ranges.z m.ensures.value w.if-z-lt0.true)
          (omega arith, length-set a.out.now a.at 45, laid_minus a.out.now a.at ds)
      | else-z-lt0 w ↦ rw (w.out-is, w.place-is, from a.z m.result c.ranges.z m.ensures.value w.if-z-lt0.false)
          (refl, refl, refl)
    ]

pub bounds-out-at : goal.bounds-out-at
bounds-out-at c = omega (arith, ap length (below _ _ c.ranges.z c.unsigned_abs-m.ensures.value c.if-z-lt0.true))

pub put_digits-requires : goal.put_digits-requires
put_digits-requires c = let t = text c in omega (arith, t.0, t.1)

pub returns-clause-value : goal.returns-clause-value
returns-clause-value c = c.put_digits.ensures.value ∙ (text c.before.before.before.before).0

pub returns-clause-out_after : goal.returns-clause-out_after
returns-clause-out_after c = c.put_digits.ensures.out_after ∙ (text c.before.before.before.before).2
