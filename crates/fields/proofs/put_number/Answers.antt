-- `fields::put_number` meets its contract: the key and behind it the number are one run of bytes.
use Rattle.std.proofs.Common.{◌∙◌, arith, w64}
use Rattle.std.proofs.lemmas.Int.{to_z-of_z}
use Rattle.area.proofs.Laid.{laid_laid}
use Rattle.fields.proofs.put_number.Goals as goal

pub returns-clause-out_after : goal.returns-clause-out_after
returns-clause-out_after g c =
    let p = c.put_bytes-place in
    let d = rw (to_z-of_z w64 c.widen.result (record { sfits = omega arith })) at c.put_decimal.ensures.out_after in
    d ∙ rw (p.ensures.out_after, ← c.widen.ensures) (laid_laid _ _ _ _ _ p.ensures.value)
