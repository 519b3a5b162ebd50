-- `fields::put_last` meets its contract: the field and behind it the 0A are one run of bytes.
use Rattle.std.proofs.Common.{w32, ◌++◌, ◌∷◌, [], append_assoc}
use Rattle.std.proofs.lemmas.Int.{to_z-of_z}
use Rattle.decimal.specs.Decimal.{decimal}
use Rattle.fields.proofs.Behind.{laid_behind}
use Rattle.fields.proofs.put_last.Goals as goal

pub returns-clause-out_after : goal.returns-clause-out_after
returns-clause-out_after c =
    let a = c.args in
    let p = c.put_number-end in
    let e = rw (to_z-of_z w32 a.value c.ranges.value) at p.ensures in
    rw (← append_assoc a.key.now (decimal a.value) (10 ∷ []))
    (laid_behind a.out.now p.new.out (a.key.now ++ decimal a.value) a.at p.result 10 e.value e.out_after).1
