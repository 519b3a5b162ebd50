-- `fields::put_letter` meets its contract: the key and behind it the letter are one run of bytes.
use Rattle.fields.proofs.Behind.{laid_behind}
use Rattle.fields.proofs.put_letter.Goals as goal

pub returns-clause-out_after : goal.returns-clause-out_after
returns-clause-out_after c =
    let a = c.args in
    let p = c.put_bytes-place in
    (laid_behind a.out.now p.new.out a.key.now a.at p.result a.letter p.ensures.value p.ensures.out_after).1
