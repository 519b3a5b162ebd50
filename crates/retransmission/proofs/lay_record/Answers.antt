-- `retransmission::lay_record` meets its contract: the fields that are read are laid down as a record.
use Rattle.std.proofs.Common.{◌≡◌, ◌∙◌, ap, ◌+◌, ◌-◌, ℕ, take, drop, arith}
use Rattle.area.specs.Laid.{laid}
use Rattle.record.specs.declared.Record.{Record}
use Rattle.record.specs.Sizes.{record_bytes}
use Rattle.record.specs.Layout.{bytes_of}
use Rattle.record.specs.Fields.{fields_of}
use Rattle.retransmission.proofs.Fetching.{record_there}
use Rattle.retransmission.proofs.lay_record.Goals as goal

pub returns : goal.returns
returns c =
    let a = c.args in
    let size : a.from + record_bytes - a.from ≡ record_bytes = omega arith in
    record_there a.area.now c.put_record.new.out c.fields_of-held.result a.to c.requires.1 c.put_record.ensures ∙
    ap (λ (r : Record). laid a.area.now a.to (bytes_of r))
    (c.fields_of-held.ensures ∙ ap (λ (m : ℕ). fields_of (take m (drop a.from a.sent.now))) size)
