-- Bytes of the form, with room for their numbers, are read back as the record that they are of.
use mathlib.Core.Path.{◌≡◌, ◌∙◌, ap}
use native.Mathlib.Omega.{arith}
use Rattle.endian.specs.LittleEndian.{little_endian}
use Rattle.record.specs.declared.Record.{Record}
use Rattle.record.specs.Layout.{bytes_of}
use Rattle.record.specs.Fields.{word_at, fields_of}
use Rattle.record.proofs.BytesOf.{fields_of_bytes_of}
use Rattle.consistency.specs.Runs.{read_as, record_in}
use Rattle.consistency.specs.Plain.{HasForm, HasRoom}
use Rattle.consistency.proofs.Forms.{decoded_form, bare}

fields_back : (r : Record) → HasRoom r → fields_of (bytes_of r) ≡ r
unfolding fields_of bytes_of word_at little_endian
fields_back r h =
    let e =
    fields_of_bytes_of (bare r)
    (record {
      kind = omega arith;
      meter = omega arith;
      id = h.id;
      time = h.time;
      count = h.count;
      sum = h.sum;
      mean = h.mean;
      last = h.last;
    }) in
    λ i.
    record {
      sum = (e i).sum;
      id = (e i).id;
      time = (e i).time;
      count = (e i).count;
      mean = (e i).mean;
      last = (e i).last;
      kind = r.kind;
      meter = r.meter;
    }

pub room_back : (r : Record) → HasForm (bytes_of r) × HasRoom r → record_in (bytes_of r) ≡ r
unfolding record_in read_as
room_back r (form, room) = ap read_as (decoded_form (bytes_of r) form) ∙ fields_back r room
