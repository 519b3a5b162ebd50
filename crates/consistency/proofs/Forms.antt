-- A record's form and its numbers' room, in the statement's words and in those of specs/Plain.antt: bytes are read as a record exactly if
-- they have its form, and a record of that form is read off its own bytes exactly if its numbers have room in them.
use Prim.Native.Nat.{ℕ}
use mathlib.Core.Path.{◌≡◌, refl, sym, ◌∙◌, ap, subst}
use mathlib.Core.Bool.{true, false}
use mathlib.Core.List.{List}
use native.Mathlib.Omega.{arith}
use Rattle.std.specs.Prelude.{Some}
use Rattle.endian.specs.LittleEndian.{little_endian}
use Rattle.record.specs.declared.Record.{Record}
use Rattle.record.specs.Layout.{bytes_of}
use Rattle.record.specs.Fields.{word_at, fields_of}
use Rattle.record.specs.Markers.{marker}
use Rattle.record.specs.Decoded.{is_well_formed, decoded}
use Rattle.record.proofs.BytesOf.{length_bytes_of, are_bytes_bytes_of, within_fields_of}
use Rattle.record.proofs.Decoding.{well_formed, well_formed_only, decoded_well, decoded_ill}
use Rattle.consistency.specs.Runs.{read_as, record_in}
use Rattle.consistency.specs.Plain.{HasForm, HasRoom}

-- ---- the form

pub form_of : (b : List ℕ) → decoded b ≡ Some (record_in b) → HasForm b
form_of b e =
    (elim (is_well_formed b) as (λ t. is_well_formed b ≡ t → HasForm b) [
      | true ↦ λ t.
          let (size, letter, third, fourth) = well_formed_only b t in
          record { size = size; letter = letter; third = third; fourth = fourth }
      | false ↦ λ t. let d = decoded_ill b t in let z : ◌≡◌ {A = ℕ} 0 1 = cc in absurd (omega arith)
    ])
    refl

pub decoded_form : (b : List ℕ) → HasForm b → decoded b ≡ Some (fields_of b)
decoded_form b f = decoded_well b (well_formed b f.size f.letter f.third f.fourth)

pub form_read : (b : List ℕ) → HasForm b → decoded b ≡ Some (record_in b)
unfolding record_in read_as
form_read b f = decoded_form b f ∙ ap Some (sym (ap read_as (decoded_form b f)))

-- ---- the room

-- letter and meter stand in the bytes as they are, so that nothing of the others goes by them
abbrev pub bare : Record → Record
bare r =
    record { sum = r.sum; id = r.id; time = r.time; count = r.count; mean = r.mean; last = r.last; kind = 0; meter = 0 }

room_read : (r : Record) → HasRoom (fields_of (bytes_of r))
unfolding fields_of bytes_of word_at little_endian
room_read r =
    let w = within_fields_of (bytes_of (bare r)) (are_bytes_bytes_of (bare r) (omega arith) (omega arith)) (length_bytes_of (bare r)) in
    record { id = w.id; time = w.time; count = w.count; sum = w.sum; mean = w.mean; last = w.last }

room_none : HasRoom (marker 0 0 (record { 0 = 0 }))
unfolding marker
room_none =
    record { id = omega arith; time = omega arith; count = omega arith; sum = omega arith; mean = omega arith; last = omega arith }

pub room_of : (r : Record) → record_in (bytes_of r) ≡ r → HasRoom r
unfolding record_in read_as
room_of r e =
    (elim (is_well_formed (bytes_of r)) as (λ t. is_well_formed (bytes_of r) ≡ t → HasRoom r) [
      | true ↦ λ t. subst HasRoom (sym (ap read_as (decoded_well (bytes_of r) t)) ∙ e) (room_read r)
      | false ↦ λ t. subst HasRoom (sym (ap read_as (decoded_ill (bytes_of r) t)) ∙ e) room_none
    ])
    refl
