-- Bytes are read exactly: as a record if they are that record's bytes and its kind is one that records have, and else as none.
-- By the one test of the form: where it holds the fields are there and back, where it fails nothing is read.
use mathlib.Core.Path.{◌≡◌, refl, sym, ap, subst, ◌∙◌}
use mathlib.Core.Bool.{true, false, and-eq-true_iff}
use mathlib.Core.List.{List}
use Rattle.std.specs.Prelude.{Option, Some, None}
use Prim.Native.Nat.{ℕ}
use native.Mathlib.Omega.{arith}
use lib.ListN.{length, get_or}
use borrow.Author.Tests.{eqb-true}
use Rattle.endian.proofs.LittleEndian.{AreBytes}
use Rattle.record.specs.declared.Record.{Record}
use Rattle.record.specs.Kinds.{is_record}
use Rattle.record.specs.Layout.{bytes_of}
use Rattle.record.specs.Fields.{fields_of}
use Rattle.answer.specs.Numbers as Answer
use Rattle.record.specs.Decoded.{is_well_formed, decoded, decoded_answer, ExactRecord}
use Rattle.record.specs.Within.{Within}
pub use Rattle.record.proofs.Form.{well_formed}
use Rattle.record.proofs.BytesOf.{length_bytes_of, fields_of_bytes_of, bytes_of_fields_of, within_fields_of}

pub decoded_well : (b : List ℕ) → is_well_formed b ≡ true → decoded b ≡ Some (fields_of b)
unfolding decoded
decoded_well b e = rw e

pub decoded_ill : (b : List ℕ) → is_well_formed b ≡ false → decoded b ≡ None
unfolding decoded
decoded_ill b e = rw e

-- ---- a record's bytes are read as the record

well_formed_bytes_of : (r : Record) → is_record r.kind ≡ true → is_well_formed (bytes_of r) ≡ true
unfolding bytes_of
well_formed_bytes_of r k = well_formed (bytes_of r) (length_bytes_of r) k refl refl

pub decoded_bytes_of : (r : Record) → Within r → is_record r.kind ≡ true → decoded (bytes_of r) ≡ Some r
decoded_bytes_of r w k = decoded_well (bytes_of r) (well_formed_bytes_of r k) ∙ ap Some (fields_of_bytes_of r w)

-- ---- and nothing else is

-- what the test of the form says
pub well_formed_only :
    (b : List ℕ) → is_well_formed b ≡ true → (length b ≡ 32) × (is_record (get_or b 0 0) ≡ true) × (get_or b 2 0 ≡ 0) × (get_or b 3 0 ≡ 0)
unfolding is_well_formed
well_formed_only b e =
    let size = (and-eq-true_iff _ _).0 e in
    let kind = (and-eq-true_iff _ _).0 size.1 in
    let zeros = (and-eq-true_iff _ _).0 kind.1 in
    (eqb-true _ _ size.0, kind.0, eqb-true _ _ zeros.0, eqb-true _ _ zeros.1)

pub decoded_only :
    (b : List ℕ) (r : Record) → AreBytes b → decoded b ≡ Some r → (b ≡ bytes_of r) × Within r × (is_record r.kind ≡ true)
unfolding fields_of
decoded_only b r h e =
    (elim (is_well_formed b) as (λ t. is_well_formed b ≡ t → (b ≡ bytes_of r) × Within r × (is_record r.kind ≡ true)) [
      | true ↦ λ t.
          let d = decoded_well b t in
          let same : fields_of b ≡ r = cc in
          let (size, kind, third, fourth) = well_formed_only b t in (
            sym (bytes_of_fields_of b h size third fourth) ∙ ap bytes_of same,
            subst Within same (within_fields_of b h size),
            ap (λ (x : Record). is_record x.kind) (sym same) ∙ kind,
          )
      | false ↦ λ t. let d = decoded_ill b t in let z : ◌≡◌ {A = ℕ} 0 1 = cc in absurd (omega arith)
    ])
    refl

-- ---- both

read_only :
    (b : List ℕ) → AreBytes b → (d : Option Record) → decoded b ≡ d → (decoded_answer d ≡ Answer.malformed → ⊥) →
    (r : Record) × Within r × (is_record r.kind ≡ true) × (b ≡ bytes_of r)
unfolding decoded_answer
read_only b h (Some r) e some = let (whole, within, kind) = decoded_only b r h e in (r, within, kind, whole)
read_only b h None e some = absurd (some refl)

pub exact_record : (b : List ℕ) (answer : Option Record) → AreBytes b → answer ≡ decoded b → ExactRecord b answer
exact_record b answer h is =
    rw is
    (record {
      whole = λ r within kind e. ap decoded e ∙ decoded_bytes_of r within kind;
      only = read_only b h (decoded b) refl;
    })

-- for the decoder
pub ruleset decoding = (well_formed_only, exact_record)
