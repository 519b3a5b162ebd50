-- What bytes are read as, and that they are read exactly (document 01, sections 'Store and output area' and 'Refusal by whom').
use Rattle.std.specs.Prelude.{ℕ, ◌≡◌, Bool, true, cond, ◌&&◌, List, Option, Some, None, eqb, length, get_or}
use Rattle.answer.specs.Numbers as Answer
use Rattle.record.specs.Sizes.{record_bytes}
use Rattle.record.specs.Kinds.{is_record}
use Rattle.record.specs.Layout.{bytes_of}
use Rattle.record.specs.Within.{Within}
use Rattle.record.specs.Fields.{fields_of}
use Rattle.record.specs.declared.Record.{Record}

-- 32 bytes, of a kind that records have, with both zero bytes zero
unfoldable pub is_well_formed : List ℕ → Bool
is_well_formed b = eqb (length b) record_bytes && (is_record (get_or b 0 0) && (eqb (get_or b 2 0) 0 && eqb (get_or b 3 0) 0))

-- the record that these bytes are, or that they are none
unfoldable pub decoded : List ℕ → Option Record
decoded b = cond (is_well_formed b) (Some (fields_of b)) None

-- document 01's number of the answer
unfoldable pub decoded_answer : Option Record → ℕ
decoded_answer (Some r) = Answer.accepted
decoded_answer None = Answer.malformed

-- an answer is exact: the bytes of a record, of a kind that records have, are read as that record, and all other bytes get 6
pub record ExactRecord (b : List ℕ) (answer : Option Record) : Type 0 where
  pub whole : (r : Record) → Within r → is_record r.kind ≡ true → b ≡ bytes_of r → answer ≡ Some r
  pub only :
      (decoded_answer answer ≡ Answer.malformed → ⊥) → (r : Record) × Within r × (is_record r.kind ≡ true) × (b ≡ bytes_of r)
