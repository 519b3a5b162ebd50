-- The texts of the first records of an area: one more behind those before, and none longer than the longest. By the number of records.
use mathlib.Core.Path.{◌≡◌, refl, ap}
use mathlib.Core.List.{List, [], ◌++◌, append_assoc, append-nil}
use Rattle.std.specs.Prelude.{Option, Some, None}
use Prim.Native.Nat.{ℕ, zero, suc, ◌+◌, ◌*◌, ◌≤◌}
use native.Mathlib.Omega.{arith}
use native.Mathlib.Numerals.{add-one}
use lib.ListN.{length, take, drop, length-append}
use lib.Seq.{drop-drop}
use Rattle.area.specs.Laid.{laid}
use Rattle.area.proofs.Laid.{laid_laid, laid_none}
use Rattle.endian.proofs.LittleEndian.{are_bytes_take, are_bytes_drop, AreBytes}
use Rattle.record.specs.Sizes.{record_bytes}
use Rattle.record.specs.declared.Record.{Record}
use Rattle.record.specs.Decoded.{decoded}
use Rattle.record.proofs.Decoding.{decoded_only}
use Rattle.record_text.specs.Sizes.{longest_record_text}
use Rattle.record_text.specs.RecordText.{text_of}
use Rattle.record_text.proofs.Longest.{text_short}
use Rattle.playback_reply.specs.Reply.{record_lines}

-- the text of a record's bytes is no longer than the longest
by_decoded : (b : List ℕ) → AreBytes b → (d : Option Record) → decoded b ≡ d → length (text_of d) ≤ longest_record_text
unfolding text_of
by_decoded b h (Some r) e = let (_, w, _) = decoded_only b r h e in text_short r w
by_decoded b h None e = omega arith

text_of_short : (b : List ℕ) → AreBytes b → length (text_of (decoded b)) ≤ longest_record_text
text_of_short b h = by_decoded b h (decoded b) refl

pub record_lines_short : (n : ℕ) (area : List ℕ) → AreBytes area → length (record_lines n area) ≤ n * longest_record_text
unfolding record_lines
record_lines_short zero area h = omega arith
record_lines_short (suc n) area h =
    omega (
      arith,
      length-append (text_of (decoded (take record_bytes area))) (record_lines n (drop record_bytes area)),
      text_of_short (take record_bytes area) (are_bytes_take record_bytes area h),
      record_lines_short n (drop record_bytes area) (are_bytes_drop record_bytes area h),
    )

-- one record more
pub record_lines_more : (n : ℕ) (area : List ℕ) → record_lines (suc n) area ≡ record_lines n area ++ text_of (decoded (take record_bytes (drop (n * record_bytes) area)))
unfolding record_lines
record_lines_more zero area = append-nil (text_of (decoded (take record_bytes area)))
record_lines_more (suc n) area =
    let first = text_of (decoded (take record_bytes area)) in
    let place : record_bytes + n * record_bytes ≡ suc n * record_bytes = omega arith in
    rw (← place, ← drop-drop (n * record_bytes) record_bytes area, append_assoc)
    (ap (λ (l : List ℕ). first ++ l) (record_lines_more n (drop record_bytes area)))

-- the texts of no records
pub record_lines_none : (area : List ℕ) → record_lines 0 area ≡ []
unfolding record_lines
record_lines_none area = refl

-- the text of a part of the area is no longer than the longest
pub part_short : (area : List ℕ) (start size : ℕ) → AreBytes area → length (text_of (decoded (take size (drop start area)))) ≤ longest_record_text
part_short area start size h = text_of_short (take size (drop start area)) (are_bytes_take size (drop start area) (are_bytes_drop start area h))

-- behind the texts of the first i records the text of the next, whose bytes are lent as a part of the area
module _ (area : List ℕ) (i start size : ℕ) (s : start ≡ i * record_bytes) (t : size ≡ record_bytes) where
  next : record_lines (i + 1) area ≡ record_lines i area ++ text_of (decoded (take size (drop start area)))
  next = rw (s, t, add-one) (record_lines_more i area)

  pub length_more : length (record_lines i area) + length (text_of (decoded (take size (drop start area)))) ≡ length (record_lines (i + 1) area)
  length_more = rw (next, length-append)

  pub laid_more :
      (l : List ℕ) (at e : ℕ) → e ≡ at + length (record_lines i area) →
      laid (laid l at (record_lines i area)) e (text_of (decoded (take size (drop start area)))) ≡ laid l at (record_lines (i + 1) area)
  laid_more l at e p = rw next (laid_laid l at e (record_lines i area) (text_of (decoded (take size (drop start area)))) p)

-- for the writer of the records' texts
pub ruleset records = (record_lines_none, laid_none, record_lines_short, part_short, length_more, laid_more)
