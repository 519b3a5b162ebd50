-- No text of a record is longer than 123 bytes, and one is as long: by how many digits the greatest number of each width has.
use mathlib.Core.Path.{◌≡◌, refl}
use Prim.Native.Nat.{◌≤◌}
use native.Mathlib.Omega.{arith}
use lib.IntN.{negsuc}
use lib.ListN.{length, length-append}
use Rattle.decimal.specs.Decimal.{digits_within, digits, decimal}
use Rattle.decimal.proofs.Decimals.{unsigned32_short, unsigned8_short, decimal32_short, decimal64_short}
use Rattle.fields.specs.Line.{field, line_of}
use Rattle.record.specs.Within.{Within}
use Rattle.record.specs.declared.Record.{Record}
use Rattle.record_text.specs.Sizes.{longest_record_text}
use Rattle.record_text.specs.RecordText.{record_text}
use Rattle.record_text.specs.Parts.{text_head, text_tail}
use Rattle.record_text.proofs.RecordText.{record_text_parts}

head_short : (r : Record) → Within r → length (text_head r) ≤ 46
unfolding text_head
head_short r w = simp length-append
    (omega (
      arith,
      unsigned32_short r.id w.id,
      unsigned32_short r.time.0 w.time,
      unsigned8_short r.meter w.meter,
    ))

tail_short : (r : Record) → Within r → length (text_tail r) ≤ 77
unfolding text_tail
tail_short r w = simp length-append
    (omega (
      arith,
      unsigned32_short r.count w.count,
      decimal64_short r.sum (record { sfits = w.sum }),
      decimal32_short r.mean (record { sfits = w.mean }),
      decimal32_short r.last (record { sfits = w.last }),
    ))

pub text_short : (r : Record) → Within r → length (record_text r) ≤ longest_record_text
text_short r w = rw (record_text_parts r, length-append) (omega (arith, head_short r w, tail_short r w))

-- a claim of its own: the greatest unsigned numbers and the least signed ones have a text as long as the bound
abbrev pub longest : Record
longest =
    record {
      kind = 83;
      meter = 255;
      id = 4294967295;
      time = record { 0 = 4294967295 };
      count = 4294967295;
      sum = negsuc 9223372036854775807;
      mean = negsuc 2147483647;
      last = negsuc 2147483647;
    }

pub within_longest : Within longest
within_longest =
    record {
      kind = omega arith;
      meter = omega arith;
      id = omega arith;
      time = omega arith;
      count = omega arith;
      sum = omega arith;
      mean = omega arith;
      last = omega arith;
    }

pub text_longest : length (record_text longest) ≡ longest_record_text
unfolding record_text field line_of decimal digits digits_within
text_longest = refl
