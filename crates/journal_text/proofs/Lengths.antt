-- The longest journal line of the form, and that its length is reached.
use mathlib.Core.Path.{◌≡◌, refl, ap}
use Prim.Native.Nat.{◌+◌, ◌-◌, ◌≤◌, ◌^◌}
use native.Mathlib.Omega.{arith}
use lib.IntN.{negsuc}
use lib.ListN.{length, length-append}
use Rattle.decimal.specs.Decimal.{digits_within, digits, decimal}
use Rattle.decimal.proofs.Decimals.{unsigned32_short, unsigned8_short, decimal32_short}
use Rattle.fields.specs.Line.{field, line_of}
use Rattle.journal_text.specs.Sizes.{longest_journal_line}
use Rattle.journal.specs.JournalLine.{line_text, CallFits}
use Rattle.journal.specs.JournalParts.{call_head, call_tail}
use Rattle.journal.specs.declared.Call.{Call}
use Rattle.journal.proofs.JournalLines.{text_parts}

pub journal_line_short : (c : Call) → CallFits c → length (line_text c) ≤ longest_journal_line
unfolding call_head call_tail
journal_line_short c fit =
    let size = simp length-append at (ap length (text_parts c)) in
    omega (
      arith,
      size,
      unsigned32_short c.now.0 fit.now,
      unsigned8_short c.line fit.line,
      unsigned32_short c.id fit.id,
      unsigned32_short c.time.0 fit.time,
      unsigned8_short c.meter fit.meter,
      decimal32_short c.value fit.value,
    )

-- so its two parts behind each other have room where the longest line has
pub parts_short : (c : Call) → CallFits c → length (call_head c) + length (call_tail c) ≤ longest_journal_line
parts_short c fit = omega (arith, journal_line_short c fit, ap length (text_parts c), length-append (call_head c) (call_tail c))

abbrev pub longest_call : Call
longest_call =
    record {
      now = record { 0 = 2 ^ 32 - 1 };
      id = 2 ^ 32 - 1;
      time = record { 0 = 2 ^ 32 - 1 };
      value = negsuc (2 ^ 31 - 1);
      line = 255;
      kind = 83;
      meter = 255;
    }

-- a claim of its own: the longest line is no shorter than the bound
pub longest_journal_line_lem : length (line_text longest_call) ≡ longest_journal_line
unfolding line_text line_of field decimal digits digits_within
longest_journal_line_lem = refl
