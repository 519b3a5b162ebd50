-- A record's fields at their places in its bytes. That the bytes are laid out so fixes them (crates/record/proofs/Decoding.antt).
use Rattle.std.specs.Prelude.{ℕ, List, get_or, take, drop}
use Rattle.signed.specs.Twos.{signed_of}
use Rattle.endian.specs.LittleEndian.{number_of}
use Rattle.record.specs.declared.Record.{Record}

-- the number of the bytes from `at` on, so many of them
unfoldable pub word_at : ℕ → ℕ → List ℕ → ℕ
word_at at width b = number_of (take width (drop at b))

-- the fields at their places
unfoldable pub fields_of : List ℕ → Record
fields_of b =
    record {
      kind = get_or b 0 0;
      meter = get_or b 1 0;
      id = word_at 4 4 b;
      time = record { 0 = word_at 8 4 b };
      count = word_at 12 4 b;
      sum = signed_of 64 (word_at 16 8 b);
      mean = signed_of 32 (word_at 24 4 b);
      last = signed_of 32 (word_at 28 4 b);
    }
