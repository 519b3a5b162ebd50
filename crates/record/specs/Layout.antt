-- A record's bytes, little-endian (document 01, section 'Store and output area').
use Rattle.std.specs.Prelude.{ℕ, List, [], ◌∷◌, ◌++◌}
use Rattle.signed.specs.Twos.{twos}
use Rattle.endian.specs.LittleEndian.{little_endian}
use Rattle.record.specs.declared.Record.{Record}

-- kind, meter, two zero bytes, id, time, count, sum, mean, last
unfoldable pub bytes_of : Record → List ℕ
bytes_of r =
    (r.kind ∷ r.meter ∷ 0 ∷ 0 ∷ []) ++
    little_endian 4 r.id ++
    little_endian 4 r.time.0 ++
    little_endian 4 r.count ++
    little_endian 8 (twos 64 r.sum) ++
    little_endian 4 (twos 32 r.mean) ++
    little_endian 4 (twos 32 r.last)

-- the bytes of records, one behind the other
unfoldable pub all_bytes : List Record → List ℕ
all_bytes [] = []
all_bytes (r ∷ rs) = bytes_of r ++ all_bytes rs
