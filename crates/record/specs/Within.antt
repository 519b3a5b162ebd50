-- The records that a program can hold: each field within its width.
use Rattle.std.specs.Prelude.{◌<◌, ◌^◌}
use Rattle.std.specs.Int.Signed.{mag}
use Rattle.record.specs.declared.Record.{Record}

-- kind and meter of one byte, id, time and count of four, sum of eight signed, mean and last of four signed (a signed number's `mag` is n
-- for n and for -(n + 1))
pub record Within (r : Record) : Type 0 where
  pub kind : r.kind < 2 ^ 8
  pub meter : r.meter < 2 ^ 8
  pub id : r.id < 2 ^ 32
  pub time : r.time.0 < 2 ^ 32
  pub count : r.count < 2 ^ 32
  pub sum : mag r.sum < 2 ^ 63
  pub mean : mag r.mean < 2 ^ 31
  pub last : mag r.last < 2 ^ 31
