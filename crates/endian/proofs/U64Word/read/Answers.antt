-- The bytes are those of the slice, as many as the word has.
use Rattle.std.proofs.Common.{◌∙◌, w64}
use Rattle.endian.proofs.LittleEndian.{from_bytes}
use Rattle.endian.proofs.U64Word.read.Goals as goal

pub returns : goal.returns
returns c = c.from_le_bytes.ensures ∙ from_bytes w64 c.args.s.now c.requires
