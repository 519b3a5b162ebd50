-- What is copied are the word's bytes, the lowest first.
use Rattle.std.proofs.Common.{◌∙◌, w64}
use Rattle.endian.proofs.LittleEndian.{to_bytes}
use Rattle.endian.proofs.U64Word.lay.Goals as goal

pub returns : goal.returns
returns c = c.copy_from_slice.ensures.after ∙ c.to_le_bytes.ensures ∙ to_bytes w64 c.args.self
