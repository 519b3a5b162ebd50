-- What is copied are the word's bytes, the lowest first.
use Rattle.std.proofs.Common.{◌∙◌, w32}
use Rattle.endian.proofs.LittleEndian.{to_bytes}
use Rattle.endian.proofs.U32Word.lay.Goals as goal

pub returns : goal.returns
returns c = c.copy_from_slice.ensures.after ∙ c.to_le_bytes.ensures ∙ to_bytes w32 c.args.self
