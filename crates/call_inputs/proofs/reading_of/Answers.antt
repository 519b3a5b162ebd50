-- `call_inputs::reading_of` meets its contract; the signed value reads back as it is.
use mir.Syntax.{w32}
use mir.Val.{SFits}
use mir.Facts.{to_z-of_z}
use Rattle.std.proofs.Common.{rules}
use Rattle.protocol.specs.Node.{reading_of}
use Rattle.call_inputs.proofs.reading_of.Goals as goal

pub returns : goal.returns
unfolding reading_of
returns c = let fits : SFits w32 c.args.k.value = search rules in rw (to_z-of_z fits)
