-- Both columns of the share are as long, and the limit of the meters is a power of two.
use Rattle.std.proofs.Common.{refl, arith}
use Rattle.std.proofs.lemmas.List.{length-take, length-drop}
use Rattle.call_shape.proofs.is_share_ok.Goals as goal

pub are_readings-requires : goal.are_readings-requires
are_readings-requires c = (simp (length-take, length-drop) (omega (arith, c.requires)), record { exponent = 6; is = refl })
