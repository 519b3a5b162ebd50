-- A meter has a result exactly if a value counted for it.
use Prim.Native.Nat.{◌<◌}
use mathlib.Core.Path.{◌≡◌}
use mathlib.Core.Bool.{true}
use mathlib.Core.Logic.{◌↔◌}
use borrow.Author.Tests.{ltb-true, lt-ltb}
use Rattle.operator_meter.specs.declared.Meter.{Meter}
use Rattle.operator_meter.specs.Values.{has_result}

pub result_iff_value : (m : Meter) → (has_result m ≡ true) ↔ (0 < m.count)
unfolding has_result
result_iff_value m = (ltb-true 0 m.count, lt-ltb 0 m.count)
