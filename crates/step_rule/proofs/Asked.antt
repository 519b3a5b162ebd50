-- What `rule_of` asks for, of a state and a store in shape: parts of the test of both, and room in the two columns that it looks at.
use Prim.Native.Nat.{◌*◌, ◌≤◌}
use mathlib.Core.Path.{◌≡◌}
use mathlib.Core.Bool.{true}
use lib.ListN.{length, take}
use Rattle.settings.specs.Limits.{within_limits}
use Rattle.store.specs.Sizes.{readings_per_line}
use Rattle.store.specs.Lists.{all_of}
use Rattle.store.specs.Columns.{Columns, store_length}
use Rattle.store.proofs.Choices.{and_parts}
use Rattle.store.proofs.Columns.{room}
use Rattle.node.specs.Held.{Held}
use Rattle.node.specs.View.{places}
use Rattle.node.specs.Shape.{head_ok, state_in_shape}

module _ (st : Held) (x : Columns) (enough : places st ≤ store_length x) (shape : state_in_shape st x ≡ true) where
  pub asked :
      (within_limits st.settings ≡ true) × (st.settings.lines * readings_per_line ≤ length x.times) ×
      (st.settings.lines * readings_per_line ≤ length x.arrivals) ×
      (all_of head_ok (take st.settings.lines st.heads) ≡ true)
  unfolding state_in_shape places
  asked =
      let has = room (places st) x enough in
      let parts = and_parts (within_limits st.settings) _ shape in
      (parts.0, has.times, has.arrivals, (and_parts (all_of head_ok (take st.settings.lines st.heads)) _ parts.1).0)
