-- The store that a bucket is worked from: the work looks at three of its columns.
use Rattle.std.specs.Prelude.{ℕ, ◌≤◌, ◌≡◌, true}
use Rattle.store.specs.declared.Store.{Store}
use Rattle.store.specs.Columns.{Columns, store_length}
use Rattle.node.specs.Held.{Held}
use Rattle.node.specs.View.{places}
use Rattle.node.specs.Shape.{state_in_shape}

-- a store with these three columns, in shape with what is held
pub record StoreOf (h : Held) (readings : Store) (x : Columns) : Type 0 where
  pub of_times : x.times ≡ readings.times.now
  pub of_values : x.values ≡ readings.values.now
  pub of_meters : x.meters ≡ readings.meters.now
  pub room : places h ≤ store_length x
  pub shape : state_in_shape h x ≡ true

-- there is such a store
pub record SomeStore (h : Held) (readings : Store) : Type 0 where
  pub store : Columns
  pub is : StoreOf h readings store
