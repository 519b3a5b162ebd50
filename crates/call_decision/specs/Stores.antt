-- The store that a step would be done on: refusal 15 looks at four of its columns.
use Rattle.std.specs.Prelude.{◌≡◌}
use Rattle.store.specs.declared.Store.{Store}
use Rattle.store.specs.Columns.{Columns}
use Rattle.node.specs.Held.{Held}
use Rattle.step_work.specs.Stores.{StoreOf}

-- a store with these four columns, in shape with what is held
pub record StepOf (h : Held) (readings : Store) (x : Columns) : Type 0 where
  pub work : StoreOf h readings x
  pub of_arrivals : x.arrivals ≡ readings.arrivals.now

-- there is such a store
pub record SomeStep (h : Held) (readings : Store) : Type 0 where
  pub store : Columns
  pub is : StepOf h readings store
