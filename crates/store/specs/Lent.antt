-- The store as a host lends it: what its columns hold, and that a function left it the loans that it was passed.
use Rattle.std.specs.Prelude.{◌≡◌}
use Rattle.store.specs.declared.Store.{Store}
use Rattle.store.specs.declared.StoreView.{StoreView}
use Rattle.store.specs.Columns.{Columns, columns_of}

-- what the lent columns hold
abbrev pub columns : Store → Columns
columns store = columns_of store.ids.now store.times.now store.values.now store.arrivals.now store.kinds.now store.meters.now

-- what the columns hold that are lent to be read only
abbrev pub viewed : StoreView → Columns
viewed view = columns_of view.ids.now view.times.now view.values.now view.arrivals.now view.kinds.now view.meters.now

-- the second store has each column on the loan that the first has it on
abbrev pub SameLoans : Store → Store → Type 0
SameLoans x y =
    (y.ids.ghost_name ≡ x.ids.ghost_name)
    × (y.times.ghost_name ≡ x.times.ghost_name)
    × (y.values.ghost_name ≡ x.values.ghost_name)
    × (y.arrivals.ghost_name ≡ x.arrivals.ghost_name)
    × (y.kinds.ghost_name ≡ x.kinds.ghost_name)
    × (y.meters.ghost_name ≡ x.meters.ghost_name)
