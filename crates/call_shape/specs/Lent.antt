-- A store of which three columns are looked at, and a share's test on these columns alone.
use Rattle.std.specs.Prelude.{ℕ, ◌*◌, ◌≤◌, ◌≡◌, Bool, ◌&&◌, List, ltb}
use Rattle.store.specs.declared.StoreView.{StoreView}
use Rattle.store.specs.Sizes.{readings_per_line}
use Rattle.store.specs.Lists.{all_of}
use Rattle.store.specs.Columns.{Columns, store_length}
use Rattle.store.specs.Parts.{share}
use Rattle.store_columns.specs.Shape.{rises, is_reading_kind}
use Rattle.operator.specs.Meters.{meter_count}

-- a store with room for so many lines and with the three columns that are looked at
pub record Lends (x : Columns) (lines : ℕ) (readings : StoreView) : Type 0 where
  pub room : lines * readings_per_line ≤ store_length x
  pub of_ids : x.ids ≡ readings.ids.now
  pub of_kinds : x.kinds ≡ readings.kinds.now
  pub of_meters : x.meters ≡ readings.meters.now

-- n readings from a place on: S or T, of known meters, with rising ids
unfoldable pub share_ok : ℕ → ℕ → List ℕ → List ℕ → List ℕ → Bool
share_ok base n ids kinds meters =
    (all_of is_reading_kind (share base n kinds) && all_of (λ m. ltb m meter_count) (share base n meters)) && rises (share base n ids)
