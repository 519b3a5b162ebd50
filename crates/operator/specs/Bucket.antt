-- A bucket's readings added from columns of the store: line i + 1 keeps kept[i] readings, which fill the first places of its share
-- (document 01, section 'Buckets and the operator').
use Rattle.std.specs.Prelude.{ℕ, ◌+◌, ◌*◌, ◌<◌, ◌≤◌, ◌≡◌, true, List, [], ◌∷◌, length}
use Rattle.settings.specs.declared.Settings.{Settings}
use Rattle.settings.specs.Limits.{max_lines}
use Rattle.store.specs.Sizes.{readings_per_line}
use Rattle.store.specs.Lists.{all_of, Every}
use Rattle.store.specs.Order.{in_bucket}
use Rattle.store.specs.Sorted.{Rising}
use Rattle.store.specs.Columns.{Columns, store_length}
use Rattle.store.specs.Parts.{share, kept_from}
use Rattle.operator_meter.specs.Bounds.{meter_ok}
use Rattle.operator.specs.Meters.{Operator, meter_count, add_all}

-- every kept reading is of one of the operator's meters; the first share begins at `base`
abbrev pub MetersKnown : List ℕ → ℕ → List ℕ → Type 0
MetersKnown meters base [] = Unit {0}
MetersKnown meters base (n ∷ ns) = Every (λ m. m < meter_count) (share base n meters) × MetersKnown meters (base + readings_per_line) ns

-- what the lines keep can be added: no more lines than there can be, a bucket above 0, no share overfull, columns that have the shares,
-- every meter known, and meters that cannot overflow
pub record Addable (s : Settings) (kept : List ℕ) (x : Columns) (o : Operator) : Type 0 where
  pub lines : length kept ≤ max_lines
  pub bucket : 0 < s.bucket
  pub small : Every (λ n. n ≤ readings_per_line) kept
  pub of_times : length kept * readings_per_line ≤ length x.times
  pub of_values : length kept * readings_per_line ≤ length x.values
  pub of_meters : length kept * readings_per_line ≤ length x.meters
  pub known : MetersKnown x.meters 0 kept
  pub bounds : all_of meter_ok o.meters ≡ true

-- the operator with bucket j's readings more, for any store with these times, values and meters that has rising ids in its shares
abbrev pub BucketAdded : Settings → ℕ → List ℕ → Columns → Operator → Operator → Type 0
BucketAdded s j kept x o r =
    (y : Columns) →
    y.times ≡ x.times →
    y.values ≡ x.values →
    y.meters ≡ x.meters →
    length kept * readings_per_line ≤ store_length y →
    Every Rising (kept_from y 0 kept) →
    r ≡ add_all s o (in_bucket s.bucket j (kept_from y 0 kept))
