-- A bucket of one reading: adding the bucket is the definition's `add` of that reading.
use mathlib.Core.Path.{◌≡◌, refl, ap, ◌∙◌}
use mathlib.Core.List.{List, [], ◌∷◌}
use Prim.Native.Nat.{ℕ, ◌*◌, ◌≤◌}
use lib.ListN.{length}
use Rattle.settings.specs.declared.Settings.{Settings}
use Rattle.store.specs.Sizes.{readings_per_line}
use Rattle.store.specs.Lists.{Every}
use Rattle.store.specs.Order.{Placed, insert, sort, gather, in_bucket}
use Rattle.store.specs.Sorted.{Rising}
use Rattle.store.specs.Columns.{Columns, store_length}
use Rattle.store.specs.Parts.{kept_from}
use Rattle.operator.specs.Meters.{Operator, add, add_all}
use Rattle.operator.specs.Bucket.{BucketAdded}

-- where the lines keep exactly one reading of bucket j, it is the one that is added
pub one_reading_added :
    (s : Settings) (j : ℕ) (kept : List ℕ) (x : Columns) (o r : Operator) →
    BucketAdded s j kept x o r → length kept * readings_per_line ≤ store_length x →
    Every Rising (kept_from x 0 kept) → (q : Placed) → gather s.bucket j 1 (kept_from x 0 kept) ≡ q ∷ [] →
    r ≡ add s o q.reading
unfolding in_bucket sort insert add_all
one_reading_added s j kept x o r added room rising q one =
    added x refl refl refl room rising ∙ ap (λ (rs : List Placed). add_all s o (sort rs)) one
