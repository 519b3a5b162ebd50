-- A claim of its own: `in_bucket` is the one sorted list of the bucket's readings. It is sorted, it holds exactly the gathered readings, and
-- where the ids rise in each line there is no other such list. From the laws of `gather` and `sort`.
use Prim.Native.Nat.{ℕ}
use mathlib.Core.Path.{◌≡◌}
use mathlib.Core.Logic.{◌↔◌}
use mathlib.Core.List.{List, Memᴰ}
use Rattle.store.specs.declared.Reading.{Reading}
use Rattle.store.specs.Lists.{Every}
use Rattle.store.specs.Order.{Placed, gather, in_bucket}
use Rattle.store.specs.Sorted.{Permutation, Sorted, Rising}
use Rattle.store.proofs.Permutations.{permutation_back, permutation_holds}
use Rattle.store.proofs.Sorting.{sort_permutes, sort_sorted}
use Rattle.store.proofs.Uniqueness.{sort_only}
use Rattle.store.proofs.Gathering.{FromLine, gather_holds}
use Rattle.store.proofs.Apart.{gather_distinct}

module _ (length j : ℕ) (lines : List (List Reading)) where
  pub in_bucket_permutes : Permutation (gather length j 1 lines) (in_bucket length j lines)
  unfolding in_bucket
  in_bucket_permutes = sort_permutes (gather length j 1 lines)

  pub in_bucket_sorted : Sorted (in_bucket length j lines)
  unfolding in_bucket
  in_bucket_sorted = sort_sorted (gather length j 1 lines)

  -- exactly the bucket's readings, each with its line's number
  pub in_bucket_holds : (a : Placed) → Memᴰ a (in_bucket length j lines) ↔ FromLine length j 1 lines a
  in_bucket_holds a = (
    λ m. (gather_holds length j 1 lines a).0 (permutation_holds (permutation_back in_bucket_permutes) m),
    λ h. permutation_holds in_bucket_permutes ((gather_holds length j 1 lines a).1 h),
  )

  -- the only sorted list of these readings
  pub in_bucket_only :
      Every Rising lines → (ys : List Placed) → Permutation (gather length j 1 lines) ys → Sorted ys → ys ≡ in_bucket length j lines
  unfolding in_bucket
  in_bucket_only h ys p s = sort_only (gather length j 1 lines) ys (gather_distinct length j 1 lines h) p s
