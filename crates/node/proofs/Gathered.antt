-- The readings of a bucket are kept readings: what holds of every kept reading holds of every one of them, and they are no more than are
-- kept. Line by line for what is gathered; sorting only permutes it.
use Prim.Native.Nat.{ℕ, suc, ◌*◌, ◌≤◌}
use mathlib.Core.List.{List, [], ◌∷◌, map}
use native.Mathlib.Omega.{arith}
use lib.ListN.{length, length-append, length-map}
use Rattle.store.specs.declared.Reading.{Reading}
use Rattle.store.specs.Lists.{Every, keep}
use Rattle.store.specs.Order.{Placed, is_in, gather, in_bucket}
use Rattle.store.proofs.Pairs.{every_append, every_keep, every_map}
use Rattle.store.proofs.Permutations.{length_permuted, every_permuted}
use Rattle.store.proofs.Keeping.{length_keep}
use Rattle.store.proofs.Gathering.{place}
use Rattle.store.proofs.Bucket.{in_bucket_permutes}
use Rattle.protocol.specs.Node.{Line, kept_of}

module _ (law : Reading → Type 0) (size j : ℕ) where
  every_gather :
      (n : ℕ) (ls : List Line) → Every (λ (l : Line). Every law l.kept) ls →
      Every (λ (r : Placed). law r.reading) (gather size j n (kept_of ls))
  unfolding gather kept_of
  every_gather n [] h = tt
  every_gather n (l ∷ ls) h =
      every_append (λ (r : Placed). law r.reading) (map (place n) (keep (is_in size j) l.kept)) (gather size j (suc n) (kept_of ls))
      (every_map (place n) (λ (r : Placed). law r.reading) (keep (is_in size j) l.kept) (every_keep law (is_in size j) l.kept h.0))
      (every_gather (suc n) ls h.1)

  pub every_in_bucket :
      (ls : List Line) → Every (λ (l : Line). Every law l.kept) ls →
      Every (λ (r : Placed). law r.reading) (in_bucket size j (kept_of ls))
  every_in_bucket ls h = every_permuted (λ (r : Placed). law r.reading) (in_bucket_permutes size j (kept_of ls)) (every_gather 1 ls h)

-- ---- how many

length_gather :
    (most size j n : ℕ) (ls : List Line) → Every (λ (l : Line). length l.kept ≤ most) ls →
    length (gather size j n (kept_of ls)) ≤ length ls * most
unfolding gather kept_of
length_gather most size j n [] h = omega arith
length_gather most size j n (l ∷ ls) h =
    let kept = keep (is_in size j) l.kept in
    let few = length_keep (is_in size j) l.kept in
    let placed = length-map kept (place n) in
    let rest = length_gather most size j (suc n) ls h.1 in
    rw (length-append (map (place n) kept) (gather size j (suc n) (kept_of ls))) (omega (arith, h.0))

pub length_in_bucket :
    (most size j : ℕ) (ls : List Line) → Every (λ (l : Line). length l.kept ≤ most) ls →
    length (in_bucket size j (kept_of ls)) ≤ length ls * most
length_in_bucket most size j ls h = rw (← length_permuted (in_bucket_permutes size j (kept_of ls))) (length_gather most size j 1 ls h)
