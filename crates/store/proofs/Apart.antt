-- Gathered readings in pairs: where the ids rise in each line, the order tells the readings apart and keeps those of equal time as
-- gathered: two of one line by their ids, two of different lines by the lines.
use Prim.Native.Nat.{ℕ, suc, ◌≤◌, ◌<◌}
use mathlib.Core.Path.{◌≡◌, refl}
use mathlib.Core.Bool.{true, false}
use mathlib.Core.List.{List, [], ◌∷◌, map}
use native.Mathlib.Omega.{arith}
use Rattle.store.specs.declared.Reading.{Reading}
use Rattle.store.specs.Lists.{keep, Every}
use Rattle.store.specs.Sorted.{Pairwise, is_level, Distinct, TiesInOrder, Rising}
use Rattle.store.specs.Order.{Placed, before, is_in, gather}
use Rattle.store.proofs.Choices.{false_unless}
use Rattle.store.proofs.Order.{by_line, by_id, earlier_before, level_equal}
use Rattle.store.proofs.Pairs.{every_to, pairwise_append, pairwise_to, pairwise_keep, pairwise_map}
use Rattle.store.proofs.Gathering.{place, every_placed, gather_lines}

-- a relation that holds in each line, and from a lower line to a higher one, holds among all that is gathered
gather_pairwise :
    (R : Placed → Placed → Type 0) → ((a b : Placed) → a.line < b.line → R a b) → (length j n : ℕ) (lines : List (List Reading)) →
    Every (λ (kept : List Reading). (m : ℕ) → Pairwise (λ (r s : Reading). R (place m r) (place m s)) kept) lines →
    Pairwise R (gather length j n lines)
unfolding gather
gather_pairwise R up length j n [] h = tt
gather_pairwise R up length j n (kept ∷ lines) h =
    let own : List Reading = keep (is_in length j) kept in
    let others : List Placed = gather length j (suc n) lines in
    pairwise_append R (map (place n) own) others
    (pairwise_map (place n) R own (pairwise_keep (λ (r s : Reading). R (place n r) (place n s)) (is_in length j) kept (h.0 n)))
    (gather_pairwise R up length j (suc n) lines h.1)
    (every_placed (λ (a : Placed). Every (R a) others) n own
    (λ r. every_to others (λ (b : Placed) (l : suc n ≤ b.line). up (place n r) b l) (gather_lines length j (suc n) lines)))

other_line : (a b : Placed) → a.line < b.line → is_level a b ≡ false
other_line a b h = false_unless (is_level a b) (λ e. omega (arith, (level_equal a b).0 e))

other_id : (a b : Placed) → a.reading.id < b.reading.id → is_level a b ≡ false
other_id a b h = false_unless (is_level a b) (λ e. omega (arith, (level_equal a b).0 e))

-- where the ids rise in each line, no two gathered readings are level
pub gather_distinct : (length j n : ℕ) (lines : List (List Reading)) → Every Rising lines → Distinct (gather length j n lines)
gather_distinct length j n lines h =
    gather_pairwise (λ (a b : Placed). is_level a b ≡ false) other_line length j n lines
    (every_to lines (λ kept rising m. pairwise_to kept (λ r s l. other_id (place m r) (place m s) l) rising) h)

-- where the ids rise in each line, gathered readings of equal time stand in their order
pub gather_ties : (length j n : ℕ) (lines : List (List Reading)) → Every Rising lines → TiesInOrder (gather length j n lines)
gather_ties length j n lines h =
    gather_pairwise (λ (a b : Placed). a.reading.time.0 ≡ b.reading.time.0 → before a b ≡ true)
    (λ a b l e. earlier_before a b (by_line e l)) length j n lines
    (every_to lines (λ kept rising m. pairwise_to kept (λ r s l e. earlier_before (place m r) (place m s) (by_id e refl l)) rising) h)
