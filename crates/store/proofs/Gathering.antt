-- What `gather` holds: of each line the readings of the bucket, in the line's order, with the line's number, and no others. Every number
-- behind a line is above the line's own, so that to keep one line's readings is to cut that line out.
use Prim.Native.Nat.{ℕ, zero, suc, ◌+◌, ◌-◌, ◌≤◌}
use mathlib.Core.Path.{◌≡◌, refl, sym, ◌∙◌, ap, ap₂, subst}
use mathlib.Core.Bool.{Bool, true, false}
use mathlib.Core.Logic.{◌↔◌}
use mathlib.Core.List.{List, [], ◌∷◌, ◌++◌, map, map-append, flatten, append-nil, Memᴰ}
use native.Mathlib.Omega.{arith}
use lib.Dec.{eqb}
use lib.ListN.{get_or}
use borrow.Author.Tests.{eqb-true, eq-eqb, ne_eqb}
use Rattle.clock.specs.Buckets.{bucket_of}
use Rattle.store.specs.declared.Reading.{Reading}
use Rattle.store.specs.Lists.{keep, Every}
use Rattle.store.specs.Order.{Placed, is_in, gather}
use Rattle.store.proofs.Pairs.{every_to, every_any, every_of, every_append, every_map}
use Rattle.store.proofs.Keeping.{keep_append, keep_all, keep_none, keep_passes, keep_holds, keep_within}

-- a reading with its line's number
abbrev pub place : ℕ → Reading → Placed
place n r = record { line = n; reading = r }

-- what holds of any reading with this number
pub every_placed : (P : Placed → Type 0) (n : ℕ) (rs : List Reading) → ((r : Reading) → P (place n r)) → Every P (map (place n) rs)
every_placed P n rs f = every_map (place n) P rs (every_any (λ r. P (place n r)) rs f)

-- the numbers are not below the first line's
pub gather_lines : (length j n : ℕ) (lines : List (List Reading)) → Every (λ (a : Placed). n ≤ a.line) (gather length j n lines)
unfolding gather
gather_lines length j n [] = tt
gather_lines length j n (kept ∷ lines) =
    let own : List Reading = keep (is_in length j) kept in
    let others : List Placed = gather length j (suc n) lines in
    every_append (λ (a : Placed). n ≤ a.line) (map (place n) own) others
    (every_placed (λ (a : Placed). n ≤ a.line) n own (λ r. omega arith))
    (every_to others (λ (a : Placed) (h : suc n ≤ a.line). omega arith) (gather_lines length j (suc n) lines))

-- of each line the gathered readings are those of the bucket, in the line's order, with the line's number
pub gather_of_line :
    (length j n i : ℕ) (lines : List (List Reading)) → keep (λ (a : Placed). eqb a.line (n + i)) (gather length j n lines) ≡
    map (place (n + i)) (keep (is_in length j) (get_or lines i []))
unfolding gather keep
gather_of_line length j n i [] = refl
gather_of_line length j n zero (kept ∷ lines) =
    let own : List Reading = keep (is_in length j) kept in
    let others : List Placed = gather length j (suc n) lines in
    let test : Placed → Bool = λ a. eqb a.line (n + 0) in
    keep_append test (map (place n) own) others ∙
    ap₂ ◌++◌
    (keep_all test (map (place n) own) (every_placed (λ (a : Placed). test a ≡ true) n own (λ r. eq-eqb n (n + 0) (omega arith))))
    (keep_none test others
    (every_to others (λ (a : Placed) (h : suc n ≤ a.line). ne_eqb a.line (n + 0) (omega arith)) (gather_lines length j (suc n) lines))) ∙
    append-nil (map (place n) own) ∙
    ap (λ (m : ℕ). map (place m) own) (omega arith)
gather_of_line length j n (suc i) (kept ∷ lines) =
    let own : List Reading = keep (is_in length j) kept in
    let others : List Placed = gather length j (suc n) lines in
    let test : Placed → Bool = λ a. eqb a.line (n + suc i) in
    keep_append test (map (place n) own) others ∙
    ap₂ ◌++◌
    (keep_none test (map (place n) own) (every_placed (λ (a : Placed). test a ≡ false) n own (λ r. ne_eqb n (n + suc i) (omega arith))))
    (subst
    (λ (m : ℕ). keep (λ (a : Placed). eqb a.line m) others ≡ map (place m) (keep (is_in length j) (get_or lines i [])))
    (omega arith)
    (gather_of_line length j (suc n) i lines))

-- but for the numbers the gathered readings are those of the bucket among the readings of all lines
pub gather_readings :
    (length j n : ℕ) (lines : List (List Reading)) →
    map (λ (a : Placed). a.reading) (gather length j n lines) ≡ keep (is_in length j) (flatten lines)
unfolding gather flatten keep
gather_readings length j n [] = refl
gather_readings length j n (kept ∷ lines) =
    let own : List Reading = keep (is_in length j) kept in
    map-append (λ (a : Placed). a.reading) (map (place n) own) (gather length j (suc n) lines) ∙
    ap₂ ◌++◌ (unplaced own) (gather_readings length j (suc n) lines) ∙
    sym (keep_append (is_in length j) kept (flatten lines))
  where
    unplaced : (rs : List Reading) → map (λ (a : Placed). a.reading) (map (place n) rs) ≡ rs
    unplaced [] = refl
    unplaced (r ∷ rs) = ap (λ (l : List Reading). r ∷ l) (unplaced rs)

-- the test for a bucket's readings
is_in_bucket : (length j : ℕ) (r : Reading) → (is_in length j r ≡ true) ↔ (bucket_of length r.time ≡ j)
unfolding is_in
is_in_bucket length j r = (eqb-true (bucket_of length r.time) j, eq-eqb (bucket_of length r.time) j)

-- where a gathered reading comes from: the line with its number keeps it, and its bucket is j
pub record FromLine (length j n : ℕ) (lines : List (List Reading)) (a : Placed) : Type 0 where
  pub index : ℕ
  pub numbered : a.line ≡ n + index
  pub kept : Memᴰ a.reading (get_or lines index [])
  pub inside : bucket_of length a.reading.time ≡ j

module _ (length j n : ℕ) (lines : List (List Reading)) (a : Placed) where
  gather_sound : Memᴰ a (gather length j n lines) → FromLine length j n lines a
  gather_sound m =
      let i : ℕ = a.line - n in
      let above : n ≤ a.line = every_of (λ (b : Placed). n ≤ b.line) m (gather_lines length j n lines) in
      let e : a.line ≡ n + i = omega arith in
      let line : List Reading = get_or lines i [] in
      let own : Memᴰ a (map (place (n + i)) (keep (is_in length j) line)) = subst (Memᴰ a) (gather_of_line length j n i lines) (keep_holds (λ (b : Placed). eqb b.line (n + i)) (eq-eqb a.line (n + i) e) m) in
      let (r, found, same) = mathlib.Core.List.Memᴰ.of_map (place (n + i)) (keep (is_in length j) line) own in
      let back : a.reading ≡ r = ap (λ (b : Placed). b.reading) (sym same) in
      record {
        index = i;
        numbered = e;
        kept = mathlib.Core.List.Memᴰ.cast back (keep_within (is_in length j) line found);
        inside =
            ap (λ (s : Reading). bucket_of length s.time) back ∙
            (is_in_bucket length j r).0 (every_of (λ (s : Reading). is_in length j s ≡ true) found (keep_passes (is_in length j) line));
      }

  gather_complete : FromLine length j n lines a → Memᴰ a (gather length j n lines)
  gather_complete h =
      let m : ℕ = n + h.index in
      let r : Reading = a.reading in
      let here : Memᴰ r (keep (is_in length j) (get_or lines h.index [])) = keep_holds (is_in length j) ((is_in_bucket length j r).1 h.inside) h.kept in
      let own : Memᴰ (place m r) (keep (λ (b : Placed). eqb b.line m) (gather length j n lines)) = subst (Memᴰ (place m r)) (sym (gather_of_line length j n h.index lines)) (mathlib.Core.List.Memᴰ.map (place m) here) in
      let same : a ≡ place m r = λ k. record { line = h.numbered k; reading = r } in
      mathlib.Core.List.Memᴰ.cast same (keep_within (λ (b : Placed). eqb b.line m) (gather length j n lines) own)

  -- exactly the readings of the bucket are gathered, each with the number of its line
  pub gather_holds : Memᴰ a (gather length j n lines) ↔ FromLine length j n lines a
  gather_holds = (gather_sound, gather_complete)
