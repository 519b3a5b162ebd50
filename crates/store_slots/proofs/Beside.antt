-- A claim of its own: the slots and the columns hold the same readings. What the columns' functions write, read row by row, is what the
-- slots' functions write (`row_placed`, `rows_zeroed`, `rows_kept`), and as many readings stay (`stays_of_rows`). A run of rows is laid one
-- row at a time, and one row laid is one slot set.
use Prim.Native.Nat.{ℕ, suc, ◌+◌, ◌-◌, ◌<◌, ◌≤◌}
use mathlib.Core.Path.{◌≡◌, refl, sym, ap, ◌∙◌}
use mathlib.Core.Bool.{true, false}
use mathlib.Core.List.{List, [], ◌∷◌, ◌++◌}
use native.Mathlib.Omega.{arith}
use lib.Dec.{eqb}
use lib.IntN.{pos}
use lib.ListN.{length, get_or, set, replicate, length-set, length-append, length-replicate}
use lib.Seq.{sets, ext_get_or, get_or-set_same, get_or-set_other}
use borrow.Author.Tests.{eqb-true, eqb-false}
use Rattle.store.specs.declared.Reading.{Reading}
use Rattle.store.specs.Lists.{keep}
use Rattle.store.specs.Columns.{Columns, store_length, row_at, rows, rows_from, zeroed}
use Rattle.store.specs.Parts.{with_rows_at, with_kept}
use Rattle.store.proofs.Columns.{Room, room, length_rows, row_at_lem, share_of_rows}
use Rattle.std.proofs.Common.{Some}
use Rattle.store_slots.specs.Slots.{placed_at, zeroed_from, closing_up, closed_slots}
use Rattle.store_slots.proofs.Closing.{kept, kept_at_most}
use Rattle.store_slots.proofs.Refusing.{is_other, has_share_lem, stay_count, closed_share}
use Rattle.store_slots.proofs.Zeroing.{zeroed_all}

-- ---- one row

-- a row laid is read back
row_laid_here : (x : Columns) (at : ℕ) (r : Reading) → at < store_length x → row_at (with_rows_at x at (r ∷ [])) at ≡ r
unfolding row_at with_rows_at
row_laid_here x at r h =
    let w : Room (suc at) x = room (suc at) x h in
    λ t.
    record {
      id = get_or-set_same x.ids at r.id 0 w.ids t;
      time = record { 0 = get_or-set_same x.times at r.time.0 0 w.times t };
      value = get_or-set_same x.values at r.value (pos 0) w.values t;
      arrival = record { 0 = get_or-set_same x.arrivals at r.arrival.0 0 w.arrivals t };
      kind = get_or-set_same x.kinds at r.kind 0 w.kinds t;
      meter = get_or-set_same x.meters at r.meter 0 w.meters t;
    }

-- and every other row is as it was
row_laid_elsewhere : (x : Columns) (at i : ℕ) (r : Reading) → (i ≡ at → ⊥) → row_at (with_rows_at x at (r ∷ [])) i ≡ row_at x i
unfolding row_at with_rows_at
row_laid_elsewhere x at i r other =
    λ t.
    record {
      id = get_or-set_other x.ids at i r.id 0 other t;
      time = record { 0 = get_or-set_other x.times at i r.time.0 0 other t };
      value = get_or-set_other x.values at i r.value (pos 0) other t;
      arrival = record { 0 = get_or-set_other x.arrivals at i r.arrival.0 0 other t };
      kind = get_or-set_other x.kinds at i r.kind 0 other t;
      meter = get_or-set_other x.meters at i r.meter 0 other t;
    }

store_length_laid : (x : Columns) (at : ℕ) (r : Reading) → store_length (with_rows_at x at (r ∷ [])) ≡ store_length x
unfolding store_length with_rows_at
store_length_laid x at r =
    rw (
      length-set x.ids at r.id,
      length-set x.times at r.time.0,
      length-set x.values at r.value,
      length-set x.arrivals at r.arrival.0,
      length-set x.kinds at r.kind,
      length-set x.meters at r.meter,
    )

-- a place that is put into is a slot set
row_set : (x : Columns) (at n : ℕ) (r : Reading) → at < n → n ≤ store_length x → rows (with_rows_at x at (r ∷ [])) n ≡ set (rows x n) at r
row_set x at n r inside enough =
    ext_get_or zeroed (rows laid n) (set (rows x n) at r) (length_rows laid n ∙ sym (length_rows x n) ∙ sym (length-set (rows x n) at r)) same
  where
    laid : Columns
    laid = with_rows_at x at (r ∷ [])

    same : (i : ℕ) → i < length (rows laid n) → get_or (rows laid n) i zeroed ≡ get_or (set (rows x n) at r) i zeroed
    same i h =
        let small : i < n = omega (arith, length_rows laid n) in
        row_at_lem laid n i small ∙ (elim (eqb i at) as (λ b. eqb i at ≡ b → row_at laid i ≡ get_or (set (rows x n) at r) i zeroed) [
          | true ↦ λ e. let here : i ≡ at = eqb-true i at e in rw here (row_laid_here x at r (omega arith) ∙ sym (get_or-set_same (rows x n) at r zeroed (omega (arith, length_rows x n))))
          | false ↦ λ e. row_laid_elsewhere x at i r (eqb-false i at e) ∙ sym (row_at_lem x n i small) ∙ sym (get_or-set_other (rows x n) at i r zeroed (eqb-false i at e))
        ]) refl

pub row_placed : (x : Columns) (at n : ℕ) (r : Reading) → at < n → n ≤ store_length x → rows (with_rows_at x at (r ∷ [])) n ≡ placed_at at r (rows x n)
unfolding placed_at
row_placed x at n r inside enough = row_set x at n r inside enough

-- ---- a run of rows

laid_none : (x : Columns) (at : ℕ) → with_rows_at x at [] ≡ x
unfolding with_rows_at
laid_none x at = refl

laid_first : (x : Columns) (at : ℕ) (r : Reading) (rs : List Reading) → with_rows_at x at (r ∷ rs) ≡ with_rows_at (with_rows_at x at (r ∷ [])) (suc at) rs
unfolding with_rows_at
laid_first x at r rs = refl

pub rows_placed : (x : Columns) (at n : ℕ) (rs : List Reading) → at + length rs ≤ n → n ≤ store_length x → rows (with_rows_at x at rs) n ≡ sets (rows x n) at rs
rows_placed x at n [] inside enough = ap (λ (y : Columns). rows y n) (laid_none x at)
rows_placed x at n (r ∷ rs) inside enough =
    ap (λ (y : Columns). rows y n) (laid_first x at r rs)
    ∙ rows_placed (with_rows_at x at (r ∷ [])) (suc at) n rs (omega arith) (omega (arith, store_length_laid x at r))
    ∙ ap (λ (l : List Reading). sets l (suc at) rs) (row_set x at n r (omega arith) enough)

-- ---- a share

-- places zeroed
pub rows_zeroed : (x : Columns) (from to n : ℕ) → from ≤ to → to ≤ n → n ≤ store_length x → rows (with_rows_at x from (replicate (to - from) zeroed)) n ≡ zeroed_from from to (rows x n)
rows_zeroed x from to n forward inside enough =
    rows_placed x from n (replicate (to - from) zeroed) (omega (arith, length-replicate (to - from) zeroed)) enough
    ∙ zeroed_all from to (rows x n) forward (omega (arith, length_rows x n))

-- a share whose readings of bucket j leave
pub rows_kept : (x : Columns) (base n bucket j m : ℕ) → 0 < bucket → base + n ≤ m → m ≤ store_length x
    → rows (with_kept x base n (keep (is_other bucket j) (rows_from x base n))) m ≡ closed_slots base n bucket j (rows x m)
unfolding with_kept
rows_kept x base n bucket j m some inside enough =
    let stay = kept (is_other bucket j) zeroed base (rows x m) n in
    let long : length (stay ++ replicate (n - length stay) zeroed) ≡ n = omega (arith, length-append stay (replicate (n - length stay) zeroed), length-replicate (n - length stay) zeroed, kept_at_most (is_other bucket j) zeroed base (rows x m) n) in
    ap (λ (l : List Reading). rows (with_kept x base n (keep (is_other bucket j) l)) m) (sym (share_of_rows x base n m inside))
    ∙ rows_placed x base m (stay ++ replicate (n - length stay) zeroed) (omega (arith, long)) enough
    ∙ closed_share base n bucket (rows x m) j (has_share_lem base n bucket (rows x m) some (omega (arith, length_rows x m)) (omega (arith, length_rows x m)))

-- and how many stay
pub stays_of_rows :
    (x : Columns) (base n bucket j m : ℕ) → 0 < bucket → base + n ≤ m →
    Some (length (keep (is_other bucket j) (rows_from x base n))) ≡ closing_up base n bucket j (rows x m)
stays_of_rows x base n bucket j m some inside =
    ap (λ (l : List Reading). Some (length (keep (is_other bucket j) l))) (sym (share_of_rows x base n m inside)) ∙
    stay_count base n bucket (rows x m) j
    (has_share_lem base n bucket (rows x m) some (omega (arith, length_rows x m)) (omega (arith, length_rows x m)))
