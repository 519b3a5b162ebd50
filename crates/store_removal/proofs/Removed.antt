-- A bucket's readings taken out of a share run by run: the readings that stay, from the place looked at on, written to the place that is
-- next, make the same store all the time. A turn moves the run of readings that stay up to the next of the bucket, and passes over the
-- bucket's readings behind it.
use Prim.Native.Nat.{ℕ, ◌+◌, ◌-◌, ◌<◌, ◌≤◌}
use mathlib.Core.Path.{◌≡◌, refl, sym, ◌∙◌, ap}
use mathlib.Core.Bool.{true, false}
use mathlib.Core.List.{List, [], ◌++◌}
use native.Mathlib.Omega.{arith}
use lib.ListN.{length, replicate, length-append}
use Rattle.store.specs.declared.Reading.{Reading}
use Rattle.store.specs.Lists.{keep}
use Rattle.store.specs.Columns.{Columns, store_length, rows_from, zeroed}
use Rattle.store.specs.Parts.{with_rows_at, with_kept}
use Rattle.store.proofs.Columns.{room, length_rows_from}
use Rattle.store_places.specs.Places.{first_place, is_time_of}
use Rattle.store_places.proofs.FirstPlaces.{first_other}
use Rattle.store_columns.proofs.Written.{rows_join, rows_behind, SameLengths, same_lengths, lengths_then, lengths_written, store_length_same}
use Rattle.store_removal.proofs.Staying.{stays, staying, staying_run, staying_none}

nothing_written : (x : Columns) (at : ℕ) → with_rows_at x at [] ≡ x
unfolding with_rows_at
nothing_written x at = refl

-- the readings before `from` have been looked at, and those of them that stay written up to `to`
pub record Removing (bucket j : ℕ) (x₀ : Columns) (base end : ℕ) (x : Columns) (to from : ℕ) : Type 0 where
  pub within : from ≤ end
  pub down : to ≤ from
  pub lengths : SameLengths x x₀
  pub count : to + length (staying bucket j x from end) ≡ base + length (staying bucket j x₀ base end)
  pub left : with_rows_at x to (staying bucket j x from end) ≡ with_rows_at x₀ base (staying bucket j x₀ base end)

module _ (bucket j : ℕ) (x₀ : Columns) (base end : ℕ) where
  pub removing_start : base ≤ end → Removing bucket j x₀ base end x₀ base base
  removing_start h = record { within = h; down = omega arith; lengths = same_lengths x₀; count = refl; left = refl }

  module _ (x : Columns) (to from : ℕ) (v : Removing bucket j x₀ base end x to from) where
    pub room_yet : end ≤ store_length x₀ → end ≤ store_length x
    room_yet h = omega (arith, store_length_same x x₀ v.lengths)

    -- a turn: the run up to the bucket's first is moved, and the bucket's readings behind it are passed over
    module _
        (h : end ≤ store_length x) (until next : ℕ) (within : (from ≤ until) × (until ≤ next) × (next ≤ end))
        (e : until ≡ first_place (is_time_of true bucket j) from end x.times)
        (f : next ≡ first_place (is_time_of false bucket j) until end x.times) where
      -- it goes on
      pub next_on : from < end → from < next
      next_on g = rw (f, e) (first_other bucket j from end x.times g (room end x h).times)

      staying_yet : staying bucket j x from end ≡ rows_from x from (until - from) ++ staying bucket j x next end
      staying_yet =
          staying_run bucket j x from end until h v.within e ∙
          ap (λ (rs : List Reading). rows_from x from (until - from) ++ rs)
          (staying_none bucket j x until end next h (omega arith) f)

      pub removing_turn :
          (x' : Columns) → x' ≡ with_rows_at x to (rows_from x from (until - from)) →
          Removing bucket j x₀ base end x' (to + (until - from)) next
      removing_turn x' m =
          let moved : List Reading = rows_from x from (until - from) in
          let rest : List Reading = staying bucket j x' next end in
          -- behind the run the store is as it was
          let yet : rest ≡ staying bucket j x next end =
          ap (keep (stays bucket j))
          (rw m (rows_behind x to moved next (end - next) (omega (arith, v.down, length_rows_from x from (until - from))))) in
          let split : staying bucket j x from end ≡ moved ++ rest = staying_yet ∙ ap (λ (rs : List Reading). moved ++ rs) (sym yet) in
          record {
            within = within.2;
            down = omega (arith, v.down);
            lengths = lengths_then (rw m (lengths_written x to moved)) v.lengths;
            count = omega (arith, v.count, ap length split, length-append moved rest, length_rows_from x from (until - from));
            left =
                ap (λ (y : Columns). with_rows_at y (to + (until - from)) rest) m ∙
                rows_join x to (to + (until - from)) moved rest (ap (λ (k : ℕ). to + k) (sym (length_rows_from x from (until - from)))) ∙
                ap (with_rows_at x to) (sym split) ∙
                v.left;
          }

    -- the end: all readings have been looked at
    module _ (n : ℕ) (e : end ≡ base + n) (l : end ≤ from) where
      staying_nothing : staying bucket j x from end ≡ []
      unfolding keep rows_from
      staying_nothing = let none : end - from ≡ 0 = omega arith in rw none

      pub removed_count : to ≡ base + length (keep (stays bucket j) (rows_from x₀ base n))
      removed_count =
          let all : end - base ≡ n = omega arith in
          omega (arith, rw all at v.count, ap length staying_nothing)

      pub removed_rows :
          (x' : Columns) → x' ≡ with_rows_at x to (replicate (end - to) zeroed) →
          x' ≡ with_kept x₀ base n (keep (stays bucket j) (rows_from x₀ base n))
      unfolding with_kept
      removed_rows x' z =
          let all : end - base ≡ n = omega arith in
          let kept : List Reading = keep (stays bucket j) (rows_from x₀ base n) in
          let so_far : x ≡ with_rows_at x₀ base kept = sym (nothing_written x to) ∙ (rw (staying_nothing, all) at v.left) in
          let rest : end - to ≡ n - length kept = omega (arith, removed_count) in
          z ∙ rw rest
          (ap (λ (y : Columns). with_rows_at y to (replicate (n - length kept) zeroed)) so_far ∙
          rows_join x₀ base to kept (replicate (n - length kept) zeroed) removed_count)
