-- When close_up finds a share, and what it owes then and where it refuses; how the code's test of a bucket is the definition's. By the
-- tests' values.
use mathlib.Core.Path.{◌≡◌, refl, sym, ◌∙◌}
use mathlib.Core.Bool.{Bool, true, false, not}
use mathlib.Core.List.{List}
use Prim.Native.Nat.{ℕ, ◌-◌, ◌<◌, ◌≤◌}
use lib.ListN.{length}
use borrow.Author.Tests.{lt-ltb, le-leb, lt-leb, ne_eqb, eq-eqb}
use Rattle.clock.specs.Buckets.{bucket_of}
use Rattle.store.specs.declared.Reading.{Reading}
use Rattle.store.specs.Order.{is_in}
use Rattle.store.specs.Columns.{zeroed}
use Rattle.std.proofs.Common.{Some, None}
use Rattle.store_slots.specs.Slots.{has_share, staying, closing_up, closed_slots}
use Rattle.store_slots.proofs.Closing.{kept, closed_run}

-- the reading is of another bucket than j
abbrev pub is_other : ℕ → ℕ → Reading → Bool
is_other bucket j r = not (is_in bucket j r)

pub other_told : (bucket j : ℕ) (r : Reading) (b : ℕ) → b ≡ bucket_of bucket r.time → (b ≡ j → ⊥) → is_other bucket j r ≡ true
unfolding is_in
other_told bucket j r b e other = rw (ne_eqb (bucket_of bucket r.time) j (λ f. other (e ∙ f))) refl

pub same_told : (bucket j : ℕ) (r : Reading) (b : ℕ) → b ≡ bucket_of bucket r.time → b ≡ j → is_other bucket j r ≡ false
unfolding is_in
same_told bucket j r b e same = rw (eq-eqb (bucket_of bucket r.time) j (sym e ∙ same)) refl

module _ (base n bucket : ℕ) (ys : List Reading) where
  pub has_share_lem : 0 < bucket → base ≤ length ys → n ≤ length ys - base → has_share base n bucket ys ≡ true
  unfolding has_share
  has_share_lem l h m = rw (lt-ltb 0 bucket l, le-leb base (length ys) h, le-leb n (length ys - base) m) refl

  pub no_length : bucket ≡ 0 → has_share base n bucket ys ≡ false
  unfolding has_share
  no_length none = rw none refl

  pub no_base : 0 < bucket → length ys < base → has_share base n bucket ys ≡ false
  unfolding has_share
  no_base l h = rw (lt-ltb 0 bucket l, lt-leb base (length ys) h) refl

  pub no_places : 0 < bucket → base ≤ length ys → length ys - base < n → has_share base n bucket ys ≡ false
  unfolding has_share
  no_places l h m = rw (lt-ltb 0 bucket l, le-leb base (length ys) h, lt-leb n (length ys - base) m) refl

  module _ (j : ℕ) where
    -- what becomes of a share that is there
    pub stay_count :
        has_share base n bucket ys ≡ true →
        Some (length (kept (is_other bucket j) zeroed base ys n)) ≡ closing_up base n bucket j ys
    unfolding closing_up staying
    stay_count e = rw e

    pub closed_share : has_share base n bucket ys ≡ true → closed_run (is_other bucket j) zeroed base ys n ≡ closed_slots base n bucket j ys
    unfolding closed_slots staying
    closed_share e = rw e

    -- and of one that is not
    pub refused_count : has_share base n bucket ys ≡ false → None ≡ closing_up base n bucket j ys
    unfolding closing_up
    refused_count e = rw e

    pub refused_share : has_share base n bucket ys ≡ false → ys ≡ closed_slots base n bucket j ys
    unfolding closed_slots
    refused_share e = rw e
