-- What the tests and the selection of places say of the readings kept: a test over a column's share is the test over the rows' field, and
-- the rows at a bucket's places are the bucket's readings, line by line. By the laws of the share and of `map`.
use Rattle.std.proofs.Common.{◌≡◌, ℕ, suc, ◌+◌, ◌*◌, ◌≤◌, Bool, true, ◌&&◌, ◌||◌, eqb, ltb, leb, List, [], ◌∷◌, ◌++◌, map, length, sym, refl, ap, ◌∙◌, ap₂, arith}
use mathlib.Core.List.{map-append}
use Rattle.clock.specs.declared.ArrivalTick.{ArrivalTick}
use Rattle.clock.specs.Buckets.{bucket_of}
use Rattle.clock.specs.Hold.{is_due}
use Rattle.store.specs.declared.Reading.{Reading}
use Rattle.store.specs.Sizes.{readings_per_line}
use Rattle.store.specs.Lists.{keep, some_of, all_of, Every}
use Rattle.store.specs.Order.{Placed, is_in, gather}
use Rattle.store.specs.Columns.{Columns, store_length, row_at, rows_from}
use Rattle.store.specs.Parts.{share, kept_from}
use Rattle.store.proofs.Keeping.{some_map}
use Rattle.store.proofs.Columns.{room}
use Rattle.store.proofs.Gathering.{place}
use Rattle.store_columns.specs.Tests.{some_of_both, is_late_due}
use Rattle.store_columns.specs.Shape.{rises, is_reading_kind}
use Rattle.store_places.specs.Places.{is_time_of}
use Rattle.store_columns.proofs.Rows.{places_where, rows_where, ids_share, times_share, arrivals_share, kinds_share, meters_share}

-- ---- a test on a field

module _ {A B : Type 0} (f : A → B) where
  all_of_field : (test : B → Bool) (xs : List A) → all_of test (map f xs) ≡ all_of (λ x. test (f x)) xs
  unfolding all_of
  all_of_field test [] = refl
  all_of_field test (x ∷ xs) = ap (λ (b : Bool). test (f x) && b) (all_of_field test xs)

some_of_fields :
    {A B C : Type 0} (f : A → B) (g : A → C) (test : B → C → Bool) (xs : List A) →
    some_of_both test (map f xs) (map g xs) ≡ some_of (λ x. test (f x) (g x)) xs
unfolding some_of some_of_both
some_of_fields f g test [] = refl
some_of_fields f g test (x ∷ xs) = ap (λ (b : Bool). test (f x) (g x) || b) (some_of_fields f g test xs)

-- ---- the tests over a share

module _ (x : Columns) (base n : ℕ) (h : base + n ≤ store_length x) where
  pub ids_rise_lem : rises (share base n x.ids) ≡ rises (map (λ (r : Reading). r.id) (rows_from x base n))
  ids_rise_lem = ap rises (sym (ids_share x base n h))

  pub kinds_are_readings :
      all_of is_reading_kind (share base n x.kinds) ≡ all_of (λ (r : Reading). is_reading_kind r.kind) (rows_from x base n)
  kinds_are_readings =
      ap (all_of is_reading_kind) (sym (kinds_share x base n h)) ∙
      all_of_field (λ (r : Reading). r.kind) is_reading_kind (rows_from x base n)

  pub meters_below :
      (limit : ℕ) →
      all_of (λ m. ltb m limit) (share base n x.meters) ≡ all_of (λ (r : Reading). ltb r.meter limit) (rows_from x base n)
  meters_below limit =
      ap (all_of (λ m. ltb m limit)) (sym (meters_share x base n h)) ∙
      all_of_field (λ (r : Reading). r.meter) (λ m. ltb m limit) (rows_from x base n)

  pub some_of_kind :
      (letter : ℕ) →
      some_of (λ kind. eqb kind letter) (share base n x.kinds) ≡ some_of (λ (r : Reading). eqb r.kind letter) (rows_from x base n)
  some_of_kind letter =
      ap (some_of (λ kind. eqb kind letter)) (sym (kinds_share x base n h)) ∙
      some_map (λ (r : Reading). r.kind) (λ kind. eqb kind letter) (rows_from x base n)

  pub some_late_due :
      (bucket p hold : ℕ) (now : ArrivalTick) →
      some_of_both (is_late_due bucket p hold now) (share base n x.times) (share base n x.arrivals) ≡
      some_of (λ (r : Reading). leb p (bucket_of bucket r.time) && is_due hold r.arrival now) (rows_from x base n)
  unfolding is_late_due
  some_late_due bucket p hold now =
      ap₂ (some_of_both (is_late_due bucket p hold now)) (sym (times_share x base n h)) (sym (arrivals_share x base n h)) ∙
      some_of_fields (λ (r : Reading). r.time.0) (λ (r : Reading). r.arrival.0) (is_late_due bucket p hold now) (rows_from x base n)

-- ---- a bucket's readings

-- bucket j's places in shares that keep so many readings each, line by line, the first share from `base` on
unfoldable pub bucket_places : ℕ → ℕ → List ℕ → ℕ → List ℕ → List ℕ
bucket_places length j times base [] = []
bucket_places length j times base (n ∷ ns) =
    places_where (is_time_of true length j) base (share base n times) ++ bucket_places length j times (base + readings_per_line) ns

-- the rows at the places of bucket j's times
rows_inside :
    (x : Columns) (base n bucket j : ℕ) → base + n ≤ store_length x →
    map (λ (i : ℕ). row_at x i) (places_where (is_time_of true bucket j) base (share base n x.times)) ≡
    keep (is_in bucket j) (rows_from x base n)
unfolding is_time_of is_in row_at
rows_inside x base n bucket j h = rows_where x (λ (r : Reading). r.time.0) 0 x.times (λ i. refl) (is_time_of true bucket j) base n (room (base + n) x h).times

-- what was placed on a line, without the line's number
readings_placed : (line : ℕ) (rs : List Reading) → map (λ (q : Placed). q.reading) (map (place line) rs) ≡ rs
readings_placed line [] = refl
readings_placed line (r ∷ rs) = ap (λ (l : List Reading). r ∷ l) (readings_placed line rs)

-- the rows at a bucket's places, in shares from `base` on, are the bucket's readings of the lines numbered from `line` on
pub bucket_rows :
    (x : Columns) (bucket j base line : ℕ) (ns : List ℕ) → Every (λ n. n ≤ readings_per_line) ns →
    base + length ns * readings_per_line ≤ store_length x → map (λ (i : ℕ). row_at x i) (bucket_places bucket j x.times base ns) ≡
    map (λ (q : Placed). q.reading) (gather bucket j line (kept_from x base ns))
unfolding bucket_places kept_from gather
bucket_rows x bucket j base line [] small h = refl
bucket_rows x bucket j base line (n ∷ ns) small h =
    let own : List Reading = keep (is_in bucket j) (rows_from x base n) in
    let fits : base + n ≤ store_length x = omega (arith, small.0) in
    let rest : base + readings_per_line + length ns * readings_per_line ≤ store_length x = omega arith in
    map-append (λ (i : ℕ). row_at x i) (places_where (is_time_of true bucket j) base (share base n x.times)) (bucket_places bucket j x.times (base + readings_per_line) ns) ∙
    ap₂ ◌++◌ (rows_inside x base n bucket j fits ∙ sym (readings_placed line own)) (bucket_rows x bucket j (base + readings_per_line) (suc line) ns small.1 rest) ∙
    sym (map-append (λ (q : Placed). q.reading) (map (place line) own) (gather bucket j (suc line) (kept_from x (base + readings_per_line) ns)))

-- all lines of the store
pub bucket_readings :
    (x : Columns) (bucket j : ℕ) (ns : List ℕ) → Every (λ n. n ≤ readings_per_line) ns → length ns * readings_per_line ≤ store_length x →
    map (λ (i : ℕ). row_at x i) (bucket_places bucket j x.times 0 ns) ≡
    map (λ (q : Placed). q.reading) (gather bucket j 1 (kept_from x 0 ns))
bucket_readings x bucket j ns small h = bucket_rows x bucket j 0 1 ns small (omega arith)
