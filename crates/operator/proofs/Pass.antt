-- One pass over readings in the order met, with the time of each meter's newest reading met so far, makes of the operator what the fold of
-- `add` over the sorted list makes. Meter by meter: count and sum do not mind the order. Inserted into the sorted rest, a reading stands
-- behind every earlier time and before its own and every later one, so the last value of the sorted list is the last one met that is not
-- older than those met before it.
use Prim.Native.Nat.{ℕ, ◌+◌, ◌≤◌, ◌<◌}
use mathlib.Core.Path.{◌≡◌, refl, sym, ◌∙◌, ap}
use mathlib.Core.Bool.{Bool, true, false, cond, ◌&&◌, true≢false, and-true, and-false}
use mathlib.Core.List.{List, [], ◌∷◌, map}
use native.Mathlib.Omega.{arith}
use lib.Dec.{eqb, leb, leb-zero}
use lib.IntN.{ℤ, pos, ◌+ℤ◌, +ℤ_idr, +ℤ_assoc}
use lib.ListN.{length, get_or, replicate, length-set, get_or-replicate}
use lib.Seq.{ext_get_or}
use borrow.Author.Tests.{leb-true, le-leb, lt-leb}
use Rattle.settings.specs.declared.Settings.{Settings}
use Rattle.store.specs.declared.Reading.{Reading}
use Rattle.store.specs.Lists.{Every}
use Rattle.store.specs.Order.{Placed, before, insert, sort}
use Rattle.store.specs.Sorted.{Sorted, TiesInOrder}
use Rattle.store.specs.Columns.{Columns, row_at}
use Rattle.store.proofs.Choices.{cond_either}
use Rattle.store.proofs.Pairs.{every_to}
use Rattle.store.proofs.Permutations.{every_permuted}
use Rattle.store.proofs.Order.{before_times, not_before_times}
use Rattle.store.proofs.Sorting.{sort_permutes, sort_sorted}
use Rattle.operator_meter.specs.declared.Meter.{Meter}
use Rattle.operator.specs.Meters.{Operator, meter_count, add_all}
use Rattle.operator.specs.Pass.{Passing, with_older_value, valued, entered}
use Rattle.operator_meter.specs.Values.{no_meter, with_value, is_counted}
use Rattle.operator.proofs.Values.{counts_for, values_of, total, last_or, count_of, sum_of, count_of_permuted, sum_of_permuted}
use Rattle.operator.proofs.Adding.{meter_of, set_read, add_all_length, add_all_number}
use Rattle.operator.proofs.Totals.{add_all_count, add_all_sum, add_all_last}

-- what a pass over these places makes of the operator: the fold of `add` over the readings that stand there, sorted. The lines may be
-- numbered in any way in which the pass meets readings of equal time in their order.
abbrev pub Passed : Settings → List ℕ → List ℤ → List ℕ → List ℕ → Operator → Operator → Type 0
Passed s times values meters places o r =
    (x : Columns) →
    x.times ≡ times →
    x.values ≡ values →
    x.meters ≡ meters →
    (rs : List Placed) →
    map (λ (q : Placed). q.reading) rs ≡ map (row_at x) places →
    TiesInOrder rs →
    r ≡ add_all s o (sort rs)

-- ---- the pass

-- the start of a pass: no reading is met
unfoldable pub started : Operator → Passing
started o = record { operator = o; newest = replicate meter_count 0 }

-- a reading met
unfoldable pub meet : Settings → Passing → ℕ → ℤ → ℕ → Passing
meet s p t v m = cond (is_counted s v) (entered p t v m) p

-- readings met one after the other
unfoldable pub meet_all : Settings → Passing → List Reading → Passing
meet_all s p [] = p
meet_all s p (r ∷ rs) = meet_all s (meet s p r.time.0 r.value r.meter) rs

-- the readings at these places of the columns, met one after the other
unfoldable pub meet_places : Settings → List ℕ → List ℤ → List ℕ → Passing → List ℕ → Passing
meet_places s times values meters p [] = p
meet_places s times values meters p (i ∷ is) =
    meet_places s times values meters (meet s p (get_or times i 0) (get_or values i (pos 0)) (get_or meters i 0)) is

meet_places_rows : (s : Settings) (x : Columns) (p : Passing) (places : List ℕ) → meet_places s x.times x.values x.meters p places ≡ meet_all s p (map (row_at x) places)
unfolding meet_places meet_all row_at
meet_places_rows s x p [] = refl
meet_places_rows s x p (i ∷ is) = meet_places_rows s x (meet s p (get_or x.times i 0) (get_or x.values i (pos 0)) (get_or x.meters i 0)) is

-- ---- what a reading met keeps

-- what a counted reading leaves alone, every reading does
meet_keeps : {A : Type 0} (f : Passing → A) (s : Settings) (p : Passing) (t : ℕ) (v : ℤ) (m : ℕ) → f (entered p t v m) ≡ f p → f (meet s p t v m) ≡ f p
unfolding meet
meet_keeps f s p t v m h = cond_either (λ (q : Passing). f q ≡ f p) (is_counted s v) (λ e. h) (λ e. refl)

meet_number : (s : Settings) (p : Passing) (t : ℕ) (v : ℤ) (m : ℕ) → (meet s p t v m).operator.number ≡ p.operator.number
unfolding entered
meet_number s p t v m = meet_keeps (λ (q : Passing). q.operator.number) s p t v m refl

meet_meters : (s : Settings) (p : Passing) (t : ℕ) (v : ℤ) (m : ℕ) → length (meet s p t v m).operator.meters ≡ length p.operator.meters
unfolding entered
meet_meters s p t v m = meet_keeps (λ (q : Passing). length q.operator.meters) s p t v m (simp length-set)

meet_newest : (s : Settings) (p : Passing) (t : ℕ) (v : ℤ) (m : ℕ) → length (meet s p t v m).newest ≡ length p.newest
unfolding entered
meet_newest s p t v m = meet_keeps (λ (q : Passing). length q.newest) s p t v m (simp length-set)

meet_all_number : (s : Settings) (p : Passing) (rs : List Reading) → (meet_all s p rs).operator.number ≡ p.operator.number
unfolding meet_all
meet_all_number s p [] = refl
meet_all_number s p (r ∷ rs) =
    meet_all_number s (meet s p r.time.0 r.value r.meter) rs ∙ meet_number s p r.time.0 r.value r.meter

meet_all_meters : (s : Settings) (p : Passing) (rs : List Reading) → length (meet_all s p rs).operator.meters ≡ length p.operator.meters
unfolding meet_all
meet_all_meters s p [] = refl
meet_all_meters s p (r ∷ rs) =
    meet_all_meters s (meet s p r.time.0 r.value r.meter) rs ∙ meet_meters s p r.time.0 r.value r.meter

-- ---- one meter's part

pub valued_count : (b : Bool) (v : ℤ) (m : Meter) → (valued b v m).count ≡ m.count + 1
unfolding valued with_value with_older_value
valued_count true v m = refl
valued_count false v m = refl

pub valued_sum : (b : Bool) (v : ℤ) (m : Meter) → (valued b v m).sum ≡ m.sum +ℤ v
unfolding valued with_value with_older_value
valued_sum true v m = refl
valued_sum false v m = refl

-- meter i while it meets its own readings; n is the time of the newest so far
unfoldable meter_pass : Settings → ℕ → ℕ → Meter → List Placed → Meter
meter_pass s i n m [] = m
meter_pass s i n m (r ∷ rs) =
    cond (counts_for s i r)
    (meter_pass s i (cond (leb n r.reading.time.0) r.reading.time.0 n) (valued (leb n r.reading.time.0) r.reading.value m) rs)
    (meter_pass s i n m rs)

module _ (s : Settings) (p : Passing) (t : ℕ) (v : ℤ) (m i : ℕ) where
  meet_meter : i < length p.operator.meters → meter_of (meet s p t v m).operator i ≡ cond (is_counted s v && eqb m i) (valued (leb (get_or p.newest i 0) t) v (meter_of p.operator i)) (meter_of p.operator i)
  unfolding meet entered meter_of
  meet_meter h =
      elim (is_counted s v) as
      (λ b.
      get_or (cond b (entered p t v m) p).operator.meters i no_meter ≡
      cond (b && eqb m i) (valued (leb (get_or p.newest i 0) t) v (get_or p.operator.meters i no_meter)) (get_or p.operator.meters i no_meter)) [
        | true ↦
            set_read p.operator.meters m i no_meter
            (λ (j : ℕ). valued (leb (get_or p.newest j 0) t) v (get_or p.operator.meters j no_meter)) h
        | false ↦ refl
      ]

  meet_time : i < length p.newest → get_or (meet s p t v m).newest i 0 ≡ cond (is_counted s v && eqb m i) (cond (leb (get_or p.newest i 0) t) t (get_or p.newest i 0)) (get_or p.newest i 0)
  unfolding meet entered
  meet_time h =
      elim (is_counted s v) as
      (λ b.
      get_or (cond b (entered p t v m) p).newest i 0 ≡
      cond (b && eqb m i) (cond (leb (get_or p.newest i 0) t) t (get_or p.newest i 0)) (get_or p.newest i 0)) [
        | true ↦ set_read p.newest m i 0 (λ (j : ℕ). cond (leb (get_or p.newest j 0) t) t (get_or p.newest j 0)) h
        | false ↦ refl
      ]

meet_all_meter : (s : Settings) (p : Passing) (rs : List Placed) (i : ℕ) → i < length p.operator.meters → i < length p.newest → meter_of (meet_all s p (map (λ (q : Placed). q.reading) rs)).operator i ≡ meter_pass s i (get_or p.newest i 0) (meter_of p.operator i) rs
unfolding meet_all meter_pass counts_for
meet_all_meter s p [] i h k = refl
meet_all_meter s p (r ∷ rs) i h k =
    let t : ℕ = r.reading.time.0 in
    let v : ℤ = r.reading.value in
    let m : ℕ = r.reading.meter in
    let n : ℕ = get_or p.newest i 0 in
    let o : Meter = meter_of p.operator i in
    meet_all_meter s (meet s p t v m) rs i (rw (meet_meters s p t v m) h) (rw (meet_newest s p t v m) k) ∙
    rw (meet_meter s p t v m i h, meet_time s p t v m i k)
    (elim (is_counted s v && eqb m i) as
    (λ b.
    meter_pass s i (cond b (cond (leb n t) t n) n) (cond b (valued (leb n t) v o) o) rs ≡
    cond b (meter_pass s i (cond (leb n t) t n) (valued (leb n t) v o) rs) (meter_pass s i n o rs)) [
      | true ↦ refl
      | false ↦ refl
    ])

-- ---- its count and sum

meter_pass_count : (s : Settings) (i n : ℕ) (m : Meter) (rs : List Placed) → (meter_pass s i n m rs).count ≡ m.count + count_of s i rs
unfolding meter_pass count_of values_of
meter_pass_count s i n m [] = omega arith
meter_pass_count s i n m (r ∷ rs) =
    let b : Bool = leb n r.reading.time.0 in
    let m' : Meter = valued b r.reading.value m in
    elim (counts_for s i r) as
    (λ c.
    (cond c (meter_pass s i (cond b r.reading.time.0 n) m' rs) (meter_pass s i n m rs)).count ≡
    m.count + length (cond c (r.reading.value ∷ values_of s i rs) (values_of s i rs))) [
      | true ↦ omega (arith, meter_pass_count s i (cond b r.reading.time.0 n) m' rs, valued_count b r.reading.value m)
      | false ↦ meter_pass_count s i n m rs
    ]

meter_pass_sum : (s : Settings) (i n : ℕ) (m : Meter) (rs : List Placed) → (meter_pass s i n m rs).sum ≡ m.sum +ℤ sum_of s i rs
unfolding meter_pass sum_of values_of total
meter_pass_sum s i n m [] = sym (+ℤ_idr m.sum)
meter_pass_sum s i n m (r ∷ rs) =
    let b : Bool = leb n r.reading.time.0 in
    let v : ℤ = r.reading.value in
    elim (counts_for s i r) as
    (λ c.
    (cond c (meter_pass s i (cond b r.reading.time.0 n) (valued b v m) rs) (meter_pass s i n m rs)).sum ≡
    m.sum +ℤ total (cond c (v ∷ values_of s i rs) (values_of s i rs))) [
      | true ↦
          meter_pass_sum s i (cond b r.reading.time.0 n) (valued b v m) rs ∙
          ap (λ (z : ℤ). z +ℤ total (values_of s i rs)) (valued_sum b v m) ∙
          +ℤ_assoc m.sum v (total (values_of s i rs))
      | false ↦ meter_pass_sum s i n m rs
    ]

-- ---- its last value

-- the values of the readings of meter i from time n on
unfoldable values_from : Settings → ℕ → ℕ → List Placed → List ℤ
values_from s i n [] = []
values_from s i n (r ∷ rs) =
    cond (counts_for s i r && leb n r.reading.time.0) (r.reading.value ∷ values_from s i n rs) (values_from s i n rs)

values_from_zero : (s : Settings) (i : ℕ) (rs : List Placed) → values_from s i 0 rs ≡ values_of s i rs
unfolding values_from values_of
values_from_zero s i [] = refl
values_from_zero s i (r ∷ rs) = rw (leb-zero r.reading.time.0, values_from_zero s i rs, and-true (counts_for s i r))

-- where all are from the later time on, the earlier one says the same
values_from_later : (s : Settings) (i n t : ℕ) (rs : List Placed) → n ≤ t → Every (λ (r : Placed). t ≤ r.reading.time.0) rs → values_from s i n rs ≡ values_from s i t rs
unfolding values_from
values_from_later s i n t [] l h = refl
values_from_later s i n t (r ∷ rs) l h =
    let a : n ≤ r.reading.time.0 = omega (arith, h.0) in
    rw (le-leb n r.reading.time.0 a, le-leb t r.reading.time.0 h.0, values_from_later s i n t rs l h.1)

-- a reading inserted that does not bring a value
insert_dropped : (s : Settings) (i n : ℕ) (r : Placed) (ys : List Placed) → counts_for s i r && leb n r.reading.time.0 ≡ false → values_from s i n (insert r ys) ≡ values_from s i n ys
unfolding insert values_from
insert_dropped s i n r [] e = rw e
insert_dropped s i n r (x ∷ xs) e =
    cond_either (λ (l : List Placed). values_from s i n l ≡ values_from s i n (x ∷ xs)) (before r x)
    (λ b. rw e)
    (λ b. rw (insert_dropped s i n r xs e))

-- a reading inserted that does: behind it stand those of its own time and later ones only
insert_last : (s : Settings) (i n : ℕ) (old : ℤ) (r : Placed) (ys : List Placed) → counts_for s i r ≡ true → n ≤ r.reading.time.0 → Sorted ys → Every (λ (y : Placed). r.reading.time.0 ≡ y.reading.time.0 → before r y ≡ true) ys → last_or old (values_from s i n (insert r ys)) ≡ last_or r.reading.value (values_from s i r.reading.time.0 ys)
unfolding insert values_from last_or
insert_last s i n old r [] c l d ties = rw (c, le-leb n r.reading.time.0 l)
insert_last s i n old r (x ∷ xs) c l d ties =
    let t : ℕ = r.reading.time.0 in
    let u : ℕ = x.reading.time.0 in
    cond_either (λ (q : List Placed). last_or old (values_from s i n q) ≡ last_or r.reading.value (values_from s i t (x ∷ xs))) (before r x)
    (λ b.
    let a : t ≤ u = before_times r x b in
    rw (c, le-leb n t l)
    (ap (last_or r.reading.value)
    (values_from_later s i n t (x ∷ xs) l
    (a, every_to xs (λ (y : Placed) (g : before y x ≡ false). omega (arith, not_before_times y x g)) d.0))))
    (λ b.
    let tied : t ≡ u → ⊥ = λ q. true≢false (sym (ties.0 q) ∙ b) in
    let a : u < t = omega (arith, not_before_times r x b, tied) in
    rw (lt-leb t u a, and-false (counts_for s i x))
    (cond_either (λ (vs : List ℤ). last_or old vs ≡ last_or r.reading.value (values_from s i t xs)) (counts_for s i x && leb n u)
    (λ _. insert_last s i n x.reading.value r xs c l d.1 ties.1)
    (λ _. insert_last s i n old r xs c l d.1 ties.1)))

meter_pass_last : (s : Settings) (i n : ℕ) (m : Meter) (rs : List Placed) → TiesInOrder rs → (meter_pass s i n m rs).last ≡ last_or m.last (values_from s i n (sort rs))
unfolding meter_pass sort values_from last_or valued with_value with_older_value
meter_pass_last s i n m [] h = refl
meter_pass_last s i n m (r ∷ rs) h =
    let t : ℕ = r.reading.time.0 in
    let v : ℤ = r.reading.value in
    cond_either (λ (q : Meter). q.last ≡ last_or m.last (values_from s i n (insert r (sort rs)))) (counts_for s i r)
    (λ c.
    (elim (leb n t) as
    (λ b. leb n t ≡ b → (meter_pass s i (cond b t n) (valued b v m) rs).last ≡ last_or m.last (values_from s i n (insert r (sort rs)))) [
      | true ↦
          λ e.
          meter_pass_last s i t (with_value v m) rs h.1 ∙
          sym
          (insert_last s i n m.last r (sort rs) c (leb-true n t e) (sort_sorted rs)
          (every_permuted (λ (y : Placed). t ≡ y.reading.time.0 → before r y ≡ true) (sort_permutes rs) h.0))
      | false ↦
          λ e.
          meter_pass_last s i n (with_older_value v m) rs h.1 ∙
          ap (last_or m.last) (sym (insert_dropped s i n r (sort rs) (rw (c, e))))
    ])
    refl)
    (λ c. meter_pass_last s i n m rs h.1 ∙ ap (last_or m.last) (sym (insert_dropped s i n r (sort rs) (rw c))))

-- ---- all meters

-- the meter of a pass and that of the sorted fold are the same
meter_sorts : (s : Settings) (o : Operator) (rs : List Placed) → TiesInOrder rs → (i : ℕ) → i < length o.meters → meter_pass s i 0 (meter_of o i) rs ≡ meter_of (add_all s o (sort rs)) i
meter_sorts s o rs h i k =
    let m : Meter = meter_of o i in
    let count : (meter_pass s i 0 m rs).count ≡ m.count + count_of s i (sort rs) =
    meter_pass_count s i 0 m rs ∙ ap (λ (n : ℕ). m.count + n) (count_of_permuted s i (sort_permutes rs)) in
    let sum : (meter_pass s i 0 m rs).sum ≡ m.sum +ℤ sum_of s i (sort rs) =
    meter_pass_sum s i 0 m rs ∙ ap (λ (z : ℤ). m.sum +ℤ z) (sum_of_permuted s i (sort_permutes rs)) in
    let last : (meter_pass s i 0 m rs).last ≡ last_or m.last (values_of s i (sort rs)) =
    meter_pass_last s i 0 m rs h ∙ ap (last_or m.last) (values_from_zero s i (sort rs)) in
    λ j.
    record {
      sum = (sum ∙ sym (add_all_sum s o (sort rs) i k)) j;
      count = (count ∙ sym (add_all_count s o (sort rs) i k)) j;
      last = (last ∙ sym (add_all_last s o (sort rs) i k)) j;
    }

-- a pass over readings of which those of equal time are met in their order
pub pass_sorts : (s : Settings) (o : Operator) (rs : List Placed) → TiesInOrder rs → length o.meters ≡ meter_count → (meet_all s (started o) (map (λ (q : Placed). q.reading) rs)).operator ≡ add_all s o (sort rs)
unfolding started meter_of
pass_sorts s o rs h l =
    let readings : List Reading = map (λ (r : Placed). r.reading) rs in
    let q : Passing = meet_all s (started o) readings in
    let meter : (i : ℕ) → i < meter_count → meter_of q.operator i ≡ meter_of (add_all s o (sort rs)) i =
    λ i k.
    rw (get_or-replicate {A = ℕ} meter_count i 0 0 k) at (meet_all_meter s (started o) rs i (omega arith) k) ∙
    meter_sorts s o rs h i (omega arith) in
    let long : length q.operator.meters ≡ length o.meters = meet_all_meters s (started o) readings in
    λ j.
    record {
      meters =
          ext_get_or no_meter q.operator.meters (add_all s o (sort rs)).meters (long ∙ sym (add_all_length s o (sort rs)))
          (λ i k. meter i (omega arith)) j;
      number = (meet_all_number s (started o) readings ∙ sym (add_all_number s o (sort rs))) j;
    }

-- the same of the readings at these places of the columns
pub places_passed : (s : Settings) (times : List ℕ) (values : List ℤ) (meters places : List ℕ) (o : Operator) → length o.meters ≡ meter_count → Passed s times values meters places o (meet_places s times values meters (started o) places).operator
places_passed s times values meters places o l x t v m rs e h =
    rw (← t, ← v, ← m)
    (ap (λ (q : Passing). q.operator) (meet_places_rows s x (started o) places ∙ ap (meet_all s (started o)) (sym e)) ∙ pass_sorts s o rs h l)
