-- A bucket's readings added place by place, share by share: what is left of the bucket's places leads to the same end, and where the pass
-- stands at place k, no count has grown by more than k and each sum is one that so many values can have.
use Prim.Native.Nat.{ℕ, zero, suc, ◌+◌, ◌-◌, ◌*◌, ◌≤◌, ◌<◌, ◌^◌}
use mathlib.Core.Path.{◌≡◌, refl, sym, ◌∙◌, ap}
use mathlib.Core.Bool.{Bool, true, false, cond, ◌&&◌}
use mathlib.Core.List.{List, [], ◌∷◌, ◌++◌, map}
use native.Mathlib.Omega.{arith}
use native.Mathlib.Numerals.{add-one}
use lib.Dec.{eqb, leb}
use lib.IntN.{ℤ, pos}
use lib.ListN.{length, get_or, drop, drop_of_length-le}
use lib.Seq.{drop-cons}
use lib.Signed.{mag}
use Rattle.clock.specs.Buckets.{bucket_of}
use Rattle.settings.specs.declared.Settings.{Settings}
use Rattle.signed.specs.Range.{InRange}
use Rattle.store.specs.Sizes.{readings_per_line}
use Rattle.store.specs.Lists.{Every}
use Rattle.store.specs.Order.{gather, in_bucket}
use Rattle.store.specs.Columns.{Columns, row_at}
use Rattle.store.specs.Parts.{share, kept_from}
use Rattle.store.proofs.Apart.{gather_ties}
use Rattle.store.proofs.Choices.{cond_either}
use Rattle.store.proofs.Pairs.{every_to, every_set, every_at}
use Rattle.store.proofs.Shares.{share_none, share_cons}
use Rattle.store_places.specs.Places.{first_place, is_time_of}
use Rattle.store_places.proofs.FirstPlaces.{first_within, first_none, first_here, first_next}
use Rattle.store_columns.proofs.Rows.{places_where}
use Rattle.store_columns.proofs.Kept.{bucket_places, bucket_readings}
use Rattle.operator_meter.specs.declared.Meter.{Meter}
use Rattle.operator_meter.specs.Bounds.{count_limit}
use Rattle.operator_meter.specs.Values.{no_meter, is_counted}
use Rattle.operator_meter.proofs.Sums.{add_range}
use Rattle.operator_meter.proofs.Bounds.{Counted, no_counted}
use Rattle.operator.specs.Meters.{Operator, meter_count}
use Rattle.operator.specs.Bucket.{BucketAdded}
use Rattle.operator.specs.Pass.{Passing, valued, entered}
use Rattle.operator.proofs.Pass.{started, valued_count, valued_sum, meet, meet_places, places_passed}

-- the places of bucket j's readings from `at` up to `end`
abbrev places_up_to : Settings → ℕ → List ℕ → ℕ → ℕ → List ℕ
places_up_to s j times at end = places_where (is_time_of true s.bucket j) at (share at (end - at) times)

-- a place visited: a reading of bucket j that counts is entered, any other is passed over
unfoldable pub after_visit : Settings → ℕ → Passing → ℕ → ℤ → ℕ → Passing
after_visit s j p t v m = cond (eqb (bucket_of s.bucket (record { 0 = t })) j && is_counted s v) (entered p t v m) p

-- what the code's two tests tell of it
module _ (s : Settings) (j : ℕ) (p : Passing) (t : ℕ) (v : ℤ) (m : ℕ) (inside counts : Bool)
    (in_told : inside ≡ eqb (bucket_of s.bucket (record { 0 = t })) j) (told : counts ≡ is_counted s v) where
  pub visit_enters : inside && counts ≡ true → entered p t v m ≡ after_visit s j p t v m
  unfolding after_visit
  visit_enters e = rw (rw (in_told, told) at e)

  pub visit_passes : inside && counts ≡ false → p ≡ after_visit s j p t v m
  unfolding after_visit
  visit_passes e = rw (rw (in_told, told) at e)

-- ---- how much a pass counts

counted_more : (n k : ℕ) (ms : List Meter) → n ≤ k → Every (Counted n) ms → Every (Counted k) ms
counted_more n k ms l = every_to ms (λ m g. record { count = omega (arith, g.count); range = g.range })

-- a place visited counts at most one more, and leaves a sum that so many values can have
visit_counted :
    (s : Settings) (j n : ℕ) (p : Passing) (t : ℕ) (v : ℤ) (m : ℕ) → mag v < 2 ^ 31 → Every (Counted n) p.operator.meters →
    Every (Counted (suc n)) (after_visit s j p t v m).operator.meters
unfolding after_visit entered
visit_counted s j n p t v m f h =
    let more : Every (Counted (suc n)) p.operator.meters = counted_more n (suc n) p.operator.meters (omega arith) h in
    let b : Bool = leb (get_or p.newest m 0) t in
    let old : Meter = get_or p.operator.meters m no_meter in
    let g : Counted n old = every_at (Counted n) p.operator.meters m no_meter (no_counted n) h in
    cond_either (λ (q : Passing). Every (Counted (suc n)) q.operator.meters)
    (eqb (bucket_of s.bucket (record { 0 = t })) j && is_counted s v)
    (λ e.
    every_set (Counted (suc n)) p.operator.meters m (valued b v old)
    (record {
      count = omega (arith, valued_count b v old, g.count);
      range = rw (valued_sum b v old, valued_count b v old) (add_range old.count old.sum v g.range f);
    })
    more)
    (λ e. more)

-- ---- place by place, in one share

-- no place before the first whose number passes the test is one of those that pass it
places_skipped :
    (test : ℕ → Bool) (end : ℕ) (xs : List ℕ) → end ≤ length xs → (n at : ℕ) → at + n ≡ end →
    places_where test at (share at (end - at) xs) ≡
    places_where test (first_place test at end xs) (share (first_place test at end xs) (end - first_place test at end xs) xs)
unfolding places_where
places_skipped test end xs room zero at e =
    let last : at ≡ end = omega arith in
    rw (first_none 0 test end xs room at last, last)
places_skipped test end xs room (suc n) at e =
    let more : at < end = omega arith in
    let count : end - at ≡ suc (end - suc at) = omega arith in
    (elim (test (get_or xs at 0)) as (λ b. test (get_or xs at 0) ≡ b → places_where test at (share at (end - at) xs) ≡
    places_where test (first_place test at end xs) (share (first_place test at end xs) (end - first_place test at end xs) xs)) [
      | true ↦ λ f. rw (first_here 0 test end xs room at more f)
      | false ↦ λ f.
          rw (first_next 0 test end xs room at more f, count, share_cons 0 at (end - suc at) xs (omega arith), f)
          (places_skipped test end xs room n (suc at) (omega arith))
    ])
    refl

-- a pass that met the bucket's places from `from` on, where it was p₀, up to `at`, where it is p; the share's readings end at `end`
pub record Turn (s : Settings) (j : ℕ) (times : List ℕ) (values : List ℤ) (meters : List ℕ) (p₀ p : Passing) (from at end : ℕ) : Type 0 where
  pub behind : from ≤ at
  pub within : at ≤ end
  pub counted : Every (Counted (count_limit + at)) p.operator.meters
  pub left :
      meet_places s times values meters p (places_up_to s j times at end) ≡ meet_places s times values meters p₀ (places_up_to s j times from end)

module _ (s : Settings) (j : ℕ) (times : List ℕ) (values : List ℤ) (meters : List ℕ) where
  -- the first of the places that are left, visited
  visit_next :
      (p : Passing) (at end : ℕ) → at < end → end ≤ length times →
      meet_places s times values meters p (places_up_to s j times at end) ≡
      meet_places s times values meters (after_visit s j p (get_or times at 0) (get_or values at (pos 0)) (get_or meters at 0))
      (places_up_to s j times (suc at) end)
  unfolding places_where is_time_of meet_places meet after_visit
  visit_next p at end l room =
      let n : end - at ≡ suc (end - suc at) = omega arith in
      let t : ℕ = get_or times at 0 in
      let v : ℤ = get_or values at (pos 0) in
      let m : ℕ = get_or meters at 0 in
      let rest : List ℕ = places_up_to s j times (suc at) end in
      rw (n, share_cons 0 at (end - suc at) times (omega arith))
      (elim (eqb (bucket_of s.bucket (record { 0 = t })) j) as
      (λ b.
      meet_places s times values meters p (cond b (at ∷ rest) rest) ≡
      meet_places s times values meters (cond (b && is_counted s v) (entered p t v m) p) rest) [
        | true ↦ refl
        | false ↦ refl
      ])

  pub turn_start :
      (p : Passing) (at end : ℕ) → at ≤ end → Every (Counted (count_limit + at)) p.operator.meters →
      Turn s j times values meters p p at at end
  turn_start p at end l h = record { behind = omega arith; within = l; counted = h; left = refl }

  module _ (p₀ p : Passing) (from at end : ℕ) (h : Turn s j times values meters p₀ p from at end) where
    pub turn_more :
        at < end → end ≤ length times → mag (get_or values at (pos 0)) < 2 ^ 31 →
        Turn s j times values meters p₀ (after_visit s j p (get_or times at 0) (get_or values at (pos 0)) (get_or meters at 0)) from (at + 1) end
    turn_more l room f =
        let n : suc (count_limit + at) ≡ count_limit + suc at = omega arith in
        rw (add-one at)
        (record {
          behind = omega (arith, h.behind);
          within = omega arith;
          counted =
              rw n at
              (visit_counted s j (count_limit + at) p (get_or times at 0) (get_or values at (pos 0)) (get_or meters at 0) f h.counted);
          left = sym (visit_next p at end l room) ∙ h.left;
        })

    -- what stands before the bucket's next reading is passed over
    pub turn_skips :
        (next : ℕ) → next ≡ first_place (is_time_of true s.bucket j) at end times → end ≤ length times →
        Turn s j times values meters p₀ p from next end
    turn_skips next e room =
        let (above, below) = rw (← e) at (first_within (is_time_of true s.bucket j) at end times h.within) in
        record {
          behind = omega (arith, h.behind);
          within = below;
          counted = counted_more (count_limit + at) (count_limit + next) p.operator.meters (omega arith) h.counted;
          left =
              ap (meet_places s times values meters p)
              (rw e (sym (places_skipped (is_time_of true s.bucket j) end times room (end - at) at (omega (arith, h.within))))) ∙
              h.left;
        }

    pub turn_end : end ≤ at → p ≡ meet_places s times values meters p₀ (places_up_to s j times from end)
    unfolding places_where meet_places
    turn_end l = let n : end - at ≡ 0 = omega arith in rw (n, share_none {A = ℕ} at times) at h.left

-- ---- share by share

-- a pass from operator o that has met the bucket's places in the shares of the first i lines
pub record Lines (s : Settings) (j : ℕ) (times : List ℕ) (values : List ℤ) (meters kept : List ℕ) (o : Operator) (p : Passing) (i : ℕ) : Type 0 where
  pub within : i ≤ length kept
  pub counted : Every (Counted (count_limit + i * readings_per_line)) p.operator.meters
  pub left :
      meet_places s times values meters p (bucket_places s.bucket j times (i * readings_per_line) (drop i kept)) ≡
      meet_places s times values meters (started o) (bucket_places s.bucket j times 0 kept)

module _ (s : Settings) (j : ℕ) (times : List ℕ) (values : List ℤ) (meters kept : List ℕ) (o : Operator) where
  meet_append :
      (p : Passing) (is js : List ℕ) →
      meet_places s times values meters p (is ++ js) ≡ meet_places s times values meters (meet_places s times values meters p is) js
  unfolding meet_places
  meet_append p [] js = refl
  meet_append p (i ∷ is) js =
      meet_append (meet s p (get_or times i 0) (get_or values i (pos 0)) (get_or meters i 0)) is js

  pub lines_start : Every (Counted count_limit) o.meters → Lines s j times values meters kept o (started o) 0
  unfolding started
  lines_start h = record { within = omega arith; counted = h; left = refl }

  module _ (p : Passing) (i : ℕ) (h : Lines s j times values meters kept o p i) where
    -- one line more, whose share's places are all behind
    pub lines_more :
        (q : Passing) (at end : ℕ) → i < length kept → get_or kept i 0 ≤ readings_per_line → end ≡ i * readings_per_line + get_or kept i 0 →
        Turn s j times values meters p q (i * readings_per_line) at end → end ≤ at →
        Lines s j times values meters kept o q (i + 1)
    unfolding bucket_places
    lines_more q at end l small e t done =
        let base : ℕ = i * readings_per_line in
        let n : end - base ≡ get_or kept i 0 = omega arith in
        let next : suc i * readings_per_line ≡ base + readings_per_line = omega arith in
        let own = places_up_to s j times base end in
        let others = bucket_places s.bucket j times (base + readings_per_line) (drop (suc i) kept) in
        rw (add-one i)
        (record {
          within = omega arith;
          counted =
              counted_more (count_limit + at) (count_limit + suc i * readings_per_line) q.operator.meters
              (omega (arith, t.within)) t.counted;
          left =
              rw next
              (ap (λ (r : Passing). meet_places s times values meters r others) (turn_end s j times values meters p q base at end t done) ∙
              sym (meet_append p own others) ∙
              rw n (rw (drop-cons kept i 0 l) at h.left));
        })

    -- each sum is one that so many values can have
    pub lines_in_range : Every (λ (m : Meter). InRange m.sum m.count) p.operator.meters
    lines_in_range = every_to p.operator.meters (λ m g. g.range) h.counted

-- the shares of all lines are behind: the bucket's readings are added
pub lines_end :
    (s : Settings) (j : ℕ) (x : Columns) (kept : List ℕ) (o : Operator) (p : Passing) (i : ℕ) →
    Lines s j x.times x.values x.meters kept o p i → length kept ≤ i → length o.meters ≡ meter_count →
    Every (λ n. n ≤ readings_per_line) kept → BucketAdded s j kept x o p.operator
unfolding bucket_places meet_places in_bucket
lines_end s j x kept o p i h l long small y t v m room rising =
    let places = bucket_places s.bucket j x.times 0 kept in
    let end : p ≡ meet_places s x.times x.values x.meters (started o) places = rw (drop_of_length-le kept {i = i} l) at h.left in
    ap (λ (q : Passing). q.operator) end ∙
    places_passed s x.times x.values x.meters places o long y t v m (gather s.bucket j 1 (kept_from y 0 kept))
    (sym (bucket_readings y s.bucket j kept small room) ∙
    ap (λ (ts : List ℕ). map (row_at y) (bucket_places s.bucket j ts 0 kept)) t)
    (gather_ties s.bucket j 1 (kept_from y 0 kept) rising)
