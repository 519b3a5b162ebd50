-- A bucket's kept readings added, in what is held and a store: what the heads tell of the lines in use can be added, and the operator that
-- has them added has the bucket's readings in their order. By the laws on shares, on what the lines keep and on the shape.
use Prim.Native.Nat.{ℕ, zero, suc, ◌+◌, ◌*◌, ◌≤◌, ◌<◌}
use mathlib.Core.Path.{◌≡◌, refl, ap, subst}
use mathlib.Core.List.{List, [], ◌∷◌, map}
use native.Mathlib.Omega.{arith}
use lib.ListN.{length, take, length-map, length-take}
use Rattle.store.specs.declared.Reading.{Reading}
use Rattle.store.specs.declared.Store.{Store}
use Rattle.store.specs.Sizes.{readings_per_line}
use Rattle.store.specs.Lists.{Every}
use Rattle.store.specs.Order.{in_bucket}
use Rattle.store.specs.Sorted.{Rising}
use Rattle.store.specs.Columns.{Columns, store_length, rows_from}
use Rattle.store.specs.Lent.{columns}
use Rattle.store.specs.Parts.{kept_from}
use Rattle.store.proofs.Pairs.{every_to, every_map}
use Rattle.store.proofs.Columns.{Room, room}
use Rattle.store_columns.proofs.Rows.{meters_share}
use Rattle.operator.specs.Meters.{Operator, meter_count, add_all}
use Rattle.operator.specs.Bucket.{MetersKnown, Addable, BucketAdded}
use Rattle.protocol.specs.Node.{Line, kept_of}
use Rattle.node.specs.declared.LineHead.{LineHead}
use Rattle.node.specs.Held.{Held}
use Rattle.node.specs.View.{places, view}
use Rattle.node.proofs.Limits.{limits_hold}
use Rattle.node.proofs.Shape.{HeadShape, ReadingShape, KeptShape, StateShape, state_facts, operator_within}
use Rattle.node.proofs.KeptLines.{view_kept, kept_rising}
use Rattle.step_work.specs.Stores.{StoreOf, SomeStore}

-- ---- how many readings the lines keep

abbrev counts : Held → List ℕ
counts st = map (λ (h : LineHead). h.kept) (take st.settings.lines st.heads)

take_map : {A B : Type 0} (f : A → B) (n : ℕ) (xs : List A) → take n (map f xs) ≡ map f (take n xs)
take_map f zero xs = refl
take_map f (suc n) [] = refl
take_map f (suc n) (x ∷ xs) = ap (λ l. f x ∷ l) (take_map f n xs)

-- what the heads tell of all lines, cut off behind the lines in use
abbrev pub Told : Held → List ℕ → Type 0
Told st kept = kept ≡ map (λ (h : LineHead). h.kept) st.heads

counts_told : (st : Held) (kept : List ℕ) → Told st kept → take st.settings.lines kept ≡ counts st
counts_told st kept told = rw told (take_map (λ (h : LineHead). h.kept) st.settings.lines st.heads)

few_counts : (st : Held) → length (counts st) ≤ st.settings.lines
few_counts st =
    omega (
      arith,
      length-map (take st.settings.lines st.heads) (λ (h : LineHead). h.kept),
      length-take st.settings.lines st.heads,
    )

-- ---- the meters in the shares

-- where the readings that the shares hold are of known meters, the meters' column has known ones in the shares
meters_known :
    (x : Columns) (base : ℕ) (ns : List ℕ) → Every (λ n. n ≤ readings_per_line) ns → base + length ns * readings_per_line ≤ store_length x →
    Every (λ (rs : List Reading). Every (λ (r : Reading). r.meter < meter_count) rs) (kept_from x base ns) →
    MetersKnown x.meters base ns
unfolding kept_from
meters_known x base [] small h known = tt
meters_known x base (n ∷ ns) small h known = (
  subst (Every (λ m. m < meter_count)) (meters_share x base n (omega (arith, small.0)))
      (every_map (λ (r : Reading). r.meter) (λ m. m < meter_count) (rows_from x base n) known.0),
  meters_known x (base + readings_per_line) ns small.1 (omega arith) known.1,
)

module _ (st : Held) (x : Columns) (h : places st ≤ store_length x) (shape : StateShape st x) where
  counts_room : length (counts st) * readings_per_line ≤ store_length x
  unfolding places
  counts_room = omega (arith, few_counts st)

  heads_small : Every (λ (g : LineHead). g.kept ≤ readings_per_line) (take st.settings.lines st.heads)
  heads_small = every_to (take st.settings.lines st.heads) (λ (g : LineHead) (s : HeadShape g). s.kept) shape.heads

  counts_small : Every (λ n. n ≤ readings_per_line) (counts st)
  counts_small = every_map (λ (g : LineHead). g.kept) (λ n. n ≤ readings_per_line) (take st.settings.lines st.heads) heads_small

  -- what the shares hold is what the lines keep
  kept_lines : kept_of (view st x).lines ≡ kept_from x 0 (counts st)
  kept_lines = view_kept st x heads_small

  counts_known : MetersKnown x.meters 0 (counts st)
  unfolding kept_of
  counts_known =
      let known : Every (λ (rs : List Reading). Every (λ (r : Reading). r.meter < meter_count) rs) (kept_of (view st x).lines) =
      every_map (λ (l : Line). l.kept) (Every (λ (r : Reading). r.meter < meter_count)) (view st x).lines
      (every_to (view st x).lines
      (λ (l : Line) (s : KeptShape l). every_to l.kept (λ (r : Reading) (t : ReadingShape r). t.meter) s.readings)
      shape.lines) in
      meters_known x 0 (counts st) counts_small (omega (arith, counts_room)) (rw kept_lines at known)

  counts_rising : Every Rising (kept_from x 0 (counts st))
  counts_rising = rw kept_lines at (kept_rising (view st x).lines shape.lines)

-- ---- what the lines keep can be added, and is added

module _ (st : Held) (readings : Store) (kept : List ℕ) (told : Told st kept) where
  pub kept_addable :
      SomeStore st readings →
      Addable st.settings (take st.settings.lines kept) (columns readings) st.operator
  kept_addable some =
      let x : Columns = some.store in
      let shape : StateShape st x = state_facts st x some.is.shape in
      let limits = limits_hold st.settings shape.limits in
      let wide = counts_room st x some.is.room shape in
      let r : Room (store_length x) x = room (store_length x) x (omega arith) in
      rw (counts_told st kept told, ← some.is.of_times, ← some.is.of_values, ← some.is.of_meters)
      record {
        lines = omega (arith, few_counts st, limits.lines);
        bucket = omega (arith, limits.least_bucket);
        small = counts_small st x some.is.room shape;
        of_times = omega (arith, wide, r.times);
        of_values = omega (arith, wide, r.values);
        of_meters = omega (arith, wide, r.meters);
        known = counts_known st x some.is.room shape;
        bounds = operator_within st x some.is.shape;
      }

  pub kept_added :
      (j : ℕ) (next : Operator) →
      BucketAdded st.settings j (take st.settings.lines kept) (columns readings) st.operator next →
      (x : Columns) → StoreOf st readings x →
      next ≡ add_all st.settings st.operator (in_bucket st.settings.bucket j (kept_of (view st x).lines))
  kept_added j next added x is =
      let shape : StateShape st x = state_facts st x is.shape in
      let told_added = rw (counts_told st kept told) at added in
      rw (kept_lines st x is.room shape)
      (told_added x is.of_times is.of_values is.of_meters (counts_room st x is.room shape) (counts_rising st x is.room shape))
