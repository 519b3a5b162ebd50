-- A state and a store of which the facts of refusal 4 hold pass its test: the other direction of the node's law on shape. Each fact by
-- itself is turned into its test, then those of a list and the chain of all.
use Prim.Native.Nat.{ℕ, ◌+◌, ◌*◌}
use mathlib.Core.Path.{◌≡◌, refl}
use mathlib.Core.Logic.{⊎_elim}
use mathlib.Core.Bool.{Bool, true, false, cond, ◌&&◌, ◌||◌}
use mathlib.Core.List.{List, [], ◌∷◌}
use native.Mathlib.Omega.{arith}
use borrow.Author.Tests.{le-leb, lt-ltb, eq-eqb, eqb-true}
use lib.Dec.{leb, ltb, eqb}
use lib.IntN.{ℤ, pos, negsuc}
use lib.ListN.{take}
use Rattle.signed.specs.Range.{InRange}
use Rattle.journal.specs.Kinds.{letter_s, letter_t}
use Rattle.store.specs.declared.Reading.{Reading}
use Rattle.store.specs.Lists.{Every, all_of}
use Rattle.operator_meter.specs.declared.Meter.{Meter}
use Rattle.operator.specs.Meters.{meter_count}
use Rattle.protocol.specs.declared.Phase.{Phase}
use Rattle.protocol.specs.Node.{Line}
use Rattle.store.specs.Sizes.{readings_per_line}
use Rattle.node.specs.Sizes.{results_per_bucket, last_bucket}
use Rattle.operator_meter.specs.Bounds.{count_limit, sum_ok, meter_ok}
use Rattle.operator_meter.proofs.Bounds.{Counted}
use Rattle.store_columns.specs.Shape.{rises, is_reading_kind}
use Rattle.node.specs.View.{Lent, view}
use Rattle.retransmission.specs.Sizes.{held_results}
use Rattle.node.specs.Shape.{reading_ok, ids_rise, head_ok, kept_ok, phase_ok, buckets_ok, numbers_ok, display_ok, displays_ok, sent_ok, state_in_shape, in_shape}
use Rattle.node.specs.declared.LineHead.{LineHead}
use Rattle.node.specs.Held.{Held}
use Rattle.node.proofs.Shape.{HeadShape, ReadingShape, Rising, KeptShape, PhaseShape, BucketsShape, NumbersShape, DisplayShape, InShape}

-- ---- tests joined, and tests of a list

both : (a b : Bool) → a ≡ true → b ≡ true → a && b ≡ true
both true b p q = q
both false b p q = p

or_left : (a b : Bool) → a ≡ true → a || b ≡ true
or_left true b e = refl
or_left false true e = refl
or_left false false e = e

or_right : (a b : Bool) → b ≡ true → a || b ≡ true
or_right true b e = refl
or_right false b e = e

all_pass :
    {A : Type 0} (law : A → Type 0) (test : A → Bool) → ((x : A) → law x → test x ≡ true) → (xs : List A) → Every law xs →
    all_of test xs ≡ true
unfolding all_of
all_pass law test f [] h = refl
all_pass law test f (x ∷ xs) h = both (test x) (all_of test xs) (f x h.0) (all_pass law test f xs h.1)

-- ---- one test each

head_passes : (h : LineHead) → HeadShape h → head_ok h ≡ true
unfolding head_ok
head_passes h v =
    both (leb h.kept readings_per_line) (leb h.last_stable_id h.last_id) (le-leb _ _ v.kept) (le-leb _ _ v.stable)

reading_passes : (r : Reading) → ReadingShape r → reading_ok r ≡ true
unfolding reading_ok is_reading_kind
reading_passes r v =
    both (eqb r.kind letter_s || eqb r.kind letter_t) (ltb r.meter meter_count)
    (⊎_elim
    (λ e. or_left (eqb r.kind letter_s) (eqb r.kind letter_t) (eq-eqb r.kind letter_s e))
    (λ e. or_right (eqb r.kind letter_s) (eqb r.kind letter_t) (eq-eqb r.kind letter_t e))
    v.kind)
    (lt-ltb r.meter meter_count v.meter)

rising_passes : (rs : List Reading) → Rising rs → ids_rise rs ≡ true
unfolding ids_rise rises
rising_passes [] h = refl
rising_passes (r ∷ []) h = refl
rising_passes (r ∷ q ∷ rs) h =
    both (ltb r.id q.id) (ids_rise (q ∷ rs)) (lt-ltb r.id q.id h.0) (rising_passes (q ∷ rs) h.1)

kept_passes : (l : Line) → KeptShape l → kept_ok l ≡ true
unfolding kept_ok
kept_passes l v =
    both (all_of reading_ok l.kept) (ids_rise l.kept) (all_pass ReadingShape reading_ok reading_passes l.kept v.readings)
    (rising_passes l.kept v.rising)

phase_passes : (c p : ℕ) (phase : Phase) → PhaseShape c p phase → phase_ok c p phase ≡ true
unfolding phase_ok
phase_passes c p Phase.Stable h = eq-eqb p c h
phase_passes c p Phase.Failure h = lt-ltb c p h
phase_passes c p Phase.Correcting h = eq-eqb p c h

buckets_pass : (st : Held) → BucketsShape st → buckets_ok st ≡ true
unfolding buckets_ok
buckets_pass st v =
    let d : Bool = phase_ok st.c st.p st.phase in
    both (leb st.c st.p) (leb st.p last_bucket && d) (le-leb _ _ v.order)
    (both (leb st.p last_bucket) d (le-leb st.p last_bucket v.last) (phase_passes st.c st.p st.phase v.phase))

level_passes : (a b c p : ℕ) → (p ≡ c → a ≡ b) → cond (eqb p c) (leb a b) true ≡ true
level_passes a b c p h =
    (elim (eqb p c) as (λ t. eqb p c ≡ t → cond t (leb a b) true ≡ true) [
      | true ↦ λ e. let q : a ≡ b = h (eqb-true p c e) in le-leb a b (omega arith)
      | false ↦ λ e. refl
    ])
    refl

numbers_pass : (st : Held) → NumbersShape st → numbers_ok st ≡ true
unfolding numbers_ok
numbers_pass st v =
    let a : Bool = leb st.checkpoint.number (results_per_bucket * st.c) in
    let b : Bool = leb st.operator.number (results_per_bucket * st.p) in
    let d : Bool = leb st.checkpoint.number st.operator.number in
    let g : Bool = cond (eqb st.p st.c) (leb st.operator.number st.checkpoint.number) true in
    both a (b && (d && g)) (le-leb _ _ v.stable)
    (both b (d && g) (le-leb _ _ v.newest)
    (both d g (le-leb _ _ v.order) (level_passes st.operator.number st.checkpoint.number st.c st.p v.level)))

sum_passes : (z : ℤ) (count : ℕ) → InRange z count → sum_ok z count ≡ true
unfolding sum_ok
sum_passes (pos a) count h = le-leb _ _ h
sum_passes (negsuc a) count h = le-leb _ _ h

meter_passes : (m : Meter) → Counted count_limit m → meter_ok m ≡ true
unfolding meter_ok
meter_passes m v =
    both (leb m.count count_limit) (sum_ok m.sum m.count) (le-leb m.count count_limit v.count) (sum_passes m.sum m.count v.range)

-- ---- all tests

display_passes : (newest id : ℕ) → DisplayShape newest id → display_ok newest id ≡ true
unfolding display_ok
display_passes newest id v =
    both (leb id newest) (leb newest (id + held_results)) (le-leb id newest v.known) (le-leb newest (id + held_results) v.near)

pub facts_in_shape : (st : Held) (x : Lent) → InShape st x → in_shape st x ≡ true
unfolding in_shape state_in_shape displays_ok
facts_in_shape st x v =
    let b : Bool = all_of head_ok (take st.settings.lines st.heads) in
    let c : Bool = all_of kept_ok (view st x.readings).lines in
    let d : Bool = buckets_ok st in
    let f : Bool = numbers_ok st in
    let g : Bool = all_of meter_ok st.operator.meters in
    let h : Bool = all_of meter_ok st.checkpoint.meters in
    let ids : List ℕ = take st.settings.displays st.acknowledged in
    let i : Bool = all_of (display_ok st.checkpoint.number) ids in
    let j : Bool = sent_ok st x.sent in
    both _ (i && j)
    (both _ (b && (c && (d && (f && (g && h))))) v.limits
    (both b (c && (d && (f && (g && h)))) (all_pass HeadShape head_ok head_passes (take st.settings.lines st.heads) v.heads)
    (both c (d && (f && (g && h))) (all_pass KeptShape kept_ok kept_passes (view st x.readings).lines v.lines)
    (both d (f && (g && h)) (buckets_pass st v.buckets)
    (both f (g && h) (numbers_pass st v.numbers)
    (both g h (all_pass (Counted count_limit) meter_ok meter_passes st.operator.meters v.operator)
    (all_pass (Counted count_limit) meter_ok meter_passes st.checkpoint.meters v.checkpoint)))))))
    (both i j (all_pass (DisplayShape st.checkpoint.number) (display_ok st.checkpoint.number) (display_passes st.checkpoint.number) ids v.displays) v.sent)
