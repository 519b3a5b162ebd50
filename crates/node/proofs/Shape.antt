-- A state and a store in shape, fact by fact: what the one test of refusal 4 says, taken apart. Each test by itself is turned into its
-- fact, then the tests of a list and the chain of all.
use Prim.Native.Nat.{ℕ, ◌+◌, ◌*◌, ◌≤◌, ◌<◌}
use mathlib.Core.Path.{◌≡◌, refl}
use mathlib.Core.Logic.{◌⊎◌, inl, inr, ⊎_elim}
use mathlib.Core.Bool.{Bool, true, false, cond, ◌&&◌, ◌||◌}
use mathlib.Core.List.{List, [], ◌∷◌}
use native.Mathlib.Omega.{arith}
use borrow.Author.Tests.{leb-true, ltb-true, eqb-true, eq-eqb}
use lib.Dec.{leb, ltb, eqb}
use lib.ListN.{take}
use Rattle.settings.specs.Limits.{within_limits}
use Rattle.journal.specs.Kinds.{letter_s, letter_t}
use Rattle.store.specs.declared.Reading.{Reading}
use Rattle.store.specs.Lists.{Every, all_of}
use Rattle.store.proofs.Choices.{and_parts}
use Rattle.store.proofs.Pairs.{every_to, every_passes}
use Rattle.operator.specs.Meters.{meter_count}
use Rattle.protocol.specs.declared.Phase.{Phase}
use Rattle.protocol.specs.Node.{Line}
use Rattle.store.specs.Sizes.{readings_per_line}
use Rattle.node.specs.Sizes.{results_per_bucket, last_bucket}
use Rattle.operator_meter.specs.Bounds.{count_limit, meter_ok}
use Rattle.operator_meter.proofs.Bounds.{Counted, meters_ok}
use Rattle.store_columns.specs.Shape.{rises, is_reading_kind}
use Rattle.retransmission.specs.Sizes.{held_results}
use Rattle.store.specs.Columns.{Columns}
use Rattle.node.specs.View.{Lent, view}
use Rattle.node.specs.Shape.{reading_ok, ids_rise, head_ok, kept_ok, phase_ok, buckets_ok, numbers_ok}
use Rattle.node.specs.Shape.{display_ok, displays_ok, sent_ok, state_in_shape, in_shape}
use Rattle.node.specs.declared.LineHead.{LineHead}
use Rattle.node.specs.Held.{Held}

-- ---- one test each

or_cases : (a b : Bool) → a || b ≡ true → (a ≡ true) ⊎ (b ≡ true)
or_cases true b e = inl refl
or_cases false b e = inr e

-- a head in shape
pub record HeadShape (h : LineHead) : Type 0 where
  pub kept : h.kept ≤ readings_per_line
  pub stable : h.last_stable_id ≤ h.last_id

head_shape : (h : LineHead) → head_ok h ≡ true → HeadShape h
unfolding head_ok
head_shape h e =
    let a : Bool = leb h.kept readings_per_line in
    let b : Bool = leb h.last_stable_id h.last_id in
    record { kept = leb-true _ _ (and_parts a b e).0; stable = leb-true _ _ (and_parts a b e).1 }

-- a kept reading in shape
pub record ReadingShape (r : Reading) : Type 0 where
  pub kind : (r.kind ≡ letter_s) ⊎ (r.kind ≡ letter_t)
  pub meter : r.meter < meter_count

reading_shape : (r : Reading) → reading_ok r ≡ true → ReadingShape r
unfolding reading_ok is_reading_kind
reading_shape r e =
    let a : Bool = eqb r.kind letter_s || eqb r.kind letter_t in
    let b : Bool = ltb r.meter meter_count in
    record {
      kind =
          ⊎_elim (λ t. inl (eqb-true _ _ t)) (λ t. inr (eqb-true _ _ t))
          (or_cases (eqb r.kind letter_s) (eqb r.kind letter_t) (and_parts a b e).0);
      meter = ltb-true _ _ (and_parts a b e).1;
    }

-- each id above the one before it
abbrev pub Rising : List Reading → Type 0
Rising [] = Unit {0}
Rising (r ∷ []) = Unit {0}
Rising (r ∷ q ∷ rs) = (r.id < q.id) × Rising (q ∷ rs)

pub ids_rise_lem : (rs : List Reading) → ids_rise rs ≡ true → Rising rs
unfolding ids_rise rises
ids_rise_lem [] e = tt
ids_rise_lem (r ∷ []) e = tt
ids_rise_lem (r ∷ q ∷ rs) e =
    let a : Bool = ltb r.id q.id in
    (ltb-true _ _ (and_parts a (ids_rise (q ∷ rs)) e).0, ids_rise_lem (q ∷ rs) (and_parts a (ids_rise (q ∷ rs)) e).1)

-- a line's kept readings in shape
pub record KeptShape (l : Line) : Type 0 where
  pub readings : Every ReadingShape l.kept
  pub rising : Rising l.kept

kept_shape : (l : Line) → kept_ok l ≡ true → KeptShape l
unfolding kept_ok
kept_shape l e =
    let a : Bool = all_of reading_ok l.kept in
    record {
      readings = every_to l.kept reading_shape (every_passes reading_ok l.kept (and_parts a (ids_rise l.kept) e).0);
      rising = ids_rise_lem l.kept (and_parts a (ids_rise l.kept) e).1;
    }

-- tentative work is out exactly in `failure`
abbrev pub PhaseShape : ℕ → ℕ → Phase → Type 0
PhaseShape c p Phase.Stable = p ≡ c
PhaseShape c p Phase.Failure = c < p
PhaseShape c p Phase.Correcting = p ≡ c

phase_shape : (c p : ℕ) (phase : Phase) → phase_ok c p phase ≡ true → PhaseShape c p phase
unfolding phase_ok
phase_shape c p Phase.Stable e = eqb-true _ _ e
phase_shape c p Phase.Failure e = ltb-true _ _ e
phase_shape c p Phase.Correcting e = eqb-true _ _ e

-- c and p
pub record BucketsShape (st : Held) : Type 0 where
  pub order : st.c ≤ st.p
  pub last : st.p ≤ last_bucket
  pub phase : PhaseShape st.c st.p st.phase

buckets_shape : (st : Held) → buckets_ok st ≡ true → BucketsShape st
unfolding buckets_ok
buckets_shape st e =
    let a : Bool = leb st.c st.p in
    let b : Bool = leb st.p last_bucket in
    let d : Bool = phase_ok st.c st.p st.phase in
    let r : b && d ≡ true = (and_parts a (b && d) e).1 in
    record {
      order = leb-true _ _ (and_parts a (b && d) e).0;
      last = leb-true _ _ (and_parts b d r).0;
      phase = phase_shape st.c st.p st.phase (and_parts b d r).1;
    }

-- the last stable result's id and the newest one's
pub record NumbersShape (st : Held) : Type 0 where
  pub stable : st.checkpoint.number ≤ results_per_bucket * st.c
  pub newest : st.operator.number ≤ results_per_bucket * st.p
  pub order : st.checkpoint.number ≤ st.operator.number
  pub level : st.p ≡ st.c → st.operator.number ≡ st.checkpoint.number

numbers_shape : (st : Held) → numbers_ok st ≡ true → NumbersShape st
unfolding numbers_ok
numbers_shape st e =
    let a : Bool = leb st.checkpoint.number (results_per_bucket * st.c) in
    let b : Bool = leb st.operator.number (results_per_bucket * st.p) in
    let d : Bool = leb st.checkpoint.number st.operator.number in
    let g : Bool = cond (eqb st.p st.c) (leb st.operator.number st.checkpoint.number) true in
    let r : b && (d && g) ≡ true = (and_parts a (b && (d && g)) e).1 in
    let q : d && g ≡ true = (and_parts b (d && g) r).1 in
    let m : st.checkpoint.number ≤ st.operator.number = leb-true _ _ (and_parts d g q).0 in
    record {
      stable = leb-true _ _ (and_parts a (b && (d && g)) e).0;
      newest = leb-true _ _ (and_parts b (d && g) r).0;
      order = m;
      level =
          λ t.
          let w : leb st.operator.number st.checkpoint.number ≡ true = rw (eq-eqb st.p st.c t) at (and_parts d g q).1 in
          let z : st.operator.number ≤ st.checkpoint.number = leb-true _ _ w in
          omega arith;
    }

-- ---- all tests

-- a display's last id
pub record DisplayShape (newest id : ℕ) : Type 0 where
  pub known : id ≤ newest
  pub near : newest ≤ id + held_results

pub display_shape : (newest id : ℕ) → display_ok newest id ≡ true → DisplayShape newest id
unfolding display_ok
display_shape newest id e =
    let a : Bool = leb id newest in
    let b : Bool = leb newest (id + held_results) in
    record { known = leb-true _ _ (and_parts a b e).0; near = leb-true _ _ (and_parts a b e).1 }

-- the state and the store of readings
pub record StateShape (st : Held) (x : Columns) : Type 0 where
  pub limits : within_limits st.settings ≡ true
  pub heads : Every HeadShape (take st.settings.lines st.heads)
  pub lines : Every KeptShape (view st x).lines
  pub buckets : BucketsShape st
  pub numbers : NumbersShape st
  pub operator : Every (Counted count_limit) st.operator.meters
  pub checkpoint : Every (Counted count_limit) st.checkpoint.meters

pub state_facts : (st : Held) (x : Columns) → state_in_shape st x ≡ true → StateShape st x
unfolding state_in_shape
state_facts st x e =
    let a : Bool = within_limits st.settings in
    let b : Bool = all_of head_ok (take st.settings.lines st.heads) in
    let c : Bool = all_of kept_ok (view st x).lines in
    let d : Bool = buckets_ok st in
    let f : Bool = numbers_ok st in
    let g : Bool = all_of meter_ok st.operator.meters in
    let h : Bool = all_of meter_ok st.checkpoint.meters in
    let e1 : b && (c && (d && (f && (g && h)))) ≡ true = (and_parts a (b && (c && (d && (f && (g && h))))) e).1 in
    let e2 : c && (d && (f && (g && h))) ≡ true = (and_parts b (c && (d && (f && (g && h)))) e1).1 in
    let e3 : d && (f && (g && h)) ≡ true = (and_parts c (d && (f && (g && h))) e2).1 in
    let e4 : f && (g && h) ≡ true = (and_parts d (f && (g && h)) e3).1 in
    let e5 : g && h ≡ true = (and_parts f (g && h) e4).1 in
    record {
      limits = (and_parts a (b && (c && (d && (f && (g && h))))) e).0;
      heads =
          every_to (take st.settings.lines st.heads) head_shape
          (every_passes head_ok (take st.settings.lines st.heads) (and_parts b (c && (d && (f && (g && h)))) e1).0);
      lines =
          every_to (view st x).lines kept_shape
          (every_passes kept_ok (view st x).lines (and_parts c (d && (f && (g && h))) e2).0);
      buckets = buckets_shape st (and_parts d (f && (g && h)) e3).0;
      numbers = numbers_shape st (and_parts f (g && h) e4).0;
      operator = meters_ok st.operator.meters (and_parts g h e5).0;
      checkpoint = meters_ok st.checkpoint.meters (and_parts g h e5).1;
    }

-- the test of the state and the store of readings is part of the test of all
pub state_in_shape_lem : (st : Held) (x : Lent) → in_shape st x ≡ true → state_in_shape st x.readings ≡ true
unfolding in_shape
state_in_shape_lem st x e = (and_parts (state_in_shape st x.readings) (displays_ok st && sent_ok st x.sent) e).0

-- and so is the test of the displays' last ids
pub displays_in_shape : (st : Held) (x : Lent) → in_shape st x ≡ true → displays_ok st ≡ true
unfolding in_shape
displays_in_shape st x e =
    let rest = (and_parts (state_in_shape st x.readings) (displays_ok st && sent_ok st x.sent) e).1 in
    (and_parts (displays_ok st) (sent_ok st x.sent) rest).0

pub record InShape (st : Held) (x : Lent) : Type 0 where
  pub limits : within_limits st.settings ≡ true
  pub heads : Every HeadShape (take st.settings.lines st.heads)
  pub lines : Every KeptShape (view st x.readings).lines
  pub buckets : BucketsShape st
  pub numbers : NumbersShape st
  pub operator : Every (Counted count_limit) st.operator.meters
  pub checkpoint : Every (Counted count_limit) st.checkpoint.meters
  pub displays : Every (DisplayShape st.checkpoint.number) (take st.settings.displays st.acknowledged)
  pub sent : sent_ok st x.sent ≡ true

pub in_shape_facts : (st : Held) (x : Lent) → in_shape st x ≡ true → InShape st x
unfolding in_shape displays_ok
in_shape_facts st x e =
    let a : Bool = all_of (display_ok st.checkpoint.number) (take st.settings.displays st.acknowledged) in
    let b : Bool = sent_ok st x.sent in
    let shape = state_facts st x.readings (state_in_shape_lem st x e) in
    let rest : a && b ≡ true = (and_parts (state_in_shape st x.readings) (a && b) e).1 in
    record {
      limits = shape.limits;
      heads = shape.heads;
      lines = shape.lines;
      buckets = shape.buckets;
      numbers = shape.numbers;
      operator = shape.operator;
      checkpoint = shape.checkpoint;
      displays =
          every_to (take st.settings.displays st.acknowledged) (display_shape st.checkpoint.number)
          (every_passes (display_ok st.checkpoint.number) (take st.settings.displays st.acknowledged) (and_parts a b rest).0);
      sent = (and_parts a b rest).1;
    }

-- the operator's meters pass their test
pub operator_within : (st : Held) (x : Columns) → state_in_shape st x ≡ true → all_of meter_ok st.operator.meters ≡ true
unfolding state_in_shape
operator_within st x e =
    (and_parts _ _ (and_parts (numbers_ok st) _ (and_parts (buckets_ok st) _ (and_parts (all_of kept_ok (view st x).lines) _ (and_parts (all_of head_ok (take st.settings.lines st.heads)) _ (and_parts (within_limits st.settings) _ e).1).1).1).1).1).0
