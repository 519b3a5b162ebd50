-- One line of the node against what the monitor has of it and its accepted stable readings. All three are parts of the readings that were
-- accepted on the line and not undone: the node keeps those of bucket c or later, the monitor has an entry for each, and the accepted
-- stable ones are those that are not tentative. Refusals 11 to 13 keep it so.
use Prim.Native.Nat.{ℕ, ◌+◌, ◌*◌, ◌/◌, ◌≤◌, ◌<◌}
use mathlib.Core.Path.{◌≡◌, refl, sym, ◌∙◌, ap}
use mathlib.Core.Bool.{Bool, true, false, not}
use mathlib.Core.List.{List, [], ◌∷◌, ◌++◌, map, map-append}
use native.Mathlib.Omega.{arith}
use native.Mathlib.Nat.{le-div_iff_mul-le, le_refl}
use lib.Dec.{leb, eqb}
use borrow.Author.Tests.{ltb-false, leb-true, eqb-true, not-true, not-false, le-leb}
use Rattle.clock.specs.Buckets.{bucket_of}
use Rattle.settings.specs.declared.Settings.{Settings}
use Rattle.journal.specs.declared.Call.{Call}
use Rattle.journal.specs.Kinds.{letter_s, letter_t}
use Rattle.store.specs.declared.Reading.{Reading}
use Rattle.store.specs.Lists.{Every, keep, some_of}
use Rattle.store.proofs.Choices.{not_both, and_parts}
use Rattle.store.proofs.Pairs.{every_to, every_append, every_keep}
use Rattle.store.proofs.Keeping.{keep_map}
use Rattle.protocol.specs.Kinds.{Kind, kind_of, uses}
use Rattle.protocol.specs.Node.{Line, keeps_tentative, reading_of, on_line}
use Rattle.protocol.specs.Refusals.{wrong_id, too_early, is_held_back}
use Rattle.protocol.specs.Monitor.{Entry, LineMonitor, entry_of, observe_line}
use Rattle.protocol.specs.FailureFree.{stable_reading}
use Rattle.protocol.proofs.Lists.{every_from_kept, keep_last, keep_but_last, keep_swap, keep_implied, none_passes}
use Rattle.protocol.proofs.Letters.{kind_S, kind_T}

-- a reading of bucket c or later
unfoldable pub is_from : ℕ → ℕ → Reading → Bool
is_from length c r = leb c (bucket_of length r.time)

unfoldable pub is_tentative_reading : Reading → Bool
is_tentative_reading r = eqb r.kind letter_t

unfoldable pub is_stable_reading : Reading → Bool
is_stable_reading r = not (is_tentative_reading r)

-- what the monitor has of a reading
unfoldable pub entry_of_reading : Reading → Entry
entry_of_reading r = record { id = r.id; time = r.time; arrival = r.arrival }

-- a line's stable readings, after an accepted call of this kind
unfoldable pub with_stable : Call → Kind → List Reading → List Reading
with_stable k Kind.S rs = rs ++ stable_reading k ∷ []
with_stable k Kind.T rs = rs
with_stable k Kind.B rs = rs
with_stable k Kind.U rs = rs
with_stable k Kind.R rs = rs
with_stable k Kind.P rs = rs

-- the line agrees with the monitor and its accepted stable readings, c being the first bucket not yet worked as stable
pub record Agrees (s : Settings) (c : ℕ) (l : Line) (g : LineMonitor) (stables : List Reading) : Type 0 where
  -- accepted and not undone
  pub all : List Reading
  pub boundary : l.boundary ≡ g.boundary
  pub entries : g.entries ≡ map entry_of_reading all
  pub kept : l.kept ≡ keep (is_from s.bucket c) all
  pub stable : keep is_stable_reading all ≡ stables
  -- a tentative reading is not below the boundary, a stable one not above the last stable id
  pub late : Every (λ (r : Reading). is_tentative_reading r ≡ true → l.boundary.0 ≤ r.time.0) all
  pub low : Every (λ (r : Reading). is_tentative_reading r ≡ false → r.id ≤ l.last_stable_id) all
  pub ids : l.last_stable_id ≤ l.last_id
  -- the buckets below c are finished
  pub past : c * s.bucket ≤ l.boundary.0

-- a time at or above the start of bucket c is of bucket c or later
pub from_start : (length c : ℕ) (r : Reading) → 0 < length → c * length ≤ r.time.0 → is_from length c r ≡ true
unfolding is_from bucket_of
from_start length c r room h = le-leb c (r.time.0 / length) ((le-div_iff_mul-le room).1 h)

-- the reading of a call with the letter S is the one of the failure-free run, and not tentative; with the letter T it is tentative
call_S : (k : Call) → k.kind ≡ letter_s → (reading_of k ≡ stable_reading k) × (is_tentative_reading (reading_of k) ≡ false)
unfolding reading_of stable_reading is_tentative_reading
call_S k e = (λ i. record { id = k.id; time = k.time; value = k.value; arrival = k.now; kind = e i; meter = k.meter }, ap (λ n. eqb n letter_t) e)

call_T : (k : Call) → k.kind ≡ letter_t → is_tentative_reading (reading_of k) ≡ true
unfolding reading_of is_tentative_reading
call_T k e = ap (λ n. eqb n letter_t) e

call_entry : (k : Call) → entry_of k ≡ entry_of_reading (reading_of k)
unfolding entry_of entry_of_reading reading_of
call_entry k = refl

pub stable_tentative : (r : Reading) (b : Bool) → is_tentative_reading r ≡ b → is_stable_reading r ≡ not b
unfolding is_stable_reading
stable_tentative r b e = ap not e

stable_not_tentative : (r : Reading) → is_stable_reading r ≡ true → is_tentative_reading r ≡ false
unfolding is_stable_reading
stable_not_tentative r e = not-true _ e

none_tentative :
    (rs : List Reading) → some_of (λ (r : Reading). eqb r.kind letter_t) rs ≡ false →
    Every (λ (r : Reading). is_tentative_reading r ≡ false) rs
unfolding is_tentative_reading
none_tentative rs e = none_passes (λ (r : Reading). eqb r.kind letter_t) rs e

module _ (s : Settings) (room : 0 < s.bucket) (c : ℕ) (k : Call) (l : Line) (g : LineMonitor) (stables : List Reading) (v : Agrees s c l g stables) where
  after_start : l.boundary.0 ≤ k.time.0 → is_from s.bucket c (reading_of k) ≡ true
  unfolding reading_of
  after_start inTime = from_start s.bucket c (reading_of k) room (omega (arith, v.past))

  more_entries : g.entries ++ entry_of k ∷ [] ≡ map entry_of_reading (v.all ++ reading_of k ∷ [])
  more_entries = rw (call_entry k, v.entries) (sym (map-append entry_of_reading v.all (reading_of k ∷ [])))

  more_kept : l.boundary.0 ≤ k.time.0 → l.kept ++ reading_of k ∷ [] ≡ keep (is_from s.bucket c) (v.all ++ reading_of k ∷ [])
  more_kept inTime = rw v.kept (sym (keep_last (is_from s.bucket c) v.all (reading_of k) (after_start inTime)))

  stable_call :
      k.kind ≡ letter_s → wrong_id l k.id Kind.S ≡ false → too_early l k.time.0 Kind.S ≡ false →
      Agrees s c (on_line k Kind.S l) (observe_line k Kind.S g) (with_stable k Kind.S stables)
  unfolding on_line observe_line with_stable wrong_id too_early uses reading_of
  stable_call e wrong early =
      let new : k.id ≡ l.last_id + 1 = eqb-true _ _ (not-false _ wrong) in
      record {
        all = v.all ++ reading_of k ∷ [];
        boundary = v.boundary;
        entries = more_entries;
        kept = more_kept (ltb-false _ _ early);
        stable =
            keep_last is_stable_reading v.all (reading_of k) (stable_tentative (reading_of k) false (call_S k e).1) ∙
            rw (v.stable, (call_S k e).0);
        late = every_append _ v.all (reading_of k ∷ []) v.late (λ q. not_both q (call_S k e).1, tt);
        low =
            every_append _ v.all (reading_of k ∷ [])
            (every_to v.all (λ r h q. let low : r.id ≤ l.last_stable_id = h q in omega (arith, v.ids)) v.low)
            (λ q. le_refl _, tt);
        ids = le_refl _;
        past = v.past;
      }

  tentative_call :
      k.kind ≡ letter_t → wrong_id l k.id Kind.T ≡ false → too_early l k.time.0 Kind.T ≡ false →
      Agrees s c (on_line k Kind.T l) (observe_line k Kind.T g) (with_stable k Kind.T stables)
  unfolding on_line observe_line with_stable wrong_id too_early uses reading_of
  tentative_call e wrong early =
      let new : k.id ≡ l.last_id + 1 = eqb-true _ _ (not-false _ wrong) in
      record {
        all = v.all ++ reading_of k ∷ [];
        boundary = v.boundary;
        entries = more_entries;
        kept = more_kept (ltb-false _ _ early);
        stable = keep_but_last is_stable_reading v.all (reading_of k) (stable_tentative (reading_of k) true (call_T k e)) ∙ v.stable;
        late = every_append _ v.all (reading_of k ∷ []) v.late (λ q. ltb-false _ _ early, tt);
        low = every_append _ v.all (reading_of k ∷ []) v.low (λ q. not_both (call_T k e) q, tt);
        ids = omega (arith, v.ids);
        past = v.past;
      }

  -- refusal 11: an undo leaves every stable reading
  undo_call : wrong_id l k.id Kind.U ≡ false → Agrees s c (on_line k Kind.U l) (observe_line k Kind.U g) (with_stable k Kind.U stables)
  unfolding on_line observe_line with_stable wrong_id entry_of_reading
  undo_call wrong =
      let least : l.last_stable_id ≤ k.id = leb-true _ _ (and_parts _ _ (not-false _ wrong)).0 in
      record {
        all = keep (λ (r : Reading). leb r.id k.id) v.all;
        boundary = v.boundary;
        entries = rw v.entries (keep_map entry_of_reading (λ (e : Entry). leb e.id k.id) v.all);
        kept = rw v.kept (keep_swap (λ (r : Reading). leb r.id k.id) (is_from s.bucket c) v.all);
        stable =
            keep_implied is_stable_reading (λ (r : Reading). leb r.id k.id) v.all
            (every_to v.all
            (λ r h q.
            let low : r.id ≤ l.last_stable_id = h (stable_not_tentative r q) in
            le-leb r.id k.id (omega (arith, least)))
            v.low) ∙
            v.stable;
        late = every_keep _ _ v.all v.late;
        low = every_keep _ _ v.all v.low;
        ids = least;
        past = v.past;
      }

  -- refusal 13: a boundary comes only where no tentative reading is kept, so none is below it
  boundary_call :
      too_early l k.time.0 Kind.B ≡ false → is_held_back l Kind.B ≡ false →
      Agrees s c (on_line k Kind.B l) (observe_line k Kind.B g) (with_stable k Kind.B stables)
  unfolding on_line observe_line with_stable too_early uses is_held_back keeps_tentative
  boundary_call early held =
      record {
        all = v.all;
        boundary = refl;
        entries = v.entries;
        kept = v.kept;
        stable = v.stable;
        late =
            every_from_kept (λ (r : Reading). is_tentative_reading r ≡ true → k.time.0 ≤ r.time.0) (is_from s.bucket c) v.all
            (every_to v.all
            (λ r h e q.
            let above : l.boundary.0 ≤ r.time.0 = h q in
            not_both (from_start s.bucket c r room (omega (arith, v.past))) e)
            v.late)
            (rw (← v.kept) (every_to l.kept (λ r h q. not_both q h) (none_tentative l.kept held)));
        low = v.low;
        ids = v.ids;
        past = omega (arith, v.past, ltb-false);
      }

  -- whatever kind the call is of
  pub line_input :
      (kind : Kind) → kind_of k.kind ≡ kind → wrong_id l k.id kind ≡ false → too_early l k.time.0 kind ≡ false →
      is_held_back l kind ≡ false → Agrees s c (on_line k kind l) (observe_line k kind g) (with_stable k kind stables)
  unfolding on_line observe_line with_stable
  line_input Kind.S e wrong early held = stable_call (kind_S k.kind e) wrong early
  line_input Kind.T e wrong early held = tentative_call (kind_T k.kind e) wrong early
  line_input Kind.B e wrong early held = boundary_call early held
  line_input Kind.U e wrong early held = undo_call wrong
  line_input Kind.R e wrong early held = v
  line_input Kind.P e wrong early held = v
