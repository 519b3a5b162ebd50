-- A line when bucket c is worked as stable: its readings of the bucket are exactly its accepted stable ones, and once they leave, the line
-- agrees for the next bucket. A tentative reading is not below the boundary, and so not in a bucket that the boundary finishes.
use Prim.Native.Nat.{ℕ, suc, ◌*◌, ◌/◌, ◌≤◌, ◌<◌}
use mathlib.Core.Path.{◌≡◌, sym, ◌∙◌}
use mathlib.Core.Bool.{true, false, not, ◌&&◌}
use mathlib.Core.List.{List}
use native.Mathlib.Omega.{arith}
use native.Mathlib.Nat.{div-lt_iff_lt-mul}
use lib.Dec.{leb, eqb}
use borrow.Author.Tests.{leb-true, eqb-true, eqb-false, not-true, le-leb, ne_eqb}
use Rattle.clock.specs.Buckets.{bucket_of}
use Rattle.settings.specs.declared.Settings.{Settings}
use Rattle.store.specs.declared.Reading.{Reading}
use Rattle.store.specs.Lists.{Every, keep}
use Rattle.store.specs.Order.{is_in}
use Rattle.store.proofs.Choices.{and_parts, false_unless}
use Rattle.store.proofs.Pairs.{every_to, every_any}
use Rattle.store.proofs.Keeping.{keep_same}
use Rattle.protocol.specs.Node.{Line}
use Rattle.protocol.specs.Rules.{without}
use Rattle.protocol.specs.Monitor.{LineMonitor}
use Rattle.protocol.proofs.Tests.{both_ways}
use Rattle.protocol.proofs.Lists.{keep_twice, keep_implied}
use Rattle.protocol.proofs.Lines.{is_from, is_tentative_reading, is_stable_reading, stable_tentative, Agrees}

-- of bucket c or later, and not of c
pub later_bucket : (c n : ℕ) → leb c n && not (eqb n c) ≡ leb (suc c) n
later_bucket c n =
    both_ways (leb c n && not (eqb n c)) (leb (suc c) n)
    (λ e.
    let h : c ≤ n = leb-true _ _ (and_parts _ _ e).0 in
    let g : n ≡ c → ⊥ = eqb-false _ _ (not-true _ (and_parts (leb c n) _ e).1) in
    le-leb (suc c) n (omega arith))
    (λ e. let h : c < n = leb-true _ _ e in rw (le-leb c n (omega arith), ne_eqb n c (omega arith)))

later_readings :
    (length c : ℕ) (rs : List Reading) → Every (λ (r : Reading). is_from length c r && not (is_in length c r) ≡ is_from length (suc c) r) rs
unfolding is_from is_in
later_readings length c rs = every_any _ rs (λ r. later_bucket c (bucket_of length r.time))

in_from : (length c : ℕ) (rs : List Reading) → Every (λ (r : Reading). is_in length c r ≡ true → is_from length c r ≡ true) rs
unfolding is_from is_in
in_from length c rs = every_any _ rs (λ r e. le-leb c (bucket_of length r.time) (omega (arith, eqb-true)))

-- a reading of bucket c is below the bucket's end
pub below_end : (length c : ℕ) (r : Reading) → 0 < length → is_in length c r ≡ true → r.time.0 < suc c * length
unfolding is_in bucket_of
below_end length c r room e =
    let h : r.time.0 / length ≡ c = eqb-true _ _ e in
    (div-lt_iff_lt-mul room).0 (omega arith)

module _ (s : Settings) (room : 0 < s.bucket) (c : ℕ) (l : Line) (g : LineMonitor) (stables : List Reading) (v : Agrees s c l g stables) (finished : suc c * s.bucket ≤ l.boundary.0) where
  -- the bucket's readings leave
  pub line_finish : Agrees s (suc c) (without s c l) g stables
  unfolding without
  line_finish =
      record {
        all = v.all;
        boundary = v.boundary;
        entries = v.entries;
        kept =
            rw v.kept
            (keep_twice _ (is_from s.bucket c) v.all ∙
            keep_same _ (is_from s.bucket (suc c)) v.all (later_readings s.bucket c v.all));
        stable = v.stable;
        late = v.late;
        low = v.low;
        ids = v.ids;
        past = finished;
      }

  -- and they are the accepted stable ones of the bucket
  pub line_bucket : keep (is_in s.bucket c) l.kept ≡ keep (is_in s.bucket c) stables
  line_bucket =
      rw (v.kept, ← v.stable)
      (keep_implied (is_in s.bucket c) (is_from s.bucket c) v.all (in_from s.bucket c v.all) ∙
      sym
      (keep_implied (is_in s.bucket c) is_stable_reading v.all
      (every_to v.all
      (λ r h e.
      stable_tentative r false
      (false_unless (is_tentative_reading r)
      (λ q. let above : l.boundary.0 ≤ r.time.0 = h q in omega (arith, below_end s.bucket c r room e))))
      v.late)))
