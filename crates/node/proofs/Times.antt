-- The times that records carry fit 32 bits: a stable bucket ends at or below a boundary, a bucket with a reading due in it or behind it
-- starts at or below that reading's time, and a window starts at or below the start of the bucket that closes it.
use Prim.Native.Nat.{ℕ, ◌+◌, ◌-◌, ◌*◌, ◌/◌, ◌≤◌, ◌<◌, ◌^◌}
use mathlib.Core.Path.{◌≡◌, refl, sym}
use mathlib.Core.Bool.{Bool, true, false, ◌||◌, true≢false}
use mathlib.Core.List.{List, [], ◌∷◌}
use native.Mathlib.Omega.{arith}
use native.Mathlib.Nat.{mul-le-mul_right, le-div_iff_mul-le}
use borrow.Author.Tests.{leb-true}
use lib.Dec.{leb}
use lib.ListN.{length}
use Rattle.clock.specs.declared.ArrivalTick.{ArrivalTick}
use Rattle.clock.specs.Buckets.{bucket_of, bucket_end, finishes}
use Rattle.clock.specs.Windows.{window_start}
use Rattle.clock.specs.Hold.{is_due}
use Rattle.clock.proofs.Buckets.{finished_end_fits}
use Rattle.settings.specs.declared.Settings.{Settings}
use Rattle.store.specs.declared.Reading.{Reading}
use Rattle.store.specs.Lists.{Every, some_of, all_of}
use Rattle.store.proofs.Choices.{and_parts}
use Rattle.store.proofs.Pairs.{every_to}
use Rattle.protocol.specs.Node.{Line, is_stable_bucket}
use Rattle.protocol.specs.Rules.{is_overdue, some_overdue}
use Rattle.node.proofs.Fits.{ReadingFits, LineFits}

-- what some element gives, where it passes the test
some_test :
    {A : Type 0} (Q : A → Type 0) (G : Type 0) (test : A → Bool) →
    ((x : A) → Q x → test x ≡ true → G) → (xs : List A) → Every Q xs → some_of test xs ≡ true → G
unfolding some_of
some_test Q G test f [] h e = absurd (true≢false (sym e))
some_test Q G test f (x ∷ xs) h e =
    (elim (test x) as (λ t. test x ≡ t → t || some_of test xs ≡ true → G) [
      | true ↦ λ q _. f x h.0 q
      | false ↦ λ _ r. some_test Q G test f xs h.1 r
    ])
    refl e

pub start_le : (size window j : ℕ) → 1 ≤ window → window_start size window j ≤ j * size
unfolding window_start
start_le size window j h = mul-le-mul_right {m = j + 1 - window} {n = j} size (omega arith)

pub start_fits : (size window j : ℕ) → 1 ≤ window → j * size < 2 ^ 32 → window_start size window j < 2 ^ 32
start_fits size window j h f = omega (arith, start_le size window j h)

-- a stable bucket
stable_end_within :
    (s : Settings) (j : ℕ) (ls : List Line) → 0 < length ls → Every (λ (l : Line). l.boundary.0 < 2 ^ 32) ls →
    is_stable_bucket s j ls ≡ true → bucket_end s.bucket j < 2 ^ 32
unfolding is_stable_bucket all_of
stable_end_within s j [] some h e = absurd (omega arith)
stable_end_within s j (l ∷ ls) some h e =
    finished_end_fits s.bucket l.boundary j h.0
    (and_parts (finishes s.bucket l.boundary j) (all_of (λ (l : Line). finishes s.bucket l.boundary j) ls) e).0

pub stable_end_fits :
    (s : Settings) (j : ℕ) (ls : List Line) → 0 < length ls → Every LineFits ls → is_stable_bucket s j ls ≡ true →
    bucket_end s.bucket j < 2 ^ 32
stable_end_fits s j ls some h e = stable_end_within s j ls some (every_to ls (λ (l : Line) (g : LineFits l). g.boundary) h) e

pub stable_start_fits : (size j : ℕ) → bucket_end size j < 2 ^ 32 → j * size < 2 ^ 32
unfolding bucket_end
stable_start_fits size j h = omega arith

-- a bucket with a reading due in it or behind it
overdue_within :
    (s : Settings) (p : ℕ) (now : ArrivalTick) → 0 < s.bucket → (r : Reading) → r.time.0 < 2 ^ 32 → is_overdue s p now r ≡ true →
    p * s.bucket < 2 ^ 32
unfolding is_overdue bucket_of
overdue_within s p now some r h e =
    let q : p ≤ r.time.0 / s.bucket =
    leb-true p (r.time.0 / s.bucket) (and_parts (leb p (r.time.0 / s.bucket)) (is_due s.hold r.arrival now) e).0 in
    let l : p * s.bucket ≤ r.time.0 = (le-div_iff_mul-le {k = s.bucket} {x = p} {y = r.time.0} some).0 q in
    omega arith

-- a line whose kept readings' times fit
abbrev pub TimesWithin : Line → Type 0
TimesWithin l = Every (λ (r : Reading). r.time.0 < 2 ^ 32) l.kept

pub due_start_within :
    (s : Settings) (p : ℕ) (now : ArrivalTick) (ls : List Line) → 0 < s.bucket → Every TimesWithin ls → some_overdue s p now ls ≡ true →
    p * s.bucket < 2 ^ 32
unfolding some_overdue
due_start_within s p now ls some h e =
    some_test TimesWithin (p * s.bucket < 2 ^ 32) (λ (l : Line). some_of (is_overdue s p now) l.kept)
    (λ l g q. some_test (λ (r : Reading). r.time.0 < 2 ^ 32) (p * s.bucket < 2 ^ 32) (is_overdue s p now) (overdue_within s p now some) l.kept g q)
    ls h e

pub due_start_fits :
    (s : Settings) (p : ℕ) (now : ArrivalTick) (ls : List Line) → 0 < s.bucket → Every LineFits ls → some_overdue s p now ls ≡ true →
    p * s.bucket < 2 ^ 32
due_start_fits s p now ls some h e =
    due_start_within s p now ls some
    (every_to ls (λ (l : Line) (g : LineFits l). every_to l.kept (λ (r : Reading) (v : ReadingFits r). v.time) g.kept) h) e
