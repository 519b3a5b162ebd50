-- The failure-free run depends only on the readings of the buckets that it works, and not on their arrivals; and an accepted call adds no
-- reading to a bucket that was worked as stable, since its time is at or above the boundary.
use Prim.Native.Nat.{ℕ, zero, suc, ◌*◌, ◌-◌, ◌≤◌, ◌<◌}
use mathlib.Core.Path.{◌≡◌, refl, sym, ap}
use mathlib.Core.Bool.{true, false, cond}
use mathlib.Core.List.{List, [], ◌∷◌, ◌++◌, map}
use native.Mathlib.Omega.{arith}
use native.Mathlib.Nat.{le_refl}
use lib.Dec.{eqb}
use lib.ListN.{get_or}
use borrow.Author.Tests.{leb-true, ltb-false, eqb-false, ne_eqb}
use Rattle.clock.specs.Buckets.{bucket_of}
use Rattle.settings.specs.declared.Settings.{Settings}
use Rattle.journal.specs.declared.Call.{Call}
use Rattle.journal.specs.Kinds.{letter_s}
use Rattle.store.specs.declared.Reading.{Reading}
use Rattle.store.specs.Lists.{keep, modify}
use Rattle.store.specs.Order.{Placed, is_in, gather, in_bucket}
use Rattle.store.proofs.Maps.{on_reading, in_bucket_map}
use Rattle.operator.specs.Meters.{Operator, add, add_all}
use Rattle.operator.specs.Work.{work}
use Rattle.protocol.specs.Kinds.{Kind, kind_of, uses}
use Rattle.protocol.specs.Node.{Line, no_line}
use Rattle.protocol.specs.Refusals.{too_early}
use Rattle.protocol.specs.Monitor.{LineMonitor}
use Rattle.protocol.specs.FailureFree.{stable_reading, stable_after, without_arrival, failure_free}
use Rattle.protocol.proofs.Lists.{keep_but_last}
use Rattle.protocol.proofs.Places.{Each, done, more, modify_same}
use Rattle.protocol.proofs.Letters.{S-kind, kind_S}
use Rattle.protocol.proofs.Lines.{is_from, from_start, with_stable, Agrees}

pub failure_free_same :
    (s : Settings) (ls ms : List (List Reading)) (n : ℕ) → ((j : ℕ) → j < n → gather s.bucket j 1 ls ≡ gather s.bucket j 1 ms) →
    failure_free s ls n ≡ failure_free s ms n
unfolding failure_free in_bucket
failure_free_same s ls ms zero h = refl
failure_free_same s ls ms (suc n) h =
    rw (failure_free_same s ls ms n (λ j g. h j (omega arith)), h n (le_refl _))

-- ---- the letter S and the kind S

not_S : (k : Call) (kind : Kind) → (kind ≡ Kind.S → ⊥) → (rs : List Reading) → with_stable k kind rs ≡ rs
unfolding with_stable
not_S k Kind.S h rs = absurd (h refl)
not_S k Kind.T h rs = refl
not_S k Kind.B h rs = refl
not_S k Kind.U h rs = refl
not_S k Kind.R h rs = refl
not_S k Kind.P h rs = refl

pub accepted_stable :
    (lines : List (List Reading)) (k : Call) → stable_after lines k true ≡ modify (with_stable k (kind_of k.kind)) (k.line - 1) lines
unfolding stable_after with_stable
accepted_stable lines k =
    (elim (eqb k.kind letter_s) as
    (λ b.
    eqb k.kind letter_s ≡ b →
    cond b (modify (λ (rs : List Reading). rs ++ stable_reading k ∷ []) (k.line - 1) lines) lines ≡
    modify (with_stable k (kind_of k.kind)) (k.line - 1) lines) [
      | true ↦ λ e. ap (λ (kind : Kind). modify (with_stable k kind) (k.line - 1) lines) (sym (S-kind k.kind e))
      | false ↦
          λ e.
          sym
          (modify_same (with_stable k (kind_of k.kind))
          (not_S k (kind_of k.kind) (λ q. eqb-false _ _ e (kind_S k.kind q))) (k.line - 1) lines)
    ])
    refl

pub refused_stable : (lines : List (List Reading)) (k : Call) → stable_after lines k false ≡ lines
unfolding stable_after
refused_stable lines k = refl

-- ---- an accepted call and a bucket below c

module _ (s : Settings) (room : 0 < s.bucket) (c : ℕ) (k : Call) (j : ℕ) (below : j < c) where
  not_in :
      (l : Line) → c * s.bucket ≤ l.boundary.0 → too_early l k.time.0 Kind.S ≡ false → is_in s.bucket j (stable_reading k) ≡ false
  unfolding too_early uses is_from is_in stable_reading
  not_in l past early =
      let g : c ≤ bucket_of s.bucket k.time =
      leb-true _ _ (from_start s.bucket c (stable_reading k) room (omega (arith, ltb-false))) in
      ne_eqb (bucket_of s.bucket k.time) j (omega arith)

  one_line :
      (kind : Kind) (l : Line) (rs : List Reading) → c * s.bucket ≤ l.boundary.0 → too_early l k.time.0 kind ≡ false →
      keep (is_in s.bucket j) (with_stable k kind rs) ≡ keep (is_in s.bucket j) rs
  unfolding with_stable
  one_line Kind.S l rs past early = keep_but_last (is_in s.bucket j) rs (stable_reading k) (not_in l past early)
  one_line Kind.T l rs past early = refl
  one_line Kind.B l rs past early = refl
  one_line Kind.U l rs past early = refl
  one_line Kind.R l rs past early = refl
  one_line Kind.P l rs past early = refl

  pub gather_input :
      {ls : List Line} {gs : List LineMonitor} {zs : List (List Reading)} (kind : Kind) (i n : ℕ) →
      too_early (get_or ls i no_line) k.time.0 kind ≡ false → Each (Agrees s c) ls gs zs →
      gather s.bucket j n (modify (with_stable k kind) i zs) ≡ gather s.bucket j n zs
  unfolding gather modify
  gather_input kind i n early done = refl
  gather_input kind zero n early (more {a = l} {c = rs} r rest) = rw (one_line kind l rs r.past early)
  gather_input kind (suc i) n early (more r rest) = rw (gather_input kind i (suc n) early rest)

-- ---- arrivals

add_all_without : (s : Settings) (o : Operator) (rs : List Placed) → add_all s o (map (on_reading without_arrival) rs) ≡ add_all s o rs
unfolding add_all add without_arrival
add_all_without s o [] = refl
add_all_without s o (r ∷ rs) = add_all_without s (add s o r.reading) rs

work_without :
    (s : Settings) (kind j : ℕ) (rs : List Placed) (o : Operator) → work s kind j (map (on_reading without_arrival) rs) o ≡ work s kind j rs o
unfolding work
work_without s kind j rs o = rw (add_all_without s o rs)

in_bucket_without :
    (length j : ℕ) (ls : List (List Reading)) →
    in_bucket length j (map (map without_arrival) ls) ≡ map (on_reading without_arrival) (in_bucket length j ls)
unfolding without_arrival
in_bucket_without length j ls = in_bucket_map without_arrival (λ r. refl) (λ r. refl) length j ls

pub failure_free_without :
    (s : Settings) (ls : List (List Reading)) (n : ℕ) → failure_free s (map (map without_arrival) ls) n ≡ failure_free s ls n
unfolding failure_free
failure_free_without s ls zero = refl
failure_free_without s ls (suc n) =
    rw (
      failure_free_without s ls n,
      in_bucket_without s.bucket n ls,
      work_without s letter_s n (in_bucket s.bucket n ls) (failure_free s ls n).operator,
    )
