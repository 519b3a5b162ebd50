-- The first half of rule 2: the bucket's results, and one record more behind them, the boundary, where the bucket closes a window. By the
-- laws on bytes laid in front of an area.
use Prim.Native.Nat.{ℕ, ◌+◌, ◌*◌, ◌-◌}
use mathlib.Core.Path.{◌≡◌, refl}
use mathlib.Core.Bool.{true, false}
use mathlib.Core.List.{List, [], ◌∷◌, ◌++◌, append-nil}
use native.Mathlib.Omega.{arith}
use lib.ListN.{length, take, drop, length-append}
use lib.Seq.{take-append_seam, drop-append-add, drop-drop}
use Rattle.area.specs.Laid.{in_front}
use Rattle.clock.specs.Buckets.{bucket_end}
use Rattle.clock.specs.Windows.{closes_window}
use Rattle.settings.specs.declared.Settings.{Settings}
use Rattle.journal.specs.Kinds.{letter_s, letter_b}
use Rattle.record.specs.declared.Record.{Record}
use Rattle.record.specs.Sizes.{record_bytes}
use Rattle.record.specs.Layout.{bytes_of, all_bytes}
use Rattle.record.proofs.BytesOf.{length_bytes_of}
use Rattle.record.proofs.AllBytes.{length_all_bytes, all_bytes_append}
use Rattle.record.specs.Markers.{marker}
use Rattle.store.specs.Columns.{Columns}
use Rattle.operator.specs.Work.{Worked}
use Rattle.protocol.specs.declared.Rule.TheVariants as Rule
use Rattle.protocol.specs.Rules.{act, boundary_at, worked}
use Rattle.node.specs.Held.{Held, with_operator}
use Rattle.node.specs.View.{view}
use Rattle.step_stable.specs.Halves.{StableWorked}

pub no_boundary : (s : Settings) (j : ℕ) (results : List Record) → closes_window s.window j ≡ false → results ++ boundary_at s j ≡ results
unfolding boundary_at
no_boundary s j results e = rw e (append-nil results)

pub with_boundary :
    (s : Settings) (j : ℕ) (results : List Record) → closes_window s.window j ≡ true →
    results ++ boundary_at s j ≡ results ++ marker letter_b 0 (record { 0 = bucket_end s.bucket j }) ∷ []
unfolding boundary_at
with_boundary s j results e = rw e

pub one_more : (results : List Record) (r : Record) → length (results ++ r ∷ []) ≡ length results + 1
one_more results r = length-append results (r ∷ [])

front_behind : (a b area : List ℕ) → take (length a) (in_front a area) ++ b ++ drop (length a + length b) (in_front a area) ≡ in_front (a ++ b) area
unfolding in_front
front_behind a b area =
    rw (
      take-append_seam a (drop (length a) area),
      drop-append-add a (drop (length a) area) (length b),
      drop-drop (length b) (length a) area,
      length-append a b,
    )

-- one record laid behind the results
record_behind :
    (results : List Record) (r : Record) (area area₁ area₂ : List ℕ) (at : ℕ) → area₁ ≡ in_front (all_bytes results) area →
    at ≡ length results * record_bytes → area₂ ≡ take at area₁ ++ bytes_of r ++ drop (at + record_bytes) area₁ →
    area₂ ≡ in_front (all_bytes (results ++ r ∷ [])) area
unfolding all_bytes
record_behind results r area area₁ area₂ at e g h =
    let from : at ≡ length (all_bytes results) = omega (arith, length_all_bytes results) in
    let wide : record_bytes ≡ length (bytes_of r) = omega (arith, length_bytes_of r) in
    rw (all_bytes_append results (r ∷ []), append-nil (bytes_of r), h, e, from, wide) (front_behind (all_bytes results) (bytes_of r) area)

-- ---- what the first half leaves

module _ (st : Held) (x : Columns) (area : List ℕ) where
  abbrev given : Worked
  given = worked st.settings letter_s st.c (view st x)

  records_given : (act st.settings (view st x) Rule.WorkStable).records ≡ given.records ++ boundary_at st.settings st.c
  unfolding act view
  records_given = refl

  operator_given : (act st.settings (view st x) Rule.WorkStable).node.operator ≡ given.operator
  unfolding act view
  operator_given = refl

  -- the bucket is worked, and nothing else has changed: area₁ holds its results
  module _ (st₁ : Held) (area₁ : List ℕ) (n : ℕ) (o : st₁ ≡ with_operator given.operator st)
      (e : area₁ ≡ in_front (all_bytes given.records) area) (count : n ≡ length given.records) where
    pub goes_on_done : closes_window st.settings.window st.c ≡ false → StableWorked st x area st₁ area₁ n
    goes_on_done goesOn =
        let all = no_boundary st.settings st.c given.records goesOn in
        record { state = rw operator_given o; bytes = rw (records_given, all) e; count = rw (records_given, all) count }

    pub closes_done :
        closes_window st.settings.window st.c ≡ true → (area₂ : List ℕ) (boundary : Record) →
        boundary ≡ marker letter_b 0 (record { 0 = bucket_end st.settings.bucket st.c }) →
        area₂ ≡ take (n * record_bytes) area₁ ++ bytes_of boundary ++ drop (n * record_bytes + record_bytes) area₁ →
        StableWorked st x area st₁ area₂ (n + 1)
    closes_done closes area₂ boundary is laid =
        let end : Record = marker letter_b 0 (record { 0 = bucket_end st.settings.bucket st.c }) in
        let all = with_boundary st.settings st.c given.records closes in
        record {
          state = rw operator_given o;
          bytes =
              rw (records_given, all)
              (record_behind given.records end area area₁ area₂ (n * record_bytes) e (omega (arith, count)) (rw is at laid));
          count = rw (records_given, all) (omega (arith, count, one_more given.records end));
        }
