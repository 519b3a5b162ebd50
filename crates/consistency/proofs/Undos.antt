-- Undos applied to records in bytes are undos applied to the records, where every record's bytes are read back as the record: every
-- test has the same value on both sides.
use Prim.Native.Nat.{ℕ}
use mathlib.Core.Path.{◌≡◌, refl, sym, ◌∙◌, ap, ap₂}
use mathlib.Core.Bool.{Bool, true, false, cond, not}
use mathlib.Core.List.{List, [], ◌∷◌, ◌++◌, map, map-append}
use lib.Dec.{leb, eqb}
use Rattle.std.specs.Prelude.{Some}
use Rattle.journal.specs.Kinds.{letter_u, letter_r}
use Rattle.record.specs.declared.Record.{Record}
use Rattle.record.specs.Decoded.{decoded}
use Rattle.record.specs.Kinds.{is_result, is_stable, is_tentative}
use Rattle.record.specs.Layout.{bytes_of}
use Rattle.store.specs.Lists.{Every, keep}
use Rattle.store.proofs.Pairs.{every_to, every_append, every_keep}
use Rattle.store.proofs.Keeping.{keep_through}
use Rattle.protocol.specs.Undos.{apply_one, applied, struck_by_one, struck, stable_records, done_due}
use Rattle.protocol.specs.Demand.{itself}
use Rattle.consistency.specs.Runs.{read_as, record_in}
use Rattle.node.proofs.Records.{Decodes}

pub record_in_bytes_of : (r : Record) → Decodes r → record_in (bytes_of r) ≡ r
unfolding record_in read_as
record_in_bytes_of r d = ap read_as d

pub is_record : (r : Record) → Decodes r → decoded (bytes_of r) ≡ Some (record_in (bytes_of r))
is_record r d = d ∙ ap Some (sym (record_in_bytes_of r d))

pub records_read : (rs : List Record) → Every Decodes rs → map record_in (map bytes_of rs) ≡ rs
records_read [] h = refl
records_read (r ∷ rs) h = ap₂ ◌∷◌ (record_in_bytes_of r h.0) (records_read rs h.1)

-- ---- a choice, through a function

cond_through : {A B : Type 0} (f : A → B) (test : Bool) (x y : A) (u v : B) → u ≡ f x → v ≡ f y → cond test u v ≡ f (cond test x y)
cond_through f true x y u v p q = p
cond_through f false x y u v p q = q

-- ---- undos applied

pub every_apply_one : (law : Record → Type 0) (acc : List Record) (r : Record) → Every law acc → law r → Every law (apply_one itself acc r)
unfolding apply_one
every_apply_one law acc r h k =
    elim (is_result r.kind) as
    (λ b. Every law (cond b (acc ++ r ∷ []) (cond (eqb r.kind letter_u) (keep (λ (x : Record). leb x.id r.id) acc) acc))) [
      | true ↦ every_append law acc (r ∷ []) h (k, tt)
      | false ↦
          elim (eqb r.kind letter_u) as (λ b. Every law (cond b (keep (λ (x : Record). leb x.id r.id) acc) acc)) [
            | true ↦ every_keep law (λ (x : Record). leb x.id r.id) acc h
            | false ↦ h
          ]
    ]

pub every_applied : (law : Record → Type 0) (acc rs : List Record) → Every law acc → Every law rs → Every law (applied itself acc rs)
unfolding applied
every_applied law acc [] h k = h
every_applied law acc (r ∷ rs) h k = every_applied law (apply_one itself acc r) rs (every_apply_one law acc r h k.0) k.1

-- a test on ids
keep_ids :
    (test : ℕ → Bool) (acc : List Record) → Every Decodes acc →
    keep (λ (x : List ℕ). test (record_in x).id) (map bytes_of acc) ≡ map bytes_of (keep (λ (x : Record). test x.id) acc)
keep_ids test acc h =
    keep_through bytes_of (λ (x : Record). test x.id) (λ (x : List ℕ). test (record_in x).id) acc
    (every_to acc (λ (x : Record) (e : Decodes x). ap (λ (q : Record). test q.id) (record_in_bytes_of x e)) h)

apply_one_bytes_of :
    (acc : List Record) (r : Record) → Every Decodes acc → Decodes r →
    apply_one record_in (map bytes_of acc) (bytes_of r) ≡ map bytes_of (apply_one itself acc r)
unfolding apply_one
apply_one_bytes_of acc r h d =
    let kept = keep (λ (x : Record). leb x.id r.id) acc in
    let bytes_kept = keep (λ (x : List ℕ). leb (record_in x).id r.id) (map bytes_of acc) in
    rw (record_in_bytes_of r d)
    (cond_through (map bytes_of) (is_result r.kind) (acc ++ r ∷ []) (cond (eqb r.kind letter_u) kept acc)
    (map bytes_of acc ++ bytes_of r ∷ []) (cond (eqb r.kind letter_u) bytes_kept (map bytes_of acc))
    (sym (map-append bytes_of acc (r ∷ [])))
    (cond_through (map bytes_of) (eqb r.kind letter_u) kept acc bytes_kept (map bytes_of acc)
    (keep_ids (λ (n : ℕ). leb n r.id) acc h) refl))

pub applied_bytes_of :
    (acc rs : List Record) → Every Decodes acc → Every Decodes rs →
    applied record_in (map bytes_of acc) (map bytes_of rs) ≡ map bytes_of (applied itself acc rs)
unfolding applied
applied_bytes_of acc [] h k = refl
applied_bytes_of acc (r ∷ rs) h k =
    ap (λ (l : List (List ℕ)). applied record_in l (map bytes_of rs)) (apply_one_bytes_of acc r h k.0) ∙
    applied_bytes_of (apply_one itself acc r) rs (every_apply_one Decodes acc r h k.0) k.1

-- ---- what they strike

struck_by_one_bytes_of :
    (acc : List Record) (r : Record) → Every Decodes acc → Decodes r →
    struck_by_one record_in (map bytes_of acc) (bytes_of r) ≡ map bytes_of (struck_by_one itself acc r)
unfolding struck_by_one
struck_by_one_bytes_of acc r h d =
    rw (record_in_bytes_of r d)
    (cond_through (map bytes_of) (eqb r.kind letter_u) (keep (λ (x : Record). not (leb x.id r.id)) acc) []
    (keep (λ (x : List ℕ). not (leb (record_in x).id r.id)) (map bytes_of acc)) []
    (keep_ids (λ (n : ℕ). not (leb n r.id)) acc h) refl)

pub struck_bytes_of :
    (acc rs : List Record) → Every Decodes acc → Every Decodes rs →
    struck record_in (map bytes_of acc) (map bytes_of rs) ≡ map bytes_of (struck itself acc rs)
unfolding struck
struck_bytes_of acc [] h k = refl
struck_bytes_of acc (r ∷ rs) h k =
    ap₂ ◌++◌ (struck_by_one_bytes_of acc r h k.0)
    (ap (λ (l : List (List ℕ)). struck record_in l (map bytes_of rs)) (apply_one_bytes_of acc r h k.0) ∙
    struck_bytes_of (apply_one itself acc r) rs (every_apply_one Decodes acc r h k.0) k.1) ∙
    sym (map-append bytes_of (struck_by_one itself acc r) (struck itself (apply_one itself acc r) rs))

-- every struck result was a result
pub every_struck : (law : Record → Type 0) (acc rs : List Record) → Every law acc → Every law rs → Every law (struck itself acc rs)
unfolding struck struck_by_one
every_struck law acc [] h k = tt
every_struck law acc (r ∷ rs) h k =
    every_append law (struck_by_one itself acc r) (struck itself (apply_one itself acc r) rs)
    (elim (eqb r.kind letter_u) as (λ b. Every law (cond b (keep (λ (x : Record). not (leb x.id r.id)) acc) [])) [
      | true ↦ every_keep law (λ (x : Record). not (leb x.id r.id)) acc h
      | false ↦ tt
    ])
    (every_struck law (apply_one itself acc r) rs (every_apply_one law acc r h k.0) k.1)

-- ---- the stable records, an R that is due, tentative kinds

pub stable_records_bytes_of :
    (rs : List Record) → Every Decodes rs → stable_records record_in (map bytes_of rs) ≡ map bytes_of (stable_records itself rs)
unfolding stable_records
stable_records_bytes_of rs h =
    keep_through bytes_of (λ (r : Record). is_stable r.kind) (λ (b : List ℕ). is_stable (record_in b).kind) rs
    (every_to rs (λ (r : Record) (d : Decodes r). ap (λ (q : Record). is_stable q.kind) (record_in_bytes_of r d)) h)

pub done_due_bytes_of : (due : Bool) (rs : List Record) → Every Decodes rs → done_due record_in due (map bytes_of rs) ≡ done_due itself due rs
unfolding done_due
done_due_bytes_of due [] h = refl
done_due_bytes_of due (r ∷ rs) h =
    ap (λ (q : Record). done_due record_in (cond (eqb q.kind letter_u) true (cond (eqb q.kind letter_r) false due)) (map bytes_of rs)) (record_in_bytes_of r h.0) ∙
    done_due_bytes_of (cond (eqb r.kind letter_u) true (cond (eqb r.kind letter_r) false due)) rs h.1

pub tentative_bytes_of :
    (rs : List Record) → Every Decodes rs → Every (λ (r : Record). is_tentative r.kind ≡ true) rs →
    Every (λ (b : List ℕ). is_tentative (record_in b).kind ≡ true) (map bytes_of rs)
tentative_bytes_of [] h k = tt
tentative_bytes_of (r ∷ rs) h k =
    (ap (λ (q : Record). is_tentative q.kind) (record_in_bytes_of r h.0) ∙ k.0, tentative_bytes_of rs h.1 k.1)
