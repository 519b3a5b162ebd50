-- Results laid down for a fetch one after the other: those laid so far stand in front of the area.
use Prim.Native.Nat.{ℕ, zero, suc, ◌+◌, ◌-◌, ◌*◌, ◌%◌, ◌≤◌}
use mathlib.Core.Path.{◌≡◌, refl, sym, ◌∙◌, ap}
use mathlib.Core.List.{List, [], ◌∷◌, ◌++◌, append-nil}
use native.Mathlib.Omega.{arith}
use native.Mathlib.Nat.{mod-lt}
use lib.ListN.{length, get_or, take, drop}
use lib.Seq.{sets-eq}
use borrow.Rule.Slice.PartMut.{put_mid}
use Rattle.area.specs.Laid.{laid, in_front}
use Rattle.area.proofs.Laid.{laid_laid, laid_none, laid_front}
use Rattle.record.specs.declared.Record.{Record}
use Rattle.record.specs.Sizes.{record_bytes}
use Rattle.record.specs.Layout.{bytes_of, all_bytes}
use Rattle.record.specs.Fields.{fields_of}
use Rattle.record.proofs.BytesOf.{length_bytes_of}
use Rattle.record.proofs.Stores.{record_lent}
use Rattle.record.proofs.AllBytes.{length_all_bytes, all_bytes_append}
use Rattle.retransmission.specs.Sizes.{held_results}
use Rattle.retransmission.specs.Places.{places_of, place_of, held_behind}
use Rattle.retransmission.proofs.Places.{place_behind}
use Rattle.retransmission.proofs.Stores.{pieces_at}

-- a record laid in front of the part of an area from a place on
pub record_there : (area part : List ℕ) (r : Record) (at : ℕ) →
    at + record_bytes ≤ length area →
    part ≡ in_front (bytes_of r) (take (length area - at) (drop at area)) →
    put_mid at (length area - at) area part ≡ laid area at (bytes_of r)
unfolding laid
record_there area part r at h e =
    let size = length_bytes_of r in
    record_lent area part r at e ∙ ap (λ (n : ℕ). take at area ++ bytes_of r ++ drop (at + n) area) (sym size) ∙
    sym (sets-eq (bytes_of r) area at (omega arith))

behind_last : (ps : List (List ℕ)) (n k : ℕ) →
    held_behind ps n (suc k) ≡ held_behind ps n k ++ fields_of (get_or ps (place_of (suc (n + k))) []) ∷ []
unfolding held_behind
behind_last ps n zero = let e : n + 0 ≡ n = omega arith in rw e
behind_last ps n (suc k) =
    let e : suc n + k ≡ n + suc k = omega arith in
    ap (◌∷◌ (fields_of (get_or ps (place_of (suc n)) [])))
    (behind_last ps (suc n) k ∙ ap (λ (m : ℕ). held_behind ps (suc n) k ++ fields_of (get_or ps (place_of (suc m)) []) ∷ []) e)

length_behind : (ps : List (List ℕ)) (n k : ℕ) → length (held_behind ps n k) ≡ k
unfolding held_behind
length_behind ps n zero = refl
length_behind ps n (suc k) = ap suc (length_behind ps (suc n) k)

behind_size : (ps : List (List ℕ)) (n k : ℕ) → length (all_bytes (held_behind ps n k)) ≡ k * record_bytes
behind_size ps n k = omega (arith, length_all_bytes (held_behind ps n k), length_behind ps n k)

-- i results are laid down
abbrev pub Fetching : List ℕ → ℕ → List ℕ → List ℕ → ℕ → Type 0
Fetching sent from first area i = area ≡ laid first 0 (all_bytes (held_behind (places_of sent) from i))

module _ (sent : List ℕ) (from : ℕ) (first : List ℕ) where
  pub fetching_start : Fetching sent from first first 0
  unfolding held_behind all_bytes
  fetching_start = sym (laid_none first 0)

  module _ (area : List ℕ) (i : ℕ) (v : Fetching sent from first area i) where
    -- the record at the next place
    abbrev next_record : ℕ → Record
    next_record at = fields_of (take record_bytes (drop at sent))

    one_more :
        (at : ℕ) → at ≡ (from + i) % held_results * record_bytes →
        all_bytes (held_behind (places_of sent) from i) ++ bytes_of (next_record at) ≡ all_bytes (held_behind (places_of sent) from (i + 1))
    unfolding all_bytes places_of
    one_more at here =
        let ps = places_of sent in
        let p = (from + i) % held_results in
        let last : Record = fields_of (get_or ps (place_of (suc (from + i))) []) in
        let same : last ≡ next_record (p * record_bytes) =
        ap fields_of
        (ap (λ (m : ℕ). get_or ps m []) (place_behind (from + i)) ∙ pieces_at held_results p sent (mod-lt (from + i) (omega arith))) in
        let one : i + 1 ≡ suc i = omega arith in
        rw (here, one)
        (sym
        (ap all_bytes (behind_last ps from i) ∙ all_bytes_append (held_behind ps from i) (last ∷ []) ∙
        ap (λ (l : List ℕ). all_bytes (held_behind ps from i) ++ l) (append-nil (bytes_of last) ∙ ap bytes_of same)))

    pub fetching_turn :
        (at : ℕ) → at ≡ (from + i) % held_results * record_bytes → (next : List ℕ) →
        next ≡ laid area (i * record_bytes) (bytes_of (next_record at)) → Fetching sent from first next (i + 1)
    fetching_turn at here next e =
        let ps = places_of sent in
        let size : i * record_bytes ≡ 0 + length (all_bytes (held_behind ps from i)) = omega (arith, behind_size ps from i) in
        e ∙ ap (λ (z : List ℕ). laid z (i * record_bytes) (bytes_of (next_record at))) v ∙
        laid_laid first 0 (i * record_bytes) (all_bytes (held_behind ps from i)) (bytes_of (next_record at)) size ∙
        ap (laid first 0) (one_more at here)

    pub fetching_end : i * record_bytes ≤ length first → area ≡ in_front (all_bytes (held_behind (places_of sent) from i)) first
    fetching_end enough = v ∙ laid_front first (all_bytes (held_behind (places_of sent) from i)) (omega (arith, behind_size (places_of sent) from i))
