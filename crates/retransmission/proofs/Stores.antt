-- A store and its places: the places laid down are found again, what lies behind them stays, and places laid down as they were change
-- nothing.
use Prim.Native.Nat.{ℕ, zero, suc, ◌+◌, ◌-◌, ◌*◌, ◌≤◌, ◌<◌}
use mathlib.Core.Path.{◌≡◌, refl, sym, ◌∙◌, ap, ap₂, subst}
use mathlib.Core.List.{List, [], ◌∷◌, ◌++◌, append_assoc}
use native.Mathlib.Omega.{arith}
use lib.ListN.{length, take, drop, get_or, set, replicate, length-append, length-drop, length-replicate, length-set, take-append-drop}
use lib.Seq.{take_at, drop_at, take-add, drop-drop, length-take-le, sets-eq}
use borrow.Rule.Slice.PartMut.{put_mid}
use Rattle.area.specs.Laid.{laid, in_front}
use Rattle.record.specs.Sizes.{record_bytes}
use Rattle.retransmission.specs.Sizes.{held_results, held_bytes}
use Rattle.retransmission.specs.Places.{pieces, joined, places_of, with_places, empty_place}

-- every piece has a record's bytes
abbrev pub Whole : List (List ℕ) → Type 0
Whole [] = Unit {0}
Whole (b ∷ bs) = (length b ≡ record_bytes) × Whole bs

-- as many places as a store has
pub record Places (ps : List (List ℕ)) : Type 0 where
  pub count : length ps ≡ held_results
  pub whole : Whole ps

pub whole_set : (ps : List (List ℕ)) (i : ℕ) (b : List ℕ) → length b ≡ record_bytes → Whole ps → Whole (set ps i b)
whole_set [] i b e h = tt
whole_set (p ∷ ps) zero b e h = (e, h.1)
whole_set (p ∷ ps) (suc i) b e h = (h.0, whole_set ps i b e h.1)

pub whole_replicate : (n : ℕ) (b : List ℕ) → length b ≡ record_bytes → Whole (replicate n b)
whole_replicate zero b e = tt
whole_replicate (suc n) b e = (e, whole_replicate n b e)

pub empty_places : Places (replicate held_results empty_place)
unfolding empty_place
empty_places =
    record {
      count = length-replicate held_results (replicate {A = ℕ} record_bytes 0);
      whole = whole_replicate held_results (replicate {A = ℕ} record_bytes 0) (length-replicate {A = ℕ} record_bytes 0);
    }

pub length_joined : (ps : List (List ℕ)) → Whole ps → length (joined ps) ≡ length ps * record_bytes
unfolding joined
length_joined [] h = refl
length_joined (p ∷ ps) h = omega (arith, length-append p (joined ps), h.0, length_joined ps h.1)

-- laid one behind the other they are found again, whatever stands behind them
pub pieces_joined : (ps : List (List ℕ)) (rest : List ℕ) → Whole ps → pieces (length ps) (joined ps ++ rest) ≡ ps
unfolding pieces joined
pieces_joined [] rest h = refl
pieces_joined (p ∷ ps) rest h =
    let split = append_assoc p (joined ps) rest in
    let front = take_at p (joined ps ++ rest) record_bytes h.0 in
    let behind = drop_at p (joined ps ++ rest) record_bytes h.0 in
    ap₂ ◌∷◌ (ap (take record_bytes) split ∙ front)
    (ap (λ (l : List ℕ). pieces (length ps) (drop record_bytes l)) split ∙ ap (pieces (length ps)) behind ∙ pieces_joined ps rest h.1)

pub length_pieces : (n : ℕ) (bytes : List ℕ) → length (pieces n bytes) ≡ n
unfolding pieces
length_pieces zero bytes = refl
length_pieces (suc n) bytes = ap suc (length_pieces n (drop record_bytes bytes))

pub whole_pieces : (n : ℕ) (bytes : List ℕ) → n * record_bytes ≤ length bytes → Whole (pieces n bytes)
unfolding pieces
whole_pieces zero bytes h = tt
whole_pieces (suc n) bytes h =
    (length-take-le record_bytes bytes (omega arith), whole_pieces n (drop record_bytes bytes) (omega (arith, length-drop record_bytes bytes)))

-- the piece at place i
pub pieces_at : (n i : ℕ) (bytes : List ℕ) → i < n → get_or (pieces n bytes) i [] ≡ take record_bytes (drop (i * record_bytes) bytes)
unfolding pieces
pieces_at zero i bytes h = absurd (omega arith)
pieces_at (suc n) zero bytes h = refl
pieces_at (suc n) (suc i) bytes h =
    let e : record_bytes + i * record_bytes ≡ suc i * record_bytes = omega arith in
    pieces_at n i (drop record_bytes bytes) (omega arith) ∙
    ap (take record_bytes) (drop-drop (i * record_bytes) record_bytes bytes ∙ ap (λ (m : ℕ). drop m bytes) e)

-- ---- a store

pub places_sized : (sent : List ℕ) → held_bytes ≤ length sent → Places (places_of sent)
unfolding places_of
places_sized sent h = record { count = length_pieces held_results sent; whole = whole_pieces held_results sent h }

module _ (sent : List ℕ) (ps : List (List ℕ)) (v : Places ps) where
  joined_size : length (joined ps) ≡ held_bytes
  joined_size = omega (arith, length_joined ps v.whole, v.count)

  pub places_with : places_of (with_places sent ps) ≡ ps
  unfolding places_of with_places in_front
  places_with =
      subst (λ (n : ℕ). pieces n (joined ps ++ drop (length (joined ps)) sent) ≡ ps) v.count
      (pieces_joined ps (drop (length (joined ps)) sent) v.whole)

  pub behind_with : drop held_bytes (with_places sent ps) ≡ drop held_bytes sent
  unfolding with_places in_front
  behind_with = drop_at (joined ps) (drop (length (joined ps)) sent) held_bytes joined_size ∙ ap (λ (n : ℕ). drop n sent) joined_size

  pub length_with : held_bytes ≤ length sent → length (with_places sent ps) ≡ length sent
  unfolding with_places in_front
  length_with h =
      omega (
        arith,
        length-append (joined ps) (drop (length (joined ps)) sent),
        length-drop (length (joined ps)) sent,
        joined_size,
      )

  -- places laid over places
  pub with_with : (qs : List (List ℕ)) → Places qs → with_places (with_places sent ps) qs ≡ with_places sent qs
  unfolding with_places in_front
  with_with qs w =
      let size : length (joined qs) ≡ held_bytes = omega (arith, length_joined qs w.whole, w.count) in
      ap (λ (l : List ℕ). joined qs ++ l)
      (ap (λ (n : ℕ). drop n (joined ps ++ drop (length (joined ps)) sent)) size ∙
      drop_at (joined ps) (drop (length (joined ps)) sent) held_bytes joined_size ∙
      ap (λ (n : ℕ). drop n sent) (joined_size ∙ sym size))

-- ---- bytes laid at a place

-- the pieces and what lies behind them are all of it
joined_pieces : (n : ℕ) (bytes : List ℕ) → n * record_bytes ≤ length bytes → joined (pieces n bytes) ++ drop (n * record_bytes) bytes ≡ bytes
unfolding joined pieces
joined_pieces zero bytes h = refl
joined_pieces (suc n) bytes h =
    let e : suc n * record_bytes ≡ record_bytes + n * record_bytes = omega arith in
    append_assoc (take record_bytes bytes) (joined (pieces n (drop record_bytes bytes))) (drop (suc n * record_bytes) bytes) ∙
    ap (λ (l : List ℕ). take record_bytes bytes ++ (joined (pieces n (drop record_bytes bytes)) ++ l))
    (ap (λ (m : ℕ). drop m bytes) e ∙ sym (drop-drop (n * record_bytes) record_bytes bytes)) ∙
    ap (λ (l : List ℕ). take record_bytes bytes ++ l)
    (joined_pieces n (drop record_bytes bytes) (omega (arith, length-drop record_bytes bytes))) ∙
    take-append-drop record_bytes bytes

-- a store with the places that it has is as it was
pub with_same : (sent : List ℕ) → held_bytes ≤ length sent → with_places sent (places_of sent) ≡ sent
unfolding with_places places_of in_front
with_same sent h =
    ap (λ (n : ℕ). joined (pieces held_results sent) ++ drop n sent) (joined_size sent (pieces held_results sent) (places_sized sent h)) ∙
    joined_pieces held_results sent h

pieces_set :
    (n p : ℕ) (bytes b : List ℕ) → length b ≡ record_bytes → p < n → n * record_bytes ≤ length bytes →
    joined (set (pieces n bytes) p b) ++ drop (n * record_bytes) bytes ≡
    take (p * record_bytes) bytes ++ b ++ drop (p * record_bytes + record_bytes) bytes
unfolding joined pieces
pieces_set zero p bytes b e l h = absurd (omega arith)
pieces_set (suc n) zero bytes b e l h =
    let q : suc n * record_bytes ≡ record_bytes + n * record_bytes = omega arith in
    append_assoc b (joined (pieces n (drop record_bytes bytes))) (drop (suc n * record_bytes) bytes) ∙
    ap (λ (l : List ℕ). b ++ (joined (pieces n (drop record_bytes bytes)) ++ l))
    (ap (λ (m : ℕ). drop m bytes) q ∙ sym (drop-drop (n * record_bytes) record_bytes bytes)) ∙
    ap (λ (l : List ℕ). b ++ l) (joined_pieces n (drop record_bytes bytes) (omega (arith, length-drop record_bytes bytes)))
pieces_set (suc n) (suc p) bytes b e l h =
    let q : suc n * record_bytes ≡ record_bytes + n * record_bytes = omega arith in
    let at : record_bytes + p * record_bytes ≡ suc p * record_bytes = omega arith in
    let past : record_bytes + (p * record_bytes + record_bytes) ≡ suc p * record_bytes + record_bytes = omega arith in
    let rest = drop record_bytes bytes in
    append_assoc (take record_bytes bytes) (joined (set (pieces n rest) p b)) (drop (suc n * record_bytes) bytes) ∙
    ap (λ (l : List ℕ). take record_bytes bytes ++ (joined (set (pieces n rest) p b) ++ l))
    (ap (λ (m : ℕ). drop m bytes) q ∙ sym (drop-drop (n * record_bytes) record_bytes bytes)) ∙
    ap (λ (l : List ℕ). take record_bytes bytes ++ l)
    (pieces_set n p rest b e (omega arith) (omega (arith, length-drop record_bytes bytes))) ∙
    sym (append_assoc (take record_bytes bytes) (take (p * record_bytes) rest ++ b) (drop (p * record_bytes + record_bytes) rest)) ∙
    ap (λ (l : List ℕ). l ++ drop (p * record_bytes + record_bytes) rest)
    (sym (append_assoc (take record_bytes bytes) (take (p * record_bytes) rest) b) ∙
    ap (λ (l : List ℕ). l ++ b) (sym (take-add record_bytes (p * record_bytes) bytes) ∙ ap (λ (m : ℕ). take m bytes) at)) ∙
    ap (λ (l : List ℕ). take (suc p * record_bytes) bytes ++ b ++ l)
    (drop-drop (p * record_bytes + record_bytes) record_bytes bytes ∙ ap (λ (m : ℕ). drop m bytes) past)

-- bytes laid over a part of the store
mid_laid : (sent b : List ℕ) (at k : ℕ) → length b ≡ k → at + k ≤ length sent → put_mid at k sent b ≡ laid sent at b
unfolding laid
mid_laid sent b at k e h =
    rw (drop-drop k at sent)
    (sym (sets-eq b sent at (omega arith) ∙ rw e (append_assoc (take at sent) b (drop (at + k) sent))))

-- a place set is its bytes laid there
pub laid_place :
    (sent : List ℕ) (p : ℕ) (b : List ℕ) → length b ≡ record_bytes → p < held_results → held_bytes ≤ length sent →
    laid sent (p * record_bytes) b ≡ with_places sent (set (places_of sent) p b)
unfolding laid with_places places_of in_front
laid_place sent p b e l h =
    let v : Places (set (pieces held_results sent) p b) =
    record {
      count = length-set (pieces held_results sent) p b ∙ length_pieces held_results sent;
      whole = whole_set (pieces held_results sent) p b e (whole_pieces held_results sent h);
    } in
    sets-eq b sent (p * record_bytes) (omega arith) ∙
    ap (λ (m : ℕ). take (p * record_bytes) sent ++ b ++ drop (p * record_bytes + m) sent) e ∙
    sym (pieces_set held_results p sent b e l h) ∙
    ap (λ (n : ℕ). joined (set (pieces held_results sent) p b) ++ drop n sent) (sym (joined_size sent (set (pieces held_results sent) p b) v))

-- and so is the part of the store that a place is, written anew
pub part_place :
    (sent : List ℕ) (p at end : ℕ) (b : List ℕ) → at ≡ p * record_bytes → end ≡ at + record_bytes → length b ≡ record_bytes →
    p < held_results → held_bytes ≤ length sent → put_mid at (end - at) sent b ≡ with_places sent (set (places_of sent) p b)
part_place sent p at end b here past size l h =
    let k : end - at ≡ record_bytes = omega arith in
    rw (k, here) (mid_laid sent b (p * record_bytes) record_bytes size (omega arith) ∙ laid_place sent p b size l h)

pub set_places : (ps : List (List ℕ)) (i : ℕ) (b : List ℕ) → length b ≡ record_bytes → Places ps → Places (set ps i b)
set_places ps i b e v = record { count = length-set ps i b ∙ v.count; whole = whole_set ps i b e v.whole }
