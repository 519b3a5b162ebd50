-- The held places looked at one after the other: all pass, or one that fails is found.
use Prim.Native.Nat.{ℕ, zero, suc, ◌+◌, ◌-◌, ◌*◌, ◌%◌, ◌≤◌, ◌<◌}
use mathlib.Core.Path.{◌≡◌, refl, sym, ◌∙◌, ap, ap₂}
use mathlib.Core.Bool.{Bool, true, false, ◌&&◌, and_assoc}
use mathlib.Core.List.{List, [], ◌∷◌}
use native.Mathlib.Omega.{arith}
use native.Mathlib.Nat.{mod-lt}
use lib.Dec.{eqb}
use lib.ListN.{get_or, take, drop}
use lib.Seq.{get_or-take, get_or-drop, take-take, take-nil, drop-drop}
use Rattle.endian.specs.LittleEndian.{number_of}
use Rattle.record.specs.Sizes.{record_bytes}
use Rattle.record.specs.Kinds.{is_stable}
use Rattle.record.specs.Fields.{word_at, fields_of}
use Rattle.retransmission.specs.Sizes.{held_results}
use Rattle.retransmission.specs.Places.{places_of, place_of, place_ok, places_ok}
use Rattle.retransmission.proofs.Places.{place_behind}
use Rattle.retransmission.proofs.Stores.{pieces_at}

-- some places, and those behind them
pub passes_more : (ps : List (List ℕ)) (n k m : ℕ) → places_ok ps n (k + m) ≡ places_ok ps n k && places_ok ps (n + k) m
unfolding places_ok
passes_more ps n zero m =
    let none : n + 0 ≡ n = omega arith in
    let all : 0 + m ≡ m = omega arith in
    rw (none, all)
passes_more ps n (suc k) m =
    let count : suc k + m ≡ suc (k + m) = omega arith in
    let next : suc n + k ≡ n + suc k = omega arith in
    let first : Bool = place_ok (suc n) (get_or ps (place_of (suc n)) []) in
    ap (places_ok ps n) count ∙ ap (λ (b : Bool). first && b) (passes_more ps (suc n) k m) ∙
    sym (and_assoc first (places_ok ps (suc n) k) (places_ok ps (suc n + k) m)) ∙
    ap (λ (i : ℕ). (first && places_ok ps (suc n) k) && places_ok ps i m) next

-- a word inside a piece
take_less : (n m : ℕ) (xs : List ℕ) → drop n (take (n + m) xs) ≡ take m (drop n xs)
take_less zero m xs = let e : 0 + m ≡ m = omega arith in rw e
take_less (suc n) m [] = ap (drop (suc n)) (take-nil (suc n + m)) ∙ sym (take-nil m)
take_less (suc n) m (x ∷ xs) =
    let e : suc n + m ≡ suc (n + m) = omega arith in
    ap (λ (k : ℕ). drop (suc n) (take k (x ∷ xs))) e ∙ take_less n m xs

word_inside : (at : ℕ) (bytes : List ℕ) → take 4 (drop 4 (take record_bytes (drop at bytes))) ≡ take 4 (drop (at + 4) bytes)
word_inside at bytes =
    ap (take 4) (take_less 4 28 (drop at bytes)) ∙ take-take 4 28 (drop 4 (drop at bytes)) (omega arith) ∙
    ap (take 4) (drop-drop 4 at bytes)

-- the test of a place, on the store's bytes
place_test :
    (sent : List ℕ) (n : ℕ) →
    let at = n % held_results * record_bytes in
    place_ok (suc n) (get_or (places_of sent) (place_of (suc n)) []) ≡
    is_stable (get_or sent at 0) && eqb (number_of (take 4 (drop (at + 4) sent))) (suc n)
unfolding place_ok places_of fields_of word_at
place_test sent n =
    let p = n % held_results in
    let at = p * record_bytes in
    let piece : get_or (places_of sent) (place_of (suc n)) [] ≡ take record_bytes (drop at sent) =
    ap (λ (m : ℕ). get_or (places_of sent) m []) (place_behind n) ∙ pieces_at held_results p sent (mod-lt n (omega arith)) in
    let none : at + 0 ≡ at = omega arith in
    let kind : get_or (take record_bytes (drop at sent)) 0 0 ≡ get_or sent at 0 =
    get_or-take record_bytes (drop at sent) 0 0 (omega arith) ∙ get_or-drop at sent 0 0 ∙ ap (λ (m : ℕ). get_or sent m 0) none in
    ap (place_ok (suc n)) piece ∙
    ap₂ (λ (k : ℕ) (w : List ℕ). is_stable k && eqb (number_of w) (suc n)) kind (word_inside at sent)

-- and with the place as it is counted in the code
pub held_test :
    (sent : List ℕ) (n at : ℕ) → at ≡ n % held_results * record_bytes →
    place_ok (n + 1) (get_or (places_of sent) (place_of (n + 1)) []) ≡
    is_stable (get_or sent at 0) && eqb (number_of (take 4 (drop (at + 4) sent))) (n + 1)
held_test sent n at here = let one : n + 1 ≡ suc n = omega arith in rw (here, one) (place_test sent n)

-- ---- the places behind number `from` and up to number n pass

pub passes_none : (ps : List (List ℕ)) (n : ℕ) → places_ok ps n (n - n) ≡ true
unfolding places_ok
passes_none ps n = let none : n - n ≡ 0 = omega arith in rw none refl

module _ (ps : List (List ℕ)) (from n : ℕ) (least : from ≤ n) (so_far : places_ok ps from (n - from) ≡ true) where
  -- the test of the next
  abbrev next_test : Bool
  next_test = place_ok (n + 1) (get_or ps (place_of (n + 1)) [])

  -- with the next place, and those behind it
  with_next : (k : ℕ) → places_ok ps from (n - from + suc k) ≡ next_test && places_ok ps (suc n) k
  unfolding places_ok
  with_next k =
      let sum : from + (n - from) ≡ n = omega arith in
      let one : n + 1 ≡ suc n = omega arith in
      passes_more ps from (n - from) (suc k) ∙ ap₂ (λ (b : Bool) (m : ℕ). b && places_ok ps m (suc k)) so_far sum ∙ rw one refl

  pub passes_on : true ≡ next_test → places_ok ps from (n + 1 - from) ≡ true
  unfolding places_ok
  passes_on e =
      let one : n + 1 - from ≡ n - from + suc 0 = omega arith in
      rw one (with_next 0 ∙ ap (λ (b : Bool). b && true) (sym e))

  pub fails_there : (to : ℕ) → n < to → false ≡ next_test → false ≡ places_ok ps from (to - from)
  fails_there to more e =
      let k = to - suc n in
      let all : to - from ≡ n - from + suc k = omega arith in
      rw all (sym (with_next k ∙ ap (λ (b : Bool). b && places_ok ps (suc n) k) (sym e)))
