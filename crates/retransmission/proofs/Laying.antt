-- Pieces laid at their places one after the other: those that are left, laid over the store as it is, make the same store all the time.
use Rattle.std.proofs.Common.{◌≡◌, ◌∙◌, ℕ, zero, suc, ◌+◌, ◌%◌, ◌<◌, ◌≤◌, List, [], ◌∷◌, length, get_or, set, drop, replicate, sym, refl, ap, arith}
use lib.Seq.{drop-cons}
use Rattle.std.proofs.lemmas.List.{drop_all}
use Rattle.record.specs.Sizes.{record_bytes}
use Rattle.retransmission.specs.Sizes.{held_results, held_bytes}
use Rattle.retransmission.specs.Places.{places_of, with_places, empty_place, given_up, held_over}
use Rattle.retransmission.proofs.Places.{place_behind}
use Rattle.retransmission.proofs.Stores.{Whole, Places, places_sized, places_with, with_with, with_same, length_with, set_places}

whole_at : (xs : List (List ℕ)) (i : ℕ) → Whole xs → i < length xs → length (get_or xs i []) ≡ record_bytes
whole_at [] i w h = absurd (omega arith)
whole_at (x ∷ xs) zero w h = w.0
whole_at (x ∷ xs) (suc i) w h = whole_at xs i w.1 (omega arith)

whole_drop : (xs : List (List ℕ)) (i : ℕ) → Whole xs → Whole (drop i xs)
whole_drop xs zero w = w
whole_drop [] (suc i) w = tt
whole_drop (x ∷ xs) (suc i) w = whole_drop xs i w.1

held_places : (ps : List (List ℕ)) (n : ℕ) (xs : List (List ℕ)) → Whole xs → Places ps → Places (held_over ps n xs)
unfolding held_over
held_places ps n [] h v = v
held_places ps n (x ∷ xs) h v = held_places (set ps (n % held_results) x) (suc n) xs h.1 (set_places ps (n % held_results) x h.0 v)

-- i of the pieces behind number n are laid
pub record Laying (first : List ℕ) (n : ℕ) (xs : List (List ℕ)) (sent : List ℕ) (i : ℕ) : Type 0 where
  pub size : length sent ≡ length first
  pub rest : with_places sent (held_over (places_of sent) (n + i) (drop i xs)) ≡ with_places first (held_over (places_of first) n xs)

module _ (first : List ℕ) (n : ℕ) (xs : List (List ℕ)) where
  pub laying_start : (i : ℕ) → i ≡ 0 → Laying first n xs first i
  laying_start i e =
      let none : n + 0 ≡ n = omega arith in
      rw e (record { size = refl; rest = rw none refl })

  module _ (room : held_bytes ≤ length first) (sent : List ℕ) (i : ℕ) (v : Laying first n xs sent i) where
    long : held_bytes ≤ length sent
    long = omega (arith, v.size)

    pub laying_turn :
        Whole xs → i < length xs → (next : List ℕ) (m : ℕ) → m ≡ i + 1 →
        next ≡ with_places sent (set (places_of sent) ((n + i) % held_results) (get_or xs i [])) → Laying first n xs next m
    unfolding held_over
    laying_turn w l next m f e =
        let x = get_or xs i [] in
        let qs = set (places_of sent) ((n + i) % held_results) x in
        let whole : Places qs = set_places (places_of sent) ((n + i) % held_results) x (whole_at xs i w l) (places_sized sent long) in
        let there : places_of next ≡ qs = ap places_of e ∙ places_with sent qs whole in
        let left = drop (suc i) xs in
        let count : m ≡ suc i = omega arith in
        let past : n + suc i ≡ suc (n + i) = omega arith in
        record {
          size = ap length e ∙ length_with sent qs whole long ∙ v.size;
          rest =
              rw (count, there, past)
              (ap (λ (z : List ℕ). with_places z (held_over qs (suc (n + i)) left)) e ∙
              with_with sent qs whole (held_over qs (suc (n + i)) left) (held_places qs (suc (n + i)) left (whole_drop xs (suc i) w) whole) ∙
              ap (λ (ys : List (List ℕ)). with_places sent (held_over (places_of sent) (n + i) ys)) (sym (drop-cons xs i [] l)) ∙
              v.rest);
        }

    pub laying_end : length xs ≤ i → sent ≡ with_places first (held_over (places_of first) n xs)
    unfolding held_over
    laying_end l = sym (with_same sent long) ∙ (rw (drop_all i xs l) at v.rest)

-- ---- empty pieces: results given up

pub given_over : (ps : List (List ℕ)) (n k : ℕ) → given_up ps n k ≡ held_over ps n (replicate k empty_place)
unfolding given_up held_over
given_over ps n zero = refl
given_over ps n (suc k) =
    ap (λ (i : ℕ). given_up (set ps i empty_place) (suc n) k) (place_behind n) ∙ given_over (set ps (n % held_results) empty_place) (suc n) k
