-- The results of the meters from a place on: the meter at that place adds its own to those of the meters behind it, and behind the last
-- there is nothing. Each law takes the list apart at the place.
use Prim.Native.Nat.{ℕ, suc, ◌≤◌, ◌<◌}
use mathlib.Core.Path.{◌≡◌, sym, ◌∙◌}
use mathlib.Core.Bool.{true, false}
use mathlib.Core.List.{List, [], ◌∷◌, map}
use lib.ListN.{length, get_or, drop, drop_of_length-le, length-map}
use lib.Seq.{drop-cons}
use Rattle.clock.specs.declared.ReadingTime.{ReadingTime}
use Rattle.operator_meter.specs.declared.Meter.{Meter}
use Rattle.operator_meter.specs.Values.{no_meter, has_result}
use Rattle.operator.specs.Results.{result_of, results}

-- an array of structs has its length: what owning it tells is said of the machine values
pub length_mapped : {X Y : Type 0} (f : X → Y) (l : List X) (n : ℕ) → length (map f l) ≡ n → length l ≡ n
length_mapped f l n p = sym (length-map l f) ∙ p

module _ (kind : ℕ) (start : ReadingTime) (ms : List Meter) (i n : ℕ) where
  pub results_from_giver : i < length ms → has_result (get_or ms i no_meter) ≡ true → results kind start i n (drop i ms) ≡ result_of kind start i (suc n) (get_or ms i no_meter) ∷ results kind start (suc i) (suc n) (drop (suc i) ms)
  unfolding results
  results_from_giver h e = rw (drop-cons ms i no_meter h, e)

  pub results_from_other : i < length ms → has_result (get_or ms i no_meter) ≡ false → results kind start i n (drop i ms) ≡ results kind start (suc i) n (drop (suc i) ms)
  unfolding results
  results_from_other h e = rw (drop-cons ms i no_meter h, e)

  pub results_from_end : length ms ≤ i → results kind start i n (drop i ms) ≡ []
  unfolding results
  results_from_end h = rw (drop_of_length-le ms h)
