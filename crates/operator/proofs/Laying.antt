-- A window's results laid down one by one: at each turn, what is laid down and what the meters from a place on still give are together all
-- of it, in numbers, in places and in bytes.
use Prim.Native.Nat.{ℕ, suc, ◌+◌, ◌*◌, ◌≤◌, ◌<◌}
use mathlib.Core.Path.{◌≡◌, refl, sym, ◌∙◌, ap}
use mathlib.Core.List.{List, [], ◌++◌}
use native.Mathlib.Omega.{arith}
use native.Mathlib.Numerals.{add-one}
use lib.ListN.{length, get_or, take, drop, replicate}
use lib.Seq.{sets-eq}
use Rattle.std.specs.Prelude.{Some, None}
use Rattle.area.specs.Laid.{laid, in_front}
use Rattle.area.proofs.Laid.{laid_laid, laid_none, laid_front, length_laid}
use Rattle.clock.specs.declared.ReadingTime.{ReadingTime}
use Rattle.clock.specs.Windows.{window_start}
use Rattle.settings.specs.declared.Settings.{Settings}
use Rattle.record.specs.declared.Record.{Record}
use Rattle.record.specs.Sizes.{record_bytes}
use Rattle.record.specs.Layout.{bytes_of, all_bytes}
use Rattle.record.proofs.BytesOf.{length_bytes_of}
use Rattle.record.proofs.AllBytes.{length_all_bytes}
use Rattle.operator_meter.specs.declared.Meter.{Meter}
use Rattle.marks.specs.Marks.{next_marked}
use Rattle.operator.specs.Meters.{Operator, meter_count, clear}
use Rattle.operator_meter.specs.Values.{no_meter}
use Rattle.operator.specs.Results.{result_of, results}
use Rattle.operator.specs.Parts.{marks_of}
use Rattle.operator.specs.Work.{window_results, close}
use Rattle.operator.proofs.Results.{givers, givers_most, results_length}
use Rattle.operator.proofs.Closing.{window_results_length}
use Rattle.operator.proofs.NextResults.{next_gives, results_next, results_nothing}

-- bytes written over an area are laid there
written : (area bytes : List ℕ) (at : ℕ) → at + length bytes ≤ length area → take at area ++ bytes ++ drop (at + length bytes) area ≡ laid area at bytes
unfolding laid
written area bytes at h = sym (sets-eq bytes area at h)

module _ (kind : ℕ) (start : ReadingTime) (ms : List Meter) where
  -- the bytes of the results that the meters from a place on give
  unfoldable pub rest : ℕ → ℕ → List ℕ
  rest from number = all_bytes (results kind start from number (drop from ms))

  length_rest : (from n : ℕ) → length (rest from n) ≡ record_bytes * givers (drop from ms)
  unfolding rest
  length_rest from n =
      length_all_bytes (results kind start from n (drop from ms)) ∙
      ap (λ (k : ℕ). record_bytes * k) (results_length kind start from n (drop from ms))

  -- for the list of all meters
  module _ (sized : length ms ≡ meter_count) where
    givers_next : (from n i : ℕ) → next_marked (marks_of ms) from ≡ Some i → givers (drop from ms) ≡ suc (givers (drop (suc i) ms))
    givers_next from n i e =
        sym (results_length kind start from n (drop from ms)) ∙
        ap length (results_next kind start ms sized from n i e) ∙
        ap suc (results_length kind start (suc i) (suc n) (drop (suc i) ms))

    givers_nothing : (from n : ℕ) → next_marked (marks_of ms) from ≡ None → givers (drop from ms) ≡ 0
    givers_nothing from n e =
        sym (results_length kind start from n (drop from ms)) ∙ ap length (results_nothing kind start ms sized from n e)

    rest_next : (from n i : ℕ) → next_marked (marks_of ms) from ≡ Some i
        → rest from n ≡ bytes_of (result_of kind start i (suc n) (get_or ms i no_meter)) ++ rest (suc i) (suc n)
    unfolding rest all_bytes
    rest_next from n i e = ap all_bytes (results_next kind start ms sized from n i e)

    rest_nothing : (from n : ℕ) → next_marked (marks_of ms) from ≡ None → rest from n ≡ []
    unfolding rest all_bytes
    rest_nothing from n e = ap all_bytes (results_nothing kind start ms sized from n e)

-- the area, the newest number, the place behind the last byte and the next meter, where the area held `area₀` and the number was `number₀`
pub record Laying (kind : ℕ) (start : ReadingTime) (ms : List Meter) (area₀ : List ℕ) (number₀ : ℕ) (area : List ℕ) (number at from : ℕ) : Type 0 where
  pub whole : length ms ≡ meter_count
  pub within : from ≤ meter_count
  pub size : length area ≡ length area₀
  pub numbers : number + givers (drop from ms) ≡ number₀ + givers ms
  pub places : at + record_bytes * givers (drop from ms) ≡ record_bytes * givers ms
  pub bytes : laid area at (rest kind start ms from number) ≡ in_front (rest kind start ms 0 number₀) area₀

-- room for the result of meter i
pub record RoomFor (i : ℕ) (number₀ : ℕ) (area : List ℕ) (number at from : ℕ) : Type 0 where
  pub above : from ≤ i
  pub below : i < meter_count
  pub newer : number < number₀ + meter_count
  pub bytes : at + record_bytes ≤ length area

module _ (kind : ℕ) (start : ReadingTime) (ms : List Meter) (area₀ : List ℕ) (number₀ : ℕ) (fits : meter_count * record_bytes ≤ length area₀) where
  pub laying_begins : length ms ≡ meter_count → Laying kind start ms area₀ number₀ area₀ number₀ 0 0
  laying_begins e =
      record {
        whole = e;
        within = omega arith;
        size = refl;
        numbers = refl;
        places = omega arith;
        bytes = laid_front area₀ (rest kind start ms 0 number₀) (omega (arith, length_rest kind start ms 0 number₀, givers_most ms));
      }

  module _ (area : List ℕ) (number at from : ℕ) (v : Laying kind start ms area₀ number₀ area number at from) where
    pub room_next : (i : ℕ) → next_marked (marks_of ms) from ≡ Some i → RoomFor i number₀ area number at from
    room_next i e =
        let g = next_gives ms v.whole from i e in
        let k = givers_next kind start ms v.whole from number i e in
        let most = givers_most ms in
        record {
          above = g.above;
          below = omega (arith, g.within, v.whole);
          newer = omega (arith, v.numbers, v.whole);
          bytes = omega (arith, v.places, v.whole, v.size);
        }

    pub laying_next : (i : ℕ) → next_marked (marks_of ms) from ≡ Some i
        → (r : Record) → r ≡ result_of kind start i (number + 1) (get_or ms i no_meter)
        → (next : List ℕ) → next ≡ take at area ++ bytes_of r ++ drop (at + record_bytes) area
        → Laying kind start ms area₀ number₀ next (number + 1) (at + record_bytes) (i + 1)
    laying_next i e r q next p =
        let room = room_next i e in
        let k = givers_next kind start ms v.whole from number i e in
        let size = length_bytes_of r in
        let one : next ≡ laid area at (bytes_of r) =
        p ∙
        ap (λ (n : ℕ). take at area ++ bytes_of r ++ drop (at + n) area) (sym size) ∙
        written area (bytes_of r) at (omega (arith, room.bytes)) in
        let its : r ≡ result_of kind start i (suc number) (get_or ms i no_meter) = rw add-one at q in
        let more : rest kind start ms from number ≡ bytes_of r ++ rest kind start ms (suc i) (suc number) =
        rest_next kind start ms v.whole from number i e ∙
        ap (λ (x : Record). bytes_of x ++ rest kind start ms (suc i) (suc number)) (sym its) in
        rw (add-one i, add-one number)
        (record {
          whole = v.whole;
          within = omega (arith, room.below);
          size = ap length one ∙ length_laid area at (bytes_of r) ∙ v.size;
          numbers = omega (arith, v.numbers);
          places = omega (arith, v.places);
          bytes =
              ap (λ (a : List ℕ). laid a (at + record_bytes) (rest kind start ms (suc i) (suc number))) one ∙
              laid_laid area at (at + record_bytes) (bytes_of r) (rest kind start ms (suc i) (suc number)) (omega arith) ∙
              ap (laid area at) (sym more) ∙
              v.bytes;
        })

    pub laying_ends : next_marked (marks_of ms) from ≡ None
        → (number ≡ number₀ + givers ms) × (area ≡ in_front (rest kind start ms 0 number₀) area₀)
    laying_ends e =
        let none = rest_nothing kind start ms v.whole from number e in (
          omega (arith, v.numbers, givers_nothing kind start ms v.whole from number e),
          sym (laid_none area at) ∙ ap (laid area at) (sym none) ∙ v.bytes,
        )

-- the window that bucket j ends: its results' bytes, and the operator behind it
module _ (s : Settings) (kind j : ℕ) (o : Operator) where
  pub rest_of_window : (t : ℕ) → t ≡ window_start s.bucket s.window j → rest kind (record { 0 = t }) o.meters 0 o.number ≡ all_bytes (close s kind j o).records
  unfolding rest close window_results
  rest_of_window t e = rw e

  pub close_cleared : (n : ℕ) → n ≡ o.number + givers o.meters → clear (record { meters = o.meters; number = n }) ≡ (close s kind j o).operator
  unfolding clear close
  close_cleared n e = λ i. record { meters = replicate meter_count no_meter; number = (e ∙ ap (λ (k : ℕ). o.number + k) (sym (window_results_length s kind j o))) i }
