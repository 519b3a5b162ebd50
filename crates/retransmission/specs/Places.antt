-- The send-back store's places, each of a record's bytes: result n stands at place (n - 1) modulo 512 (document 02, W2).
use Rattle.std.specs.Prelude.{ℕ, zero, suc, ◌-◌, ◌%◌, Bool, true, cond, ◌&&◌, List, [], ◌∷◌, ◌++◌, eqb, take, drop, get_or, set, replicate}
use Rattle.area.specs.Laid.{in_front}
use Rattle.record.specs.declared.Record.{Record}
use Rattle.record.specs.Sizes.{record_bytes}
use Rattle.record.specs.Kinds.{is_stable}
use Rattle.record.specs.Layout.{bytes_of}
use Rattle.record.specs.Fields.{fields_of}
use Rattle.retransmission.specs.Sizes.{held_results}

-- ---- bytes, a record's at a time

-- the first n pieces
unfoldable pub pieces : ℕ → List ℕ → List (List ℕ)
pieces zero bytes = []
pieces (suc n) bytes = take record_bytes bytes ∷ pieces n (drop record_bytes bytes)

-- pieces one after the other
unfoldable pub joined : List (List ℕ) → List ℕ
joined [] = []
joined (b ∷ bs) = b ++ joined bs

-- ---- the store

-- the places of a store, and a store with these places: what lies after them is as it was
unfoldable pub places_of : List ℕ → List (List ℕ)
places_of sent = pieces held_results sent

unfoldable pub with_places : List ℕ → List (List ℕ) → List ℕ
with_places sent ps = in_front (joined ps) sent

-- the place of result n
unfoldable pub place_of : ℕ → ℕ
place_of n = (n - 1) % held_results

-- a place that is given up, or was never used since the opening
unfoldable pub empty_place : List ℕ
empty_place = replicate record_bytes 0

-- every stable one of these records goes to its place
unfoldable pub holding : List (List ℕ) → List Record → List (List ℕ)
holding ps [] = ps
holding ps (r ∷ rs) = holding (cond (is_stable r.kind) (set ps (place_of r.id) (bytes_of r)) ps) rs

-- results n + 1 to n + k are given up
unfoldable pub given_up : List (List ℕ) → ℕ → ℕ → List (List ℕ)
given_up ps n zero = ps
given_up ps n (suc k) = given_up (set ps (place_of (suc n)) empty_place) (suc n) k

-- the records that stand at the places of results n + 1 to n + k
unfoldable pub held_behind : List (List ℕ) → ℕ → ℕ → List Record
held_behind ps n zero = []
held_behind ps n (suc k) = fields_of (get_or ps (place_of (suc n)) []) ∷ held_behind ps (suc n) k

-- a place that holds result n has a stable result's kind and n for its id; nothing else of it is looked at
unfoldable pub place_ok : ℕ → List ℕ → Bool
place_ok n piece = is_stable (fields_of piece).kind && eqb (fields_of piece).id n

-- the places of results n + 1 to n + k are so
unfoldable pub places_ok : List (List ℕ) → ℕ → ℕ → Bool
places_ok ps n zero = true
places_ok ps n (suc k) = place_ok (suc n) (get_or ps (place_of (suc n)) []) && places_ok ps (suc n) k

-- pieces numbered after n, each laid at its place
module _ {A : Type 0} where
  unfoldable pub held_over : List A → ℕ → List A → List A
  held_over ps n [] = ps
  held_over ps n (x ∷ xs) = held_over (set ps (n % held_results) x) (suc n) xs
