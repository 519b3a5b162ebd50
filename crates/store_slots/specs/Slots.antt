-- A store that is lent as a slice of readings (document 01, section 'Store and output area').
use Rattle.std.specs.Prelude.{ℕ, ◌-◌, Option, Some, None, Bool, cond, not, ◌&&◌, List, ◌++◌, leb, ltb, length, set, replicate}
use Rattle.std.proofs.lemmas.List.Edits.{sets}
use Rattle.store.specs.declared.Reading.{Reading}
use Rattle.store.specs.Lists.{keep}
use Rattle.store.specs.Order.{is_in}
use Rattle.store.specs.Columns.{zeroed}
use Rattle.store.specs.Parts.{share}

-- the slots have the place `at`
unfoldable pub has_place : ℕ → List Reading → Bool
has_place at xs = ltb at (length xs)

-- a reading in the place `at`, if it is there
unfoldable pub placed_at : ℕ → Reading → List Reading → List Reading
placed_at at r xs = set xs at r

-- the slots have the places from `from` up to `to`
unfoldable pub has_places : ℕ → ℕ → List Reading → Bool
has_places from to xs = leb from to && leb to (length xs)

-- the places from `from` up to `to` zeroed, if they are there
unfoldable pub zeroed_from : ℕ → ℕ → List Reading → List Reading
zeroed_from from to xs = cond (has_places from to xs) (sets xs from (replicate (to - from) zeroed)) xs

-- the slots have a share of n places from `base` on, and buckets have a length
unfoldable pub has_share : ℕ → ℕ → ℕ → List Reading → Bool
has_share base n bucket xs = ltb 0 bucket && (leb base (length xs) && leb n (length xs - base))

-- what stays of a share that keeps n readings from `base` on when bucket j's leave
unfoldable pub staying : ℕ → ℕ → ℕ → ℕ → List Reading → List Reading
staying base n bucket j xs = keep (λ (r : Reading). not (is_in bucket j r)) (share base n xs)

-- how many they are, or that there is no such share
unfoldable pub closing_up : ℕ → ℕ → ℕ → ℕ → List Reading → Option ℕ
closing_up base n bucket j xs = cond (has_share base n bucket xs) (Some (length (staying base n bucket j xs))) None

-- the share closed up, if it is there: those that stay in front, in order, and exactly the places given up zeroed
unfoldable pub closed_slots : ℕ → ℕ → ℕ → ℕ → List Reading → List Reading
closed_slots base n bucket j xs =
    cond (has_share base n bucket xs)
    (sets xs base (staying base n bucket j xs ++ replicate (n - length (staying base n bucket j xs)) zeroed))
    xs
