-- Undos applied to an output, record by record (document 01, section 'From the opening on'). An output's elements are the node's records,
-- or whatever is read as records: bytes.
use Rattle.std.specs.Prelude.{Bool, true, false, cond, not, List, [], ◌∷◌, ◌++◌, leb, eqb}
use Rattle.record.specs.declared.Record.{Record}
use Rattle.record.specs.Kinds.{is_result, is_stable}
use Rattle.journal.specs.Kinds.{letter_u, letter_r}
use Rattle.store.specs.Lists.{keep}

module _ {A : Type 0} (read : A → Record) where
  -- a result is appended, an undo removes the results numbered above it, other records leave the list alone
  unfoldable pub apply_one : List A → A → List A
  apply_one results x =
      cond (is_result (read x).kind) (results ++ x ∷ [])
      (cond (eqb (read x).kind letter_u) (keep (λ (y : A). leb (read y).id (read x).id) results) results)

  unfoldable pub applied : List A → List A → List A
  applied results [] = results
  applied results (x ∷ xs) = applied (apply_one results x) xs

  -- the results that one record strikes, and those that all of them strike
  unfoldable pub struck_by_one : List A → A → List A
  struck_by_one results x =
      cond (eqb (read x).kind letter_u) (keep (λ (y : A). not (leb (read y).id (read x).id)) results) []

  unfoldable pub struck : List A → List A → List A
  struck results [] = []
  struck results (x ∷ xs) = struck_by_one results x ++ struck (apply_one results x) xs

  -- the stable results, as they came
  unfoldable pub stable_records : List A → List A
  stable_records = keep (λ (x : A). is_stable (read x).kind)

  -- corrections are to be ended (document 01: the closing mark is due): an undo has no R behind it
  unfoldable pub done_due : Bool → List A → Bool
  done_due due [] = due
  done_due due (x ∷ xs) =
      done_due (cond (eqb (read x).kind letter_u) true (cond (eqb (read x).kind letter_r) false due)) xs
