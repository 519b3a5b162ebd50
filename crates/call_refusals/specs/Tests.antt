-- What the tests on a call's line look at (refusals 11 to 14).
use Rattle.std.specs.Prelude.{ℕ, ◌≡◌, List, eqb, length}
use Rattle.journal.specs.Kinds.{letter_t}
use Rattle.store.specs.Lists.{some_of}
use Rattle.store.specs.Parts.{share}
use Rattle.protocol.specs.Node.{Line, keeps_tentative}
use Rattle.node.specs.declared.LineHead.{LineHead}

-- it stands in the line's head and in the kinds of its share, which begins at `base`
pub record StandsIn (head : LineHead) (kinds : List ℕ) (base : ℕ) (l : Line) : Type 0 where
  pub boundary : l.boundary ≡ head.boundary
  pub last_id : l.last_id ≡ head.last_id
  pub last_stable_id : l.last_stable_id ≡ head.last_stable_id
  pub kept : length l.kept ≡ head.kept
  pub tentative : keeps_tentative l ≡ some_of (λ kind. eqb kind letter_t) (share base head.kept kinds)
