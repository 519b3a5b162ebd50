-- The displays: what they have acknowledged, what is held for them, and what is asked of their calls (document 02, W2).
use Rattle.std.specs.Prelude.{ℕ, suc, ◌-◌, min, Bool, false, not, ◌&&◌, ◌||◌, List, [], ◌∷◌, leb, ltb, length, get_or, set}
use Rattle.answer.specs.Numbers as Answer
use Rattle.settings.specs.declared.Settings.{Settings}
use Rattle.journal.specs.Kinds.{letter_s}
use Rattle.retransmission.specs.Sizes.{held_results, fetch_limit}
use Rattle.protocol.specs.Node.{Node}
use Rattle.protocol.specs.Rules.{worked}
use Rattle.protocol.specs.Tests.{first_failed}
use Rattle.protocol.specs.declared.Rule.{Rule}
use Rattle.protocol.specs.declared.Rule.TheVariants as Rule

-- the least of these ids
unfoldable pub least_of : List ℕ → ℕ
least_of [] = 0
least_of (a ∷ []) = a
least_of (a ∷ b ∷ ids) = min a (least_of (b ∷ ids))

-- every display has acknowledged the results up to this id: they are given up, and those above it are held
unfoldable pub given_up_to : Node → ℕ
given_up_to n = least_of n.acknowledged

-- the newest stable result's id
abbrev pub newest_stable : Node → ℕ
newest_stable n = n.checkpoint.number

-- places that hold no result
unfoldable pub free_places : Node → ℕ
free_places n = held_results - (newest_stable n - given_up_to n)

-- 15: rule 2 would close a window with more results than there are free places
unfoldable pub lacks_places : Settings → Node → Rule → Bool
lacks_places s n Rule.Withdraw = false
lacks_places s n Rule.WorkStable = ltb (free_places n) (length (worked s letter_s n.c n).records)
lacks_places s n Rule.EndCorrection = false
lacks_places s n Rule.WorkTentative = false
lacks_places s n Rule.Idle = false

-- ---- a display's calls

-- 16: no display of that number
unfoldable pub wrong_display : Settings → ℕ → Bool
wrong_display s display = not (leb 1 display && leb display s.displays)

-- what a display has acknowledged
unfoldable pub last_of : List ℕ → ℕ → ℕ
last_of ids display = get_or ids (display - 1) 0

-- 17, an acknowledgement: below the display's last, or above the newest stable id
unfoldable pub wrong_acknowledgement : Node → ℕ → ℕ → Bool
wrong_acknowledgement n display id = ltb id (last_of n.acknowledged display) || ltb (newest_stable n) id

-- 17, a fetch: from 0 or an id given up, or from more than one past the newest
unfoldable pub wrong_fetch : Node → ℕ → Bool
wrong_fetch n from = leb from (given_up_to n) || ltb (suc (newest_stable n)) from

-- the answers to the two calls, once the host's tests are passed: 0 if accepted
unfoldable pub answer_to_acknowledgement : Settings → Node → ℕ → ℕ → ℕ
answer_to_acknowledgement s n display id =
    first_failed
    (record { fails = wrong_display s display; number = Answer.wrong_display } ∷
    record { fails = wrong_acknowledgement n display id; number = Answer.wrong_result_id } ∷ [])

unfoldable pub answer_to_fetch : Settings → Node → ℕ → ℕ → ℕ
answer_to_fetch s n display from =
    first_failed
    (record { fails = wrong_display s display; number = Answer.wrong_display } ∷
    record { fails = wrong_fetch n from; number = Answer.wrong_result_id } ∷ [])

-- this display's last id is this one
unfoldable pub acknowledging : List ℕ → ℕ → ℕ → List ℕ
acknowledging ids display id = set ids (display - 1) id

-- how many results a fetch gives: as many as there are, at most 64
unfoldable pub fetch_count : Node → ℕ → ℕ
fetch_count n from = min fetch_limit (suc (newest_stable n) - from)
