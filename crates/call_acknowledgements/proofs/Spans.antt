-- The least and the greatest of some ids and of one more.
use Rattle.std.proofs.Common.{◌≡◌, ℕ, suc, ◌+◌, ◌-◌, ◌≤◌, ◌<◌, min, max, List, [], ◌∷◌, ◌++◌, length, get_or, take, drop, refl, ap, ◌∙◌, arith}
use Rattle.std.proofs.lemmas.List.{length-take, length-take-le, length-drop, get_or-take}
use Rattle.std.proofs.lemmas.Grind.{get_or_after_one}
use Rattle.std.proofs.Math.Seq.{take-suc}
use Rattle.protocol.specs.Displays.{least_of}
use Rattle.call_acknowledgements.specs.SpanOf.{greatest_of}

least_more : (ids : List ℕ) (a : ℕ) → 0 < length ids → least_of (ids ++ a ∷ []) ≡ min (least_of ids) a
unfolding least_of
least_more [] a h = absurd (omega arith)
least_more (x ∷ []) a h = refl
least_more (x ∷ y ∷ ids) a h =
    let rest : least_of (y ∷ (ids ++ a ∷ [])) ≡ min (least_of (y ∷ ids)) a = least_more (y ∷ ids) a (omega arith) in
    omega (arith, rest)

greatest_more : (ids : List ℕ) (a : ℕ) → greatest_of (ids ++ a ∷ []) ≡ max (greatest_of ids) a
unfolding greatest_of
greatest_more [] a = omega arith
greatest_more (x ∷ ids) a = omega (arith, greatest_more ids a)

-- of the first id alone
pub least_start : (ids : List ℕ) → 1 ≤ length ids → least_of (take 1 ids) ≡ get_or ids 0 0
unfolding least_of
least_start [] h = absurd (omega arith)
least_start (x ∷ ids) h = refl

pub greatest_start : (ids : List ℕ) → 1 ≤ length ids → greatest_of (take 1 ids) ≡ get_or ids 0 0
unfolding greatest_of
greatest_start [] h = absurd (omega arith)
greatest_start (x ∷ ids) h = omega arith

-- ---- of the first ids, and of one more of those behind the first

abbrev behind : List ℕ → List ℕ
behind ids = take (length ids - 1) (drop 1 ids)

record Next (ids : List ℕ) (i : ℕ) : Type 0 where
  pub inside : i + 1 < length ids
  pub more : take (i + 1 + 1) ids ≡ take (i + 1) ids ++ get_or (behind ids) i 0 ∷ []

next : (ids : List ℕ) (i : ℕ) → i < length (behind ids) → Next ids i
next ids i h =
    let one : suc (i + 1) ≡ i + 1 + 1 = omega arith in
    let here : 1 + i ≡ i + 1 = omega arith in
    let inside : i + 1 < length ids = omega (arith, length-take (length ids - 1) (drop 1 ids), length-drop 1 ids) in
    let id : get_or (behind ids) i 0 ≡ get_or ids (i + 1) 0 =
    get_or-take (length ids - 1) (drop 1 ids) i 0 (omega arith) ∙ get_or_after_one ids i 0 ∙ ap (λ (j : ℕ). get_or ids j 0) here in
    record { inside = inside; more = rw (← one, take-suc ids (i + 1) 0 inside, id) }

pub least_turn :
    (ids : List ℕ) (i : ℕ) → i < length (behind ids) →
    least_of (take (i + 1 + 1) ids) ≡ min (least_of (take (i + 1) ids)) (get_or (behind ids) i 0)
least_turn ids i h =
    let n = next ids i h in
    let some : 0 < length (take (i + 1) ids) = omega (arith, n.inside, length-take-le (i + 1) ids (omega (arith, n.inside))) in
    rw (n.more, least_more (take (i + 1) ids) (get_or (behind ids) i 0) some)

pub greatest_turn :
    (ids : List ℕ) (i : ℕ) → i < length (behind ids) →
    greatest_of (take (i + 1 + 1) ids) ≡ max (greatest_of (take (i + 1) ids)) (get_or (behind ids) i 0)
greatest_turn ids i h = rw ((next ids i h).more, greatest_more (take (i + 1) ids) (get_or (behind ids) i 0))

pub ruleset spans = (least_start, greatest_start, least_turn, greatest_turn)
