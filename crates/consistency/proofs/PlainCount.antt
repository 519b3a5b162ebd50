-- The count of steps by the state's word: of n accepted steps either count says the same. An accepted step has found the state in shape,
-- where its word tells whether p is above c; where no step is accepted it is enough that either count is 0 if the other is.
use Prim.Native.Nat.{ℕ, zero, suc, ◌≤◌}
use mathlib.Core.Path.{◌≡◌, refl, sym, subst}
use mathlib.Core.Bool.{Bool}
use mathlib.Core.Logic.{◌↔◌}
use mathlib.Core.List.{List}
use native.Mathlib.Omega.{arith}
use borrow.Author.Tests.{le-ltb, lt-ltb}
use lib.Dec.{ltb}
use Rattle.protocol.specs.declared.Phase.{Phase}
use Rattle.protocol.specs.Rules.{is_correcting}
use Rattle.protocol.specs.StepCount.{steps_needed}
use Rattle.node.specs.Held.{Held}
use Rattle.node.proofs.Shape.{PhaseShape, in_shape_facts}
use Rattle.node.proofs.Calls.{accepted_call}
use Rattle.consistency.specs.Runs.{Box, Input, called, left}
use Rattle.consistency.specs.Demand.{Steps}
use Rattle.consistency.specs.Exactly.{steps_from}
use Rattle.consistency.specs.PlainExactly.{steps_in}
use Rattle.consistency.proofs.Refused.{same_box}
use Rattle.consistency.proofs.Displays.{acknowledgement_aside, fetched_same}

-- ---- the count by the state's word

-- of a state in shape it is the count by c and p
in_words : (c p : ℕ) (phase : Phase) → PhaseShape c p phase → (k : ℕ) → steps_needed k (ltb c p) (is_correcting phase) ≡ steps_in phase k
unfolding steps_needed is_correcting steps_in
in_words c p Phase.Stable h zero = refl
in_words c p Phase.Stable h (suc k) = rw (le-ltb c p (omega arith)) (omega arith)
in_words c p Phase.Failure h zero = refl
in_words c p Phase.Failure h (suc k) = rw (lt-ltb c p h) (omega arith)
in_words c p Phase.Correcting h zero = refl
in_words c p Phase.Correcting h (suc k) = rw (le-ltb c p (omega arith)) (omega arith)

-- of any state one is 0 if the other is
none_in_words : (out : Bool) (phase : Phase) (k : ℕ) → (steps_needed k out (is_correcting phase) ≤ 0) ↔ (steps_in phase k ≤ 0)
unfolding steps_needed is_correcting steps_in
none_in_words out Phase.Stable zero = (λ h. h, λ h. h)
none_in_words out Phase.Stable (suc k) = (λ h. absurd (omega arith), λ h. absurd (omega arith))
none_in_words out Phase.Failure zero = (λ h. h, λ h. h)
none_in_words out Phase.Failure (suc k) = (λ h. absurd (omega arith), λ h. absurd (omega arith))
none_in_words out Phase.Correcting zero = (λ h. absurd (omega arith), λ h. absurd (omega arith))
none_in_words out Phase.Correcting (suc k) = (λ h. absurd (omega arith), λ h. absurd (omega arith))

shaped_words :
    (b : Box) (text area : List ℕ) → (called b (Input.journal text area)).answer ≡ 0 →
    (k : ℕ) → steps_from b.state k ≡ steps_in b.state.phase k
unfolding called steps_from
shaped_words b text area e =
    let v = accepted_call b.state b.lent text area e in
    in_words b.state.c b.state.p b.state.phase (in_shape_facts b.state b.lent v.host.shape).buckets.phase

-- either count says the same of n
abbrev SameCount : Held → ℕ → ℕ → Type 0
SameCount st k n = (steps_from st k ≤ n) ↔ (steps_in st.phase k ≤ n)

pub same_count : {b : Box} {n : ℕ} {js : List Input} → Steps b n js → (k : ℕ) → SameCount b.state k n
unfolding steps_from left called
same_count {b} Steps.rest k = none_in_words (ltb b.state.c b.state.p) b.state.phase k
same_count {b} (Steps.step {n = n} text area call read kind accepted more) k =
    let same = shaped_words b text area accepted k in
    (λ h. subst (λ (m : ℕ). m ≤ suc n) same h, λ h. subst (λ (m : ℕ). m ≤ suc n) (sym same) h)
same_count {b} {n} (Steps.refused i wasRefused more) k =
    subst (λ (z : Box). SameCount z.state k n) (same_box b i wasRefused) (same_count more k)
same_count {b} {n} (Steps.acknowledge display id area more) k =
    subst (λ (z : Held). SameCount z k n) (acknowledgement_aside b.state b.lent display id area).state (same_count more k)
same_count {b} {n} (Steps.fetch display from area more) k =
    subst (λ (z : Box). SameCount z.state k n) (fetched_same b display from area) (same_count more k)
