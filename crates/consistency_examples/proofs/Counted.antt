-- The table of step counts: every row computes. Then the theorem applied to the listing, where three steps settle it and two do not, and to
-- the host's own box.
use Prim.Native.Nat.{◌≤◌}
use mathlib.Core.Path.{◌≡◌, refl, sym, ◌∙◌, ap}
use mathlib.Core.Bool.{true, false}
use mathlib.Core.List.{List, [], ◌∷◌, ◌++◌}
use native.Mathlib.Omega.{arith}
use lib.ListN.{length}
use Rattle.protocol.specs.Rules.{is_correcting}
use Rattle.consistency.specs.Runs.{Box, Input, called, left, left_after}
use Rattle.consistency.specs.Demand.{box_of, remaining, Steps}
use Rattle.consistency.specs.Exactly.{left_in, steps_from}
use Rattle.consistency.proofs.Exactly.{exactly}
use Rattle.consistency_examples.specs.Given.{bytes_in, store_of, lent_filled, settings_line, handed, call, readings, step, late}
use Rattle.consistency_examples.specs.Given.{fetches, acknowledges}
use Rattle.consistency_examples.specs.Counted.{listed, made, Counted}
use Rattle.consistency_examples.proofs.Surely.{ran, box_is}
use Rattle.consistency_examples.proofs.Computed.{left_from}
use Rattle.consistency_examples.proofs.Listing.{opened, one_left_lem, twelve, before, first, passed, shown, first_answer, late_answer_lem, second_answer}
use Rattle.consistency_examples.proofs.Listing.{one_step, aside, three_steps_lem}

two_steps_lem : Steps before 2 (step ∷ late ∷ step ∷ fetches ∷ acknowledges ∷ [])
two_steps_lem =
    one_step before 1 (late ∷ step ∷ fetches ∷ acknowledges ∷ []) first_answer
    (Steps.refused {b = first} {n = 1} {is = step ∷ fetches ∷ acknowledges ∷ []} late (λ e. twelve (sym late_answer_lem ∙ e))
    (one_step passed 0 (fetches ∷ acknowledges ∷ []) second_answer (aside 0 [] (Steps.rest {b = shown}))))

made_answer : (called made step).answer ≡ 0
unfolding bytes_in store_of lent_filled settings_line handed call step made left_from
made_answer = refl

made_step_lem : Steps made 1 (step ∷ [])
made_step_lem = one_step made 0 [] made_answer (Steps.rest {b = left made step})

-- what is said of the box after a list is said of the one computed
module _ {A : Type 0} (f : Box → A) (is : List Input) (v : A) where
  of_listed : f (ran handed is).box ≡ v → f (listed is) ≡ v
  unfolding listed
  of_listed e = ap f (box_is handed opened is) ∙ e

pub counted : Counted
unfolding bytes_in store_of lent_filled settings_line handed call readings step listed made left_from
counted =
    record {
      stable0 = refl;
      stable1 = refl;
      stable3 = refl;
      failure0 = refl;
      failure1 = refl;
      failure3 = refl;
      correcting0 = refl;
      correcting1 = refl;
      correcting3 = refl;
      heads = of_listed (λ (b : Box). length b.state.heads) readings 8 refl;
      left = of_listed left_in readings 1 refl;
      needed = of_listed (λ (b : Box). steps_from b.state 1) readings 3 refl;
      left_next = of_listed left_in (readings ++ step ∷ []) 1 refl;
      needed_next = of_listed (λ (b : Box). steps_from b.state 1) (readings ++ step ∷ []) 2 refl;
      left_then = of_listed left_in (readings ++ step ∷ step ∷ []) 0 refl;
      needed_then = of_listed (λ (b : Box). steps_from b.state 0) (readings ++ step ∷ step ∷ []) 1 refl;
      correcting_then = of_listed (λ (b : Box). is_correcting b.state.phase) (readings ++ step ∷ step ∷ []) true refl;
      needed_no_more = of_listed (λ (b : Box). steps_from b.state 0) (readings ++ step ∷ step ∷ step ∷ []) 0 refl;
      correcting_no_more = of_listed (λ (b : Box). is_correcting b.state.phase) (readings ++ step ∷ step ∷ step ∷ []) false refl;
      two_steps = two_steps_lem;
      three_steps = three_steps_lem;
      made_heads = refl;
      made_left = refl;
      made_needed = refl;
      made_step = made_step_lem;
    }

-- ---- the theorem there

needs_three : steps_from before.state (remaining handed readings) ≡ 3
unfolding listed
needs_three = ap (steps_from before.state) one_left_lem ∙ counted.needed

settled :
    (remaining handed (readings ++ step ∷ late ∷ step ∷ fetches ∷ acknowledges ∷ step ∷ []) ≡ 0) ×
    (is_correcting (left_after (box_of handed) (readings ++ step ∷ late ∷ step ∷ fetches ∷ acknowledges ∷ step ∷ [])).state.phase ≡ false)
settled =
    (exactly.settles_exactly handed opened readings (step ∷ late ∷ step ∷ fetches ∷ acknowledges ∷ step ∷ []) 3 three_steps_lem).1
    (omega (arith, needs_three))

not_settled :
    (remaining handed (readings ++ step ∷ late ∷ step ∷ fetches ∷ acknowledges ∷ []) ≡ 0) ×
    (is_correcting (left_after (box_of handed) (readings ++ step ∷ late ∷ step ∷ fetches ∷ acknowledges ∷ [])).state.phase ≡ false) → ⊥
not_settled h =
    let enough = (exactly.settles_exactly handed opened readings (step ∷ late ∷ step ∷ fetches ∷ acknowledges ∷ []) 2 two_steps_lem).0 h in
    omega (arith, needs_three, enough)

left_alike_lem : left_in before ≡ 1
left_alike_lem = exactly.left_alike handed opened readings ∙ one_left_lem

-- the same by the state's own count, whatever calls left it
needs_three_alone : steps_from before.state (left_in before) ≡ 3
unfolding listed
needs_three_alone = ap (steps_from before.state) counted.left ∙ counted.needed

settled_alone :
    (left_in (left_after before (step ∷ late ∷ step ∷ fetches ∷ acknowledges ∷ step ∷ [])) ≡ 0) ×
    (is_correcting (left_after before (step ∷ late ∷ step ∷ fetches ∷ acknowledges ∷ step ∷ [])).state.phase ≡ false)
unfolding listed
settled_alone =
    (exactly.from_any_box before counted.heads (step ∷ late ∷ step ∷ fetches ∷ acknowledges ∷ step ∷ []) 3 three_steps_lem).1
    (omega (arith, needs_three_alone))

not_settled_alone :
    (left_in (left_after before (step ∷ late ∷ step ∷ fetches ∷ acknowledges ∷ [])) ≡ 0) ×
    (is_correcting (left_after before (step ∷ late ∷ step ∷ fetches ∷ acknowledges ∷ [])).state.phase ≡ false) → ⊥
unfolding listed
not_settled_alone h =
    let enough = (exactly.from_any_box before counted.heads (step ∷ late ∷ step ∷ fetches ∷ acknowledges ∷ []) 2 two_steps_lem).0 h in
    omega (arith, needs_three_alone, enough)

needs_one : steps_from made.state (left_in made) ≡ 1
needs_one = ap (steps_from made.state) counted.made_left ∙ counted.made_needed

-- the host's box settles with one step, and not without
made_settled : (left_in (left_after made (step ∷ [])) ≡ 0) × (is_correcting (left_after made (step ∷ [])).state.phase ≡ false)
made_settled = (exactly.from_any_box made counted.made_heads (step ∷ []) 1 made_step_lem).1 (omega (arith, needs_one))

made_not_settled : (left_in made ≡ 0) × (is_correcting made.state.phase ≡ false) → ⊥
unfolding left_after
made_not_settled h =
    let enough : steps_from made.state (left_in made) ≤ 0 = (exactly.from_any_box made counted.made_heads [] 0 Steps.rest).0 h in
    omega (arith, needs_one, enough)
