-- The table of the send-back store: every row computes. Then the theorem applied to the run.
use Prim.Native.Nat.{ℕ, ◌+◌, ◌≤◌}
use mathlib.Core.Path.{◌≡◌, refl, sym, ◌∙◌, ap}
use mathlib.Core.List.{List, [], ◌∷◌, ◌++◌, map}
use native.Mathlib.Omega.{arith}
use lib.ListN.{length, take, drop, get_or, replicate}
use Rattle.record.specs.Layout.{bytes_of}
use Rattle.retransmission.specs.Places.{pieces}
use Rattle.protocol.specs.Displays.{least_of, last_of}
use Rattle.protocol.specs.Kinds.{kind_of}
use Rattle.protocol.specs.Monitor.{stable_buckets}
use Rattle.protocol.specs.FailureFree.{failure_free}
use Rattle.node.specs.Held.{Held}
use Rattle.node.specs.Calls.{Called}
use Rattle.consistency.specs.Runs.{Box, Input, left_after}
use Rattle.consistency.specs.Accounts.{Account}
use Rattle.consistency.specs.Demand.{is_opened, settings_in, account_of, failure_free_records, failure_free_bytes}
use Rattle.consistency.specs.SentBack.{last_in, least_in, newest_in, place_in, Stored, FetchedFrom, Quiet, IsStep, LacksPlaces, box_after}
use Rattle.consistency.proofs.SentBack.{sent_back}
use Rattle.consistency_examples.specs.Given.{bytes_in, store_of, call}
use Rattle.retransmission_examples.specs.SentBack.{handed, worked, first, second, third, acknowledges, fetches, two, one, late, then, sent}
use Rattle.retransmission_examples.specs.SentBack.{readings_in, readings_to, crowded, step, Resent}
use Rattle.consistency_examples.proofs.Surely.{surely, ran, box_is, account_is, call_is}
use Rattle.consistency_examples.proofs.Computed.{ran_from}

opened : is_opened handed
unfolding bytes_in store_of handed is_opened ran_from
opened = refl

-- ---- what is said of a call, the account and the store, said of what is computed

module _ {A : Type 0} (is : List Input) where
  of_call : (f : Called → A) (i : Input) (v : A) → f (surely (ran handed (is ++ [])).box i) ≡ v → f (then is i) ≡ v
  unfolding then box_after left_after
  of_call f i v e = ap f (call_is handed opened is [] i) ∙ e

  of_account : (f : Account → A) (v : A) → f (ran handed is).account ≡ v → f (account_of handed is) ≡ v
  of_account f v e = ap f (account_is handed opened is) ∙ e

  of_sent : (f : List ℕ → A) (v : A) → f (ran handed is).box.lent.sent ≡ v → f (sent is) ≡ v
  unfolding sent box_after
  of_sent f v e = ap (λ (b : Box). f b.lent.sent) (box_is handed opened is) ∙ e

abbrev answer : Called → ℕ
answer r = r.answer

abbrev records : Called → ℕ
records r = r.records

abbrev area : Called → List ℕ
area r = r.area

abbrev free : Account → List (List ℕ)
free a = map bytes_of (failure_free (settings_in handed) a.stables a.monitor.d).records

-- ---- want of places

eight : length (failure_free (settings_in handed) (readings_to 9 ∷ []) 8).records ≡ 512
unfolding bytes_in store_of handed readings_to readings_in failure_free ran_from
eight = refl

nine : length (failure_free (settings_in handed) (readings_to 9 ∷ []) 9).records ≡ 576
unfolding bytes_in store_of handed readings_to readings_in failure_free ran_from
nine = refl

nine_buckets : (d : ℕ) → stable_buckets (settings_in handed) (crowded d).monitor ≡ 9
unfolding bytes_in store_of handed crowded ran_from
nine_buckets d = refl

enough : LacksPlaces (settings_in handed) (crowded 7) → ⊥
unfolding crowded least_of
enough p = omega (arith, p.many, eight)

lacking : LacksPlaces (settings_in handed) (crowded 8)
unfolding crowded least_of
lacking = record { stable = omega (arith, nine_buckets 8); level = refl; many = omega (arith, nine) }

is_step_lem : IsStep (record { 0 = 3 }) step
unfolding step kind_of
is_step_lem = record { kind = refl; on_time = omega arith; no_line = refl; no_id = refl; no_time = refl; no_meter = refl; no_value = refl }

too_early_lem : IsStep (record { 0 = 4 }) step → ⊥
unfolding step
too_early_lem p = omega (arith, p.on_time)

-- ---- the rows

least_then_lem : least_in handed one ≡ 1
unfolding bytes_in store_of call handed worked acknowledges two one least_in ran_from
least_then_lem = of_account one (λ (a : Account). least_of a.acknowledged) 1 refl

newest_then : newest_in handed one ≡ 3
unfolding bytes_in store_of call handed worked acknowledges two one newest_in failure_free_records failure_free_bytes failure_free ran_from
newest_then = of_account one (λ (a : Account). length (free a)) 3 refl

-- what is not right
place0 : place_in (sent two) 0 ≡ first
unfolding bytes_in store_of call handed worked first second third acknowledges two place_in ran_from
place0 = of_sent two (λ (b : List ℕ). place_in b 0) first refl

not_stored_lem : Stored handed one (sent two) → ⊥
unfolding first
not_stored_lem t =
    let zeros : place_in (sent two) 0 ≡ replicate 32 0 = t.empty 0 (omega arith) (λ n h e. omega (arith, h.0, h.1, e, least_then_lem, newest_then)) in
    let same : ◌≡◌ {A = ℕ} 83 0 = ap (λ (b : List ℕ). get_or b 0 0) (sym place0 ∙ zeros) in
    omega (arith, same)

three_there : failure_free_bytes handed two ≡ first ∷ second ∷ third ∷ []
unfolding bytes_in store_of call handed worked first second third acknowledges two failure_free_records failure_free_bytes failure_free ran_from
three_there = of_account two free (first ∷ second ∷ third ∷ []) refl

three_given : pieces (then two (fetches 1 1)).records (then two (fetches 1 1)).area ≡ first ∷ second ∷ third ∷ []
unfolding bytes_in store_of call handed worked first second third acknowledges fetches two ran_from
three_given = of_call two (λ (r : Called). pieces r.records r.area) (fetches 1 1) (first ∷ second ∷ third ∷ []) refl

not_fetched_lem : FetchedFrom handed two 2 (replicate 2080 9) (then two (fetches 1 1)) → ⊥
not_fetched_lem f =
    let same : ◌≡◌ {A = ℕ} 3 2 =
    ap length (sym three_given ∙ f.records ∙ ap (λ (bs : List (List ℕ)). take 64 (drop 1 bs)) three_there) in
    omega (arith, same)

clock_moved : (then two late).state.clock.0 ≡ 9
unfolding bytes_in store_of call handed worked acknowledges two late ran_from
clock_moved = of_call two (λ (r : Called). r.state.clock.0) late 9 refl

clock_before : (box_after handed two).state.clock.0 ≡ 3
unfolding bytes_in store_of call handed worked acknowledges two box_after ran_from
clock_before = ap (λ (b : Box). b.state.clock.0) (box_is handed opened two) ∙ refl

not_quiet_lem : Quiet (box_after handed two) (replicate 2080 0) (then two late) → ⊥
not_quiet_lem q =
    let same : (then two late).state.clock.0 ≡ (box_after handed two).state.clock.0 = ap (λ (st : Held). st.clock.0) q.state in
    omega (arith, same, clock_moved, clock_before)

pub resent : Resent
unfolding bytes_in store_of call handed worked first second third acknowledges fetches two one newest_in last_in least_in failure_free_records failure_free_bytes failure_free place_in ran_from
resent =
    record {
      opened = opened;
      displays = (omega arith, omega arith);
      no_display = λ d. omega (arith, d.1);
      results = of_account worked free (first ∷ second ∷ third ∷ []) refl;
      last1 = of_account two (λ (a : Account). last_of a.acknowledged 1) 2 refl;
      last2 = of_account two (λ (a : Account). last_of a.acknowledged 2) 0 refl;
      least = of_account two (λ (a : Account). least_of a.acknowledged) 0 refl;
      newest = of_account two (λ (a : Account). length (free a)) 3 refl;
      held = of_sent two (take 128) (first ++ second ++ third ++ replicate 32 0) refl;
      all = of_call two records (fetches 1 1) 3 refl;
      all_bytes = of_call two area (fetches 1 1) (first ++ second ++ third ++ replicate 1984 9) refl;
      some = of_call two records (fetches 2 3) 1 refl;
      some_bytes = of_call two area (fetches 2 3) (third ++ replicate 2048 9) refl;
      next = of_call two answer (fetches 2 4) 0 refl;
      none = of_call two records (fetches 2 4) 0 refl;
      past = of_call two answer (fetches 2 5) 17 refl;
      from_nothing = of_call two answer (fetches 2 0) 17 refl;
      below = of_call two answer (acknowledges 1 1) 17 refl;
      above = of_call two answer (acknowledges 2 4) 17 refl;
      again = of_call two answer (acknowledges 1 2) 0 refl;
      display0 = of_call two answer (fetches 0 1) 16 refl;
      display3 = of_call two answer (acknowledges 3 9) 16 refl;
      short = of_call two answer (Input.fetch 3 9 (replicate 2079 9)) 5 refl;
      last_then1 = of_account one (λ (a : Account). last_of a.acknowledged 1) 2 refl;
      last_then2 = of_account one (λ (a : Account). last_of a.acknowledged 2) 1 refl;
      least_then = least_then_lem;
      held_then = of_sent one (take 128) (replicate 32 0 ++ second ++ third ++ replicate 32 0) refl;
      held2 = (omega (arith, least_then_lem), omega (arith, newest_then));
      not_held1 = λ h. omega (arith, h.0, least_then_lem);
      not_held4 = λ h. omega (arith, h.1, newest_then);
      place1 = of_sent one (λ (b : List ℕ). place_in b 1) second refl;
      last_place = of_sent one (λ (b : List ℕ). place_in b 511) (replicate 32 0) refl;
      behind = of_sent one (drop 16384) (replicate 16 9) refl;
      given_up = of_call one answer (fetches 2 1) 17 refl;
      own = of_call one area (fetches 1 2) (second ++ third ++ replicate 2016 9) refl;
      not_stored = not_stored_lem;
      not_answers = λ a. omega (arith, (a.wrong_id.0 refl).1.1);
      not_fetched = λ f. not_fetched_lem f;
      not_quiet = not_quiet_lem;
      is_step = is_step_lem;
      too_early = too_early_lem;
      eight = eight;
      nine = nine;
      enough = enough;
      lacking = lacking;
    }

-- ---- the theorem there

-- each display is near
near2 : (last_in handed one 2 ≤ newest_in handed one) × (newest_in handed one ≤ last_in handed one 2 + 512)
near2 = sent_back.near handed opened one 2 resent.displays

-- what is held stands at its place
there : place_in (sent one) 1 ≡ get_or (failure_free_bytes handed one) 1 []
unfolding sent
there = (sent_back.store handed opened one).held 2 resent.held2

-- a call is accepted because it fits, and refused because it does not
accepted : (then one (acknowledges 2 3)).answer ≡ 0
unfolding then acknowledges
accepted =
    (sent_back.acknowledges handed opened one 2 3 (replicate 2080 9)).accepted.1
    (omega arith, resent.displays, (omega (arith, resent.last_then2), omega (arith, newest_then)))

refused : (then one (fetches 2 1)).answer ≡ 17
unfolding then fetches
refused =
    (sent_back.fetches handed opened one 2 1 (replicate 2080 9)).wrong_id.1
    (omega arith, resent.displays, λ f. omega (arith, f.0, least_then_lem))

-- what is fetched is the failure-free results
fetched :
    let r : Called = then one (fetches 1 2) in
    pieces r.records r.area ≡ take 64 (drop 1 (failure_free_bytes handed one))
unfolding then fetches
fetched =
    (sent_back.fetched handed opened one 1 2 (replicate 2080 9)
    ((sent_back.fetches handed opened one 1 2 (replicate 2080 9)).accepted.1
    (omega arith, (omega arith, omega (arith, resent.displays.1)), (omega (arith, least_then_lem), omega (arith, newest_then))))
    ).records

-- no step is refused for want of places where no stable bucket is left
two_worked : (account_of handed one).monitor.d ≡ 2
unfolding bytes_in store_of call handed worked acknowledges two one ran_from
two_worked = of_account one (λ (a : Account). a.monitor.d) 2 refl

two_stable : stable_buckets (settings_in handed) (account_of handed one).monitor ≡ 2
unfolding bytes_in store_of call handed worked acknowledges two one ran_from
two_stable = of_account one (λ (a : Account). stable_buckets (settings_in handed) a.monitor) 2 refl

not_full : (text bytes : List ℕ) → (then one (Input.journal text bytes)).answer ≡ 15 → ⊥
unfolding then
not_full text bytes e =
    let lacks = ((sent_back.full handed opened one text bytes).0 e).2 in
    omega (arith, lacks.stable, two_worked, two_stable)
