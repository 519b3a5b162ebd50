-- The send-back store along a list of calls: what stands in it is what the meaning's run has given as stable and not all displays have
-- acknowledged. A journal call lays its stable results behind those held, an acknowledgement gives up the oldest, a fetch and a refused call
-- leave it.
use Prim.Native.Nat.{ℕ, zero, suc, ◌+◌, ◌-◌, ◌≤◌, ◌<◌}
use mathlib.Core.Path.{◌≡◌, refl, sym, ◌∙◌, ap, ap₂, subst}
use mathlib.Core.Bool.{true, false, cond}
use mathlib.Core.List.{List, [], ◌∷◌, ◌++◌, map, map-append}
use native.Mathlib.Omega.{arith}
use borrow.Author.Tests.{eqb-true, eqb-false}
use lib.Dec.{eqb}
use lib.ListN.{length, drop, replicate, length-drop, length-map}
use lib.Seq.{drop-drop, drop-append-le}
use Rattle.settings.specs.declared.Settings.{Settings}
use Rattle.journal.specs.declared.Call.{Call}
use Rattle.journal.specs.ReadLine.{call_of}
use Rattle.record.specs.declared.Record.{Record}
use Rattle.record.specs.Layout.{bytes_of}
use Rattle.store.specs.Lists.{keep}
use Rattle.store.proofs.Keeping.{keep_append}
use Rattle.retransmission.specs.Sizes.{held_results}
use Rattle.retransmission.specs.Places.{places_of, with_places, empty_place, holding, given_up}
use Rattle.retransmission.proofs.Places.{held_over, held_append, length_held, given_up_lem}
use Rattle.retransmission.proofs.Stores.{Whole, Places, empty_places, places_with, with_with}
use Rattle.protocol.specs.Node.{Node}
use Rattle.protocol.specs.Displays.{least_of, given_up_to}
use Rattle.protocol.specs.Calls.{outcome_of, acknowledged_by}
use Rattle.protocol.specs.Undos.{stable_records}
use Rattle.protocol.specs.Runs.{Event, Trace, next, after}
use Rattle.protocol.specs.Demand.{stable_results, itself}
use Rattle.protocol.specs.SentBack.{Consecutive}
use Rattle.protocol.proofs.Counts.{failure_free_consecutive}
use Rattle.protocol.proofs.Displays.{least_below, acknowledged_raises}
use Rattle.protocol.proofs.Theorem.{came}
use Rattle.protocol.proofs.SentBack.{Kept, next_all, outcome_acknowledged, newest_count}
use Rattle.node.specs.View.{Lent, view}
use Rattle.node.specs.Calls.{Called, called_on}
use Rattle.node.specs.Displays.{freed, acknowledged_on}
use Rattle.node.proofs.Calls.{refused_call, accepted_call}
use Rattle.node.proofs.AfterCalls.{accepted_sent}
use Rattle.node.proofs.Displays.{refused_acknowledgement, accepted_acknowledgement, fetch_leaves}
use Rattle.node.proofs.Sent.{is_stable_record, holding_held, whole_held, whole_bytes}
use Rattle.consistency.specs.Runs.{Box, Input, called, left, left_after}
use Rattle.consistency.proofs.Runs.{Stands, event_with, event_of, events_of, input_did}

-- ---- the places as they should be

-- the stable results so far, in bytes
abbrev pub result_bytes : Trace → List (List ℕ)
result_bytes t = map bytes_of (stable_records itself t.output)

-- those that are held, each at its place, over empty ones
abbrev pub shelf : Trace → List (List ℕ)
shelf t = held_over (replicate held_results empty_place) (given_up_to t.node) (drop (given_up_to t.node) (result_bytes t))

pub whole_drop : (n : ℕ) (ps : List (List ℕ)) → Whole ps → Whole (drop n ps)
whole_drop zero ps h = h
whole_drop (suc n) [] h = tt
whole_drop (suc n) (p ∷ ps) h = whole_drop n ps h.1

pub shelf_places : (t : Trace) → Places (shelf t)
shelf_places t =
    record {
      count =
          length_held (replicate held_results empty_place) (given_up_to t.node) (drop (given_up_to t.node) (result_bytes t)) ∙
          empty_places.count;
      whole =
          whole_held (replicate held_results empty_place) (given_up_to t.node) (drop (given_up_to t.node) (result_bytes t))
          (whole_drop (given_up_to t.node) (result_bytes t) (whole_bytes (stable_records itself t.output))) empty_places.whole;
    }

-- ---- counts

module _ (s : Settings) (room : 0 < s.bucket) (t : Trace) (v : Kept s t) where
  pub count_results : length (result_bytes t) ≡ t.node.checkpoint.number
  count_results =
      length-map (stable_records itself t.output) bytes_of ∙ ap length (came s t v.invariant) ∙ sym (newest_count s room t v)

  pub given_few : given_up_to t.node ≤ length (result_bytes t)
  unfolding given_up_to
  given_few = omega (arith, count_results, least_below t.node.checkpoint.number t.node.acknowledged v.held.below)

  pub held_few : length (drop (given_up_to t.node) (result_bytes t)) ≤ held_results
  unfolding given_up_to
  held_few = omega (arith, length-drop (given_up_to t.node) (result_bytes t), count_results, v.held.few)

  pub results_numbered : Consecutive 0 (stable_records itself t.output)
  unfolding stable_results
  results_numbered = subst (Consecutive 0) (sym (came s t v.invariant)) (failure_free_consecutive s t.stables t.monitor.d)

consecutive_behind : (n m : ℕ) (xs ys : List Record) → m ≡ n + length xs → Consecutive n (xs ++ ys) → Consecutive m ys
consecutive_behind n m [] ys e h = subst (λ (i : ℕ). Consecutive i ys) (let q : n ≡ m = omega arith in q) h
consecutive_behind n m (x ∷ xs) ys e h = consecutive_behind (suc n) m xs ys (omega arith) h.1

-- ---- one call on the shelf

-- a journal call lays its stable results behind those held
shelf_more :
    (s : Settings) → 0 < s.bucket → (t : Trace) (k : Call) → Kept s t →
    holding (shelf t) (outcome_of s t.node k).records ≡ shelf (next s t (Event.journal k))
unfolding next given_up_to stable_records
shelf_more s room t k v =
    let rs = (outcome_of s t.node k).records in
    let u = next s t (Event.journal k) in
    let w : Kept s u = next_all s room t (Event.journal k) v in
    let old = keep is_stable_record t.output in
    let new = keep is_stable_record rs in
    let least = least_of t.node.acknowledged in
    let split : keep is_stable_record (t.output ++ rs) ≡ old ++ new = keep_append is_stable_record t.output rs in
    let numbered : Consecutive (length old) new =
    consecutive_behind 0 (length old) old new (omega arith) (subst (Consecutive 0) split (results_numbered s room u w)) in
    let bytes : map bytes_of (keep is_stable_record (t.output ++ rs)) ≡ map bytes_of old ++ map bytes_of new =
    ap (map bytes_of) split ∙ map-append bytes_of old new in
    let size : least + length (drop least (map bytes_of old)) ≡ length old =
    omega (arith, length-drop least (map bytes_of old), length-map old bytes_of, given_few s room t v) in
    let behind : drop least (map bytes_of (keep is_stable_record (t.output ++ rs))) ≡ drop least (map bytes_of old) ++ map bytes_of new =
    ap (drop least) bytes ∙ drop-append-le least (map bytes_of old) (map bytes_of new) (given_few s room t v) in
    holding_held (shelf t) (length old) rs numbered ∙
    ap (λ (n : ℕ). held_over (shelf t) n (map bytes_of new)) (sym size) ∙
    sym (held_append (replicate held_results empty_place) least (drop least (map bytes_of old)) (map bytes_of new)) ∙
    ap (held_over (replicate held_results empty_place) least) (sym behind) ∙
    ap (λ (ids : List ℕ). held_over (replicate held_results empty_place) (least_of ids) (drop (least_of ids) (map bytes_of (keep is_stable_record (t.output ++ rs)))))
    (sym (outcome_acknowledged s t.node k))

-- an acknowledgement gives up the oldest
shelf_less :
    (s : Settings) → 0 < s.bucket → (t : Trace) (display id : ℕ) → Kept s t →
    given_up (shelf t) (given_up_to t.node) (given_up_to (acknowledged_by s t.node display id) - given_up_to t.node) ≡
    shelf (next s t (Event.acknowledge display id))
unfolding next
shelf_less s room t display id v =
    let u = next s t (Event.acknowledge display id) in
    let w : Kept s u = next_all s room t (Event.acknowledge display id) v in
    let old = given_up_to t.node in
    let new = given_up_to (acknowledged_by s t.node display id) in
    let rises : old ≤ new = acknowledged_raises s t.node display id in
    let known : new ≤ length (result_bytes t) = given_few s room u w in
    let sum : old + (new - old) ≡ new = omega arith in
    given_up_lem old (new - old) (drop old (result_bytes t)) (omega (arith, length-drop old (result_bytes t))) (held_few s room t v) ∙
    ap (held_over (replicate held_results empty_place) (old + (new - old))) (drop-drop (new - old) old (result_bytes t)) ∙
    ap (λ (n : ℕ). held_over (replicate held_results empty_place) n (drop n (result_bytes t))) sum

-- ---- a call on the store

-- the store is the one that was lent first, with these places
abbrev pub Stocked : List ℕ → List ℕ → Trace → Type 0
Stocked first sent t = sent ≡ with_places first (shelf t)

module _ (first : List ℕ) (s : Settings) (room : 0 < s.bucket) (t : Trace) (v : Kept s t) where
  laid_more :
      (sent : List ℕ) (k : Call) → Stocked first sent t →
      Stocked first (with_places sent (holding (places_of sent) (outcome_of s t.node k).records)) (next s t (Event.journal k))
  laid_more sent k e =
      let rs = (outcome_of s t.node k).records in
      ap (λ (z : List ℕ). with_places z (holding (places_of z) rs)) e ∙
      ap (λ (ps : List (List ℕ)). with_places (with_places first (shelf t)) (holding ps rs)) (places_with first (shelf t) (shelf_places t)) ∙
      ap (with_places (with_places first (shelf t))) (shelf_more s room t k v) ∙
      with_with first (shelf t) (shelf_places t) (shelf (next s t (Event.journal k))) (shelf_places (next s t (Event.journal k)))

  laid_less :
      (sent : List ℕ) (display id : ℕ) → Stocked first sent t →
      Stocked first (freed sent (given_up_to t.node) (given_up_to (acknowledged_by s t.node display id))) (next s t (Event.acknowledge display id))
  unfolding freed
  laid_less sent display id e =
      let old = given_up_to t.node in
      let k = given_up_to (acknowledged_by s t.node display id) - old in
      let u = next s t (Event.acknowledge display id) in
      ap (λ (z : List ℕ). with_places z (given_up (places_of z) old k)) e ∙
      ap (λ (ps : List (List ℕ)). with_places (with_places first (shelf t)) (given_up ps old k)) (places_with first (shelf t) (shelf_places t)) ∙
      ap (with_places (with_places first (shelf t))) (shelf_less s room t display id v) ∙
      with_with first (shelf t) (shelf_places t) (shelf u) (shelf_places u)

  -- ---- any call

  module _ (b : Box) (stands : Stands s b.state b.lent t.node) (e : Stocked first b.lent.sent t) where
    journal_stocked :
        (text area : List ℕ) →
        Stocked first (left b (Input.journal text area)).lent.sent (next s t (event_of b (Input.journal text area)))
    unfolding left called event_of next event_with
    journal_stocked text area =
        (elim (eqb (called_on b.state b.lent text area).answer 0) as
        (λ a.
        eqb (called_on b.state b.lent text area).answer 0 ≡ a →
        Stocked first (called_on b.state b.lent text area).lent.sent (next s t (cond a (event_with (call_of text)) Event.turned_away))) [
          | true ↦ λ q.
              let w = accepted_call b.state b.lent text area (eqb-true _ _ q) in
              let same : outcome_of b.state.settings (view b.state b.lent.readings) w.call ≡ outcome_of s t.node w.call =
              ap₂ (λ (z : Settings) (n : Node). outcome_of z n w.call) stands.settings stands.is in
              subst (λ (z : Event). Stocked first (called_on b.state b.lent text area).lent.sent (next s t z)) (sym (ap event_with w.read))
              (accepted_sent b.state b.lent text area w ∙
              ap (λ (rs : List Record). with_places b.lent.sent (holding (places_of b.lent.sent) rs)) (ap (λ o. o.records) same) ∙
              laid_more b.lent.sent w.call e)
          | false ↦ λ q.
              let same = refused_call b.state b.lent text area (eqb-false _ _ q) in
              ap (λ (x : Lent). x.sent) same.lent ∙ e
        ])
        refl

    acknowledge_stocked :
        (display id : ℕ) (area : List ℕ) →
        Stocked first (left b (Input.acknowledge display id area)).lent.sent (next s t (event_of b (Input.acknowledge display id area)))
    unfolding left called event_of next
    acknowledge_stocked display id area =
        (elim (eqb (acknowledged_on b.state b.lent display id area).answer 0) as
        (λ a.
        eqb (acknowledged_on b.state b.lent display id area).answer 0 ≡ a →
        Stocked first (acknowledged_on b.state b.lent display id area).lent.sent (next s t (cond a (Event.acknowledge display id) Event.turned_away))) [
          | true ↦ λ q.
              let w = accepted_acknowledgement b.state b.lent display id area (eqb-true _ _ q) in
              ap (λ (c : Called). c.lent.sent) w.leaves ∙
              ap₂ (λ (z : Settings) (n : Node). freed b.lent.sent (given_up_to n) (given_up_to (acknowledged_by z n display id))) stands.settings stands.is ∙
              laid_less b.lent.sent display id e
          | false ↦ λ q.
              let same = refused_acknowledgement b.state b.lent display id area (eqb-false _ _ q) in
              ap (λ (x : Lent). x.sent) same.lent ∙ e
        ])
        refl

    fetch_stocked :
        (display from : ℕ) (area : List ℕ) →
        Stocked first (left b (Input.fetch display from area)).lent.sent (next s t (event_of b (Input.fetch display from area)))
    unfolding left called event_of next
    fetch_stocked display from area = ap (λ (x : Lent). x.sent) (fetch_leaves b.state b.lent display from area).1 ∙ e

    input_stocked : (i : Input) → Stocked first (left b i).lent.sent (next s t (event_of b i))
    input_stocked (Input.journal text area) = journal_stocked text area
    input_stocked (Input.acknowledge display id area) = acknowledge_stocked display id area
    input_stocked (Input.fetch display from area) = fetch_stocked display from area

-- ---- a list of calls

-- what a list leaves
pub record Keeps (first : List ℕ) (s : Settings) (t : Trace) (b : Box) : Type 0 where
  pub kept : Kept s t
  pub stands : Stands s b.state b.lent t.node
  pub stocked : Stocked first b.lent.sent t

pub keeps :
    (first : List ℕ) (s : Settings) → 0 < s.bucket → (is : List Input) (t : Trace) (b : Box) → Keeps first s t b →
    Keeps first s (after s t (events_of b is)) (left_after b is)
unfolding left_after after events_of
keeps first s room [] t b v = v
keeps first s room (i ∷ is) t b v =
    keeps first s room is (next s t (event_of b i)) (left b i)
    (record {
      kept = next_all s room t (event_of b i) v.kept;
      stands = (input_did s t b i v.stands).stands;
      stocked = input_stocked first s room t v.kept b v.stands v.stocked i;
    })
