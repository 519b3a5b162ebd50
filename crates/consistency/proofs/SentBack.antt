-- The send-back store: the theorem. The store along a list is the run's shelf, place by place; the run's numbers are the account's.
use Prim.Native.Nat.{ℕ, zero, suc, ◌+◌, ◌-◌, ◌*◌, ◌%◌, ◌≤◌, ◌<◌, min}
use mathlib.Core.Path.{◌≡◌, refl, sym, ◌∙◌, ap, ap₂, subst}
use mathlib.Core.Bool.{true, false, cond}
use mathlib.Core.List.{List, [], ◌∷◌, ◌++◌, map}
use mathlib.Core.Logic.{◌↔◌}
use native.Mathlib.Omega.{arith}
use native.Mathlib.Nat.{mod-lt}
use borrow.Author.Tests.{eqb-true, eqb-false, leb-true, leb-false, ltb-true, ltb-false}
use lib.Dec.{leb, ltb, eqb}
use lib.ListN.{length, take, drop, get_or, replicate, length-drop, get_or-replicate}
use lib.Seq.{drop-drop, drop_at, take_all, length-take-le}
use Rattle.std.specs.Prelude.{Option, Some, None}
use Rattle.area.specs.Laid.{in_front}
use Rattle.clock.specs.declared.ArrivalTick.{ArrivalTick}
use Rattle.settings.specs.declared.Settings.{Settings}
use Rattle.journal.specs.declared.Call.{Call}
use Rattle.journal.specs.JournalLine.{call_answer}
use Rattle.journal.specs.ReadLine.{call_of}
use Rattle.record.specs.declared.Record.{Record}
use Rattle.record.specs.Sizes.{record_bytes}
use Rattle.record.specs.Layout.{bytes_of, all_bytes}
use Rattle.record.specs.Fields.{fields_of}
use Rattle.store.specs.Lists.{Every, keep}
use Rattle.store.proofs.Pairs.{every_to, every_map, every_keep, every_index}
use Rattle.retransmission.specs.Sizes.{held_results, held_bytes, fetch_limit}
use Rattle.retransmission.specs.Places.{pieces, joined, places_of, empty_place, held_behind}
use Rattle.retransmission.proofs.Places.{untouched, found_behind}
use Rattle.retransmission.proofs.Stores.{Whole, empty_places, length_joined, pieces_joined, pieces_at, behind_with}
use Rattle.protocol.specs.Node.{Node}
use Rattle.protocol.specs.Refusals.{first_failed, answer_to}
use Rattle.protocol.specs.Displays.{least_of, last_of, given_up_to, answer_to_acknowledgement, answer_to_fetch, fetch_count}
use Rattle.protocol.specs.Undos.{stable_records}
use Rattle.protocol.specs.Runs.{Trace}
use Rattle.protocol.specs.Demand.{itself}
use Rattle.protocol.proofs.Displays.{least_each, FetchFits, fetch_fits}
use Rattle.protocol.proofs.Theorem.{came}
use Rattle.node.specs.Sizes.{area_bytes}
use Rattle.node.specs.View.{view}
use Rattle.node.specs.Displays.{acknowledged_with, acknowledged_on, fetched_with, fetched_on}
use Rattle.node.specs.Calls.{Called, host_tests, refused_with, called_with, called_on}
use Rattle.node.proofs.Displays.{acknowledged_down, refused_acknowledgement, accepted_acknowledgement, fetched_down, accepted_fetch}
use Rattle.node.proofs.Records.{Decodes}
use Rattle.node.proofs.Sent.{is_stable_record, whole_bytes}
use Rattle.consistency.specs.Runs.{Box, Input, called, left_after}
use Rattle.consistency.specs.Accounts.{Account}
use Rattle.consistency.specs.Demand.{Handed, is_opened, box_of, settings_in, account_of, failure_free_bytes}
use Rattle.consistency.specs.SentBack.{last_in, least_in, newest_in, IsDisplay, IsHeld, place_in, Stored, Answers, FetchedFrom, Quiet}
use Rattle.consistency.specs.SentBack.{IsStep, LacksPlaces, box_after, SentBack}
use Rattle.consistency.proofs.Displays.{acknowledgement_aside, fetched_same}
use Rattle.consistency.proofs.Runs.{account_in}
use Rattle.consistency.proofs.Opened.{some_bucket, trace_of, mirrors, free_bytes}
use Rattle.consistency.proofs.SentStore.{result_bytes, shelf, shelf_places, count_results, held_few, whole_drop, Keeps}
use Rattle.consistency.proofs.SentShape.{decodes_fields, first_long, keeps_after, places_shelf, length_sent, shelf_at}
use Rattle.consistency.proofs.SentAnswers.{display_answer, acknowledgement_answers, fetch_answers, read_answer, step_15}
use Rattle.consistency.proofs.ShapedRuns.{host_if, host_answer, host_after}

-- ---- lists

take_min : {A : Type 0} (m : ℕ) (xs : List A) → take (min m (length xs)) xs ≡ take m xs
take_min m xs =
    (elim (leb m (length xs)) as (λ b. leb m (length xs) ≡ b → take (min m (length xs)) xs ≡ take m xs) [
      | true ↦ λ q. ap (λ (n : ℕ). take n xs) (let low : m ≤ length xs = leb-true _ _ q in let z : min m (length xs) ≡ m = omega arith in z)
      | false ↦ λ q.
          let high : length xs < m = leb-false _ _ q in
          take_all (min m (length xs)) xs (omega arith) ∙ sym (take_all m xs (omega arith))
    ])
    refl

whole_take : (n : ℕ) (ps : List (List ℕ)) → Whole ps → Whole (take n ps)
whole_take zero ps h = tt
whole_take (suc n) [] h = tt
whole_take (suc n) (p ∷ ps) h = (h.0, whole_take n ps h.1)

module _ {A : Type 0} (P : A → Type 0) where
  every_dropped : (n : ℕ) (xs : List A) → Every P xs → Every P (drop n xs)
  every_dropped zero xs h = h
  every_dropped (suc n) [] h = tt
  every_dropped (suc n) (x ∷ xs) h = every_dropped n xs h.1

  every_taken : (n : ℕ) (xs : List A) → Every P xs → Every P (take n xs)
  every_taken zero xs h = tt
  every_taken (suc n) [] h = tt
  every_taken (suc n) (x ∷ xs) h = (h.0, every_taken n xs h.1)

-- ---- records read from bytes and written again

abbrev Rewritten : List ℕ → Type 0
Rewritten bytes = bytes_of (fields_of bytes) ≡ bytes

all_joined : (bs : List (List ℕ)) → Every Rewritten bs → all_bytes (map fields_of bs) ≡ joined bs
unfolding all_bytes joined
all_joined [] h = refl
all_joined (b ∷ bs) h = ap₂ ◌++◌ h.0 (all_joined bs h.1)

results_rewritten : (rs : List Record) → Every Decodes rs → Every Rewritten (map bytes_of (stable_records itself rs))
unfolding stable_records
results_rewritten rs h =
    every_map bytes_of Rewritten (keep is_stable_record rs)
    (every_to (keep is_stable_record rs) (λ (r : Record) (d : Decodes r). ap bytes_of (decodes_fields r d))
    (every_keep Decodes is_stable_record rs h))

-- ---- the account's numbers are the run's

module _ (h : Handed) (e : is_opened h) (is : List Input) where
  abbrev s : Settings
  s = settings_in h

  abbrev t : Trace
  t = trace_of (settings_in h) h is

  abbrev b : Box
  b = left_after (box_of h) is

  k : Keeps h.lent.sent s t b
  k = keeps_after h e is

  room : 0 < s.bucket
  room = some_bucket h e

  same_acknowledged : t.node.acknowledged ≡ (account_of h is).acknowledged
  unfolding account_in
  same_acknowledged = k.kept.same ∙ ap (λ (a : Account). a.acknowledged) (sym (mirrors h e is).account)

  displays_count : length t.node.acknowledged ≡ s.displays
  unfolding view
  displays_count =
      ap (λ (n : Node). length n.acknowledged) (sym k.stands.is) ∙
      length-take-le b.state.settings.displays b.state.acknowledged k.stands.room.displays ∙
      ap (λ (z : Settings). z.displays) k.stands.settings

  same_least : given_up_to t.node ≡ least_in h is
  unfolding given_up_to least_in
  same_least = ap least_of same_acknowledged

  same_results : result_bytes t ≡ failure_free_bytes h is
  same_results = ap (map bytes_of) (came s t k.kept.invariant) ∙ sym (free_bytes h is (mirrors h e is))

  same_newest : t.node.checkpoint.number ≡ newest_in h is
  unfolding newest_in
  same_newest = sym (count_results s room t k.kept) ∙ ap length same_results

  -- ---- the store

  at_place : (sent : List ℕ) (i : ℕ) → i < held_results → place_in sent i ≡ get_or (places_of sent) i []
  unfolding place_in places_of
  at_place sent i l = sym (pieces_at held_results i sent l)

  stored_held : (n : ℕ) → IsHeld h is n → place_in b.lent.sent ((n - 1) % held_results) ≡ get_or (failure_free_bytes h is) (n - 1) []
  unfolding newest_in
  stored_held n v =
      at_place b.lent.sent ((n - 1) % held_results) (mod-lt (n - 1) (omega arith)) ∙
      ap (λ (ps : List (List ℕ)). get_or ps ((n - 1) % held_results) []) (places_shelf h.lent.sent s t b k) ∙
      shelf_at s room t k.kept (n - 1) (omega (arith, v.0, same_least)) (omega (arith, v.0, v.1, ap length same_results)) ∙
      ap (λ (bs : List (List ℕ)). get_or bs (n - 1) []) same_results

  stored_empty :
      (i : ℕ) → i < held_results → ((n : ℕ) → IsHeld h is n → (n - 1) % held_results ≡ i → ⊥) →
      place_in b.lent.sent i ≡ replicate record_bytes 0
  unfolding newest_in empty_place
  stored_empty i l none =
      at_place b.lent.sent i l ∙
      ap (λ (ps : List (List ℕ)). get_or ps i []) (places_shelf h.lent.sent s t b k) ∙
      untouched (replicate held_results empty_place) (given_up_to t.node) i [] (drop (given_up_to t.node) (result_bytes t))
      (λ m low high q.
      none (suc m)
      (omega (arith, same_least), omega (arith, length-drop (given_up_to t.node) (result_bytes t), ap length same_results))
      (ap (λ (j : ℕ). j % held_results) (let z : suc m - 1 ≡ m = omega arith in z) ∙ q)) ∙
      get_or-replicate held_results i empty_place [] l

  stored : Stored h is (box_after h is).lent.sent
  unfolding box_after
  stored =
      record {
        held = stored_held;
        empty = stored_empty;
        room = omega (arith, length_sent h.lent.sent s t b k (first_long h e), first_long h e);
        size = length_sent h.lent.sent s t b k (first_long h e);
        behind = ap (drop held_bytes) k.stocked ∙ behind_with h.lent.sent (shelf t) (shelf_places t);
      }

  -- ---- each display's last id

  near_each :
      (display : ℕ) → IsDisplay h display → (last_in h is display ≤ newest_in h is) × (newest_in h is ≤ last_in h is display + held_results)
  unfolding last_in last_of
  near_each display d =
      let ids = t.node.acknowledged in
      let at : display - 1 < length ids = omega (arith, d.0, d.1, displays_count) in
      let same : get_or ids (display - 1) 0 ≡ get_or (account_of h is).acknowledged (display - 1) 0 =
      ap (λ (l : List ℕ). get_or l (display - 1) 0) same_acknowledged in
      let below = every_index (λ (a : ℕ). a ≤ t.node.checkpoint.number) ids (display - 1) 0 at k.kept.held.below in
      let least = every_index (λ (a : ℕ). least_of ids ≤ a) ids (display - 1) 0 at (least_each ids) in
      (omega (arith, below, same, same_newest), omega (arith, least, same, same_newest, k.kept.held.few))

  -- ---- a display's calls

  abbrev node : Node
  node = view b.state b.lent.readings

  fetch_passed :
      (display from : ℕ) (area : List ℕ) → (fetched_on b.state b.lent display from area).answer ≡ 0 →
      FetchFits s t.node display from
  fetch_passed display from area q =
      fetch_fits s t.node display from
      (sym (ap₂ (λ (z : Settings) (n : Node). answer_to_fetch z n display from) k.stands.settings k.stands.is) ∙
      (accepted_fetch b.state b.lent display from area q).answered)

  host_5 : (area : List ℕ) → first_failed (host_tests b.state b.lent area) ≡ cond (ltb (length area) area_bytes) 5 0
  host_5 area =
      let v = host_after h e is in
      host_answer b.state b.lent area 3 (omega arith, omega arith) v.0 v.1 v.2

  acknowledges :
      (display id : ℕ) (area : List ℕ) →
      Answers area (IsDisplay h display) ((last_in h is display ≤ id) × (id ≤ newest_in h is))
      (called (box_after h is) (Input.acknowledge display id area)).answer
  unfolding box_after called acknowledged_on acknowledged_with last_in
  acknowledges display id area =
      let own = answer_to_acknowledgement b.state.settings node display id in
      let same : own ≡ answer_to_acknowledgement s t.node display id =
      ap₂ (λ (z : Settings) (n : Node). answer_to_acknowledgement z n display id) k.stands.settings k.stands.is in
      subst (Answers area (IsDisplay h display) ((last_of (account_of h is).acknowledged display ≤ id) × (id ≤ newest_in h is)))
      (sym
      (display_answer b.state b.lent area (acknowledged_down b.state b.lent display id area) own
      (first_failed (host_tests b.state b.lent area)) refl (host_5 area) ∙
      ap (cond (ltb (length area) area_bytes) 5) same))
      (acknowledgement_answers s t.node display id (last_of (account_of h is).acknowledged display) (newest_in h is) area
      (ap (λ (ids : List ℕ). last_of ids display) same_acknowledged) same_newest)

  fetches :
      (display from : ℕ) (area : List ℕ) →
      Answers area (IsDisplay h display) ((least_in h is < from) × (from ≤ suc (newest_in h is)))
      (called (box_after h is) (Input.fetch display from area)).answer
  unfolding box_after called fetched_on fetched_with
  fetches display from area =
      let own = answer_to_fetch b.state.settings node display from in
      let same : own ≡ answer_to_fetch s t.node display from =
      ap₂ (λ (z : Settings) (n : Node). answer_to_fetch z n display from) k.stands.settings k.stands.is in
      subst (Answers area (IsDisplay h display) ((least_in h is < from) × (from ≤ suc (newest_in h is))))
      (sym
      (display_answer b.state b.lent area (fetched_down b.state b.lent from area) own
      (first_failed (host_tests b.state b.lent area)) refl (host_5 area) ∙
      ap (cond (ltb (length area) area_bytes) 5) same))
      (fetch_answers s t.node display from (least_in h is) (newest_in h is) area same_least same_newest)

  -- ---- what is fetched

  -- so many results from there on, as they stand at their places
  module _ (display from : ℕ) (area : List ℕ) (q : (fetched_on b.state b.lent display from area).answer ≡ 0) where
    abbrev r : Called
    r = fetched_on b.state b.lent display from area

    abbrev count : ℕ
    count = min fetch_limit (suc t.node.checkpoint.number - from)

    same_count : fetch_count node from ≡ count
    unfolding fetch_count
    same_count = ap (λ (n : Node). fetch_count n from) k.stands.is

    abbrev found_there : List (List ℕ)
    found_there = take count (drop (from - 1) (result_bytes t))

    there : held_behind (places_of b.lent.sent) (from - 1) (fetch_count node from) ≡ map fields_of found_there
    there =
        let f = fetch_passed display from area q in
        let least = given_up_to t.node in
        let i = from - 1 - least in
        let sum : least + i ≡ from - 1 = omega (arith, f.held) in
        let size : length (drop least (result_bytes t)) ≡ t.node.checkpoint.number - least =
        omega (arith, length-drop least (result_bytes t), count_results s room t k.kept) in
        ap₂ (λ (ps : List (List ℕ)) (m : ℕ). held_behind ps (from - 1) m) (places_shelf h.lent.sent s t b k) same_count ∙
        ap (λ (m : ℕ). held_behind (shelf t) m count) (sym sum) ∙
        found_behind (replicate held_results empty_place) least i count (drop least (result_bytes t)) empty_places.count
        (omega (arith, size, f.held, f.near)) (held_few s room t k.kept) ∙
        ap (λ (bs : List (List ℕ)). map fields_of (take count bs))
        (drop-drop i least (result_bytes t) ∙ ap (λ (m : ℕ). drop m (result_bytes t)) sum)

    size_there : length found_there ≡ count
    size_there =
        let f = fetch_passed display from area q in
        length-take-le count (drop (from - 1) (result_bytes t))
        (omega (arith, length-drop (from - 1) (result_bytes t), count_results s room t k.kept, f.held))

    whole_there : Whole found_there
    whole_there =
        whole_take count (drop (from - 1) (result_bytes t))
        (whole_drop (from - 1) (result_bytes t) (whole_bytes (stable_records itself t.output)))

    leaves : r.area ≡ in_front (joined found_there) area
    leaves =
        ap (λ (c : Called). c.area) (accepted_fetch b.state b.lent display from area q).leaves ∙
        ap (λ (rs : List Record). in_front (all_bytes rs) area) there ∙
        ap (λ (bytes : List ℕ). in_front bytes area)
        (all_joined found_there
        (every_taken Rewritten count (drop (from - 1) (result_bytes t))
        (every_dropped Rewritten (from - 1) (result_bytes t) (results_rewritten t.output (mirrors h e is).decode))))

    counts : r.records ≡ count
    counts = ap (λ (c : Called). c.records) (accepted_fetch b.state b.lent display from area q).leaves ∙ same_count

    fetched_records : pieces r.records r.area ≡ take fetch_limit (drop (from - 1) (failure_free_bytes h is))
    unfolding in_front
    fetched_records =
        let f = fetch_passed display from area q in
        let size : suc t.node.checkpoint.number - from ≡ length (drop (from - 1) (result_bytes t)) =
        omega (arith, length-drop (from - 1) (result_bytes t), count_results s room t k.kept, f.held) in
        ap₂ pieces counts leaves ∙
        ap (λ (m : ℕ). pieces m (joined found_there ++ drop (length (joined found_there)) area)) (sym size_there) ∙
        pieces_joined found_there (drop (length (joined found_there)) area) whole_there ∙
        ap (λ (m : ℕ). take (min fetch_limit m) (drop (from - 1) (result_bytes t))) size ∙
        take_min fetch_limit (drop (from - 1) (result_bytes t)) ∙
        ap (λ (bs : List (List ℕ)). take fetch_limit (drop (from - 1) bs)) same_results

    fetched_rest : drop (r.records * record_bytes) r.area ≡ drop (r.records * record_bytes) area
    unfolding in_front
    fetched_rest =
        let size : length (joined found_there) ≡ count * record_bytes = omega (arith, length_joined found_there whole_there, size_there) in
        ap₂ (λ (m : ℕ) (l : List ℕ). drop (m * record_bytes) l) counts leaves ∙
        drop_at (joined found_there) (drop (length (joined found_there)) area) (count * record_bytes) size ∙
        ap (λ (m : ℕ). drop m area) size ∙ ap (λ (m : ℕ). drop (m * record_bytes) area) (sym counts)

  fetched_right :
      (display from : ℕ) (area : List ℕ) →
      let r : Called = called (box_after h is) (Input.fetch display from area) in
      r.answer ≡ 0 → FetchedFrom h is from area r
  unfolding box_after called
  fetched_right display from area q =
      record { records = fetched_records display from area q; rest = fetched_rest display from area q }

  -- ---- want of places

  abbrev IsRefused : List ℕ → Type 0
  IsRefused text =
      ((call : Call) × (call_of text ≡ Some call) × IsStep b.state.clock call) ×
      LacksPlaces (settings_in h) (account_of h is)

  step_refused :
      (call : Call) → (answer_to b.state.settings node call ≡ 15) ↔ (IsStep b.state.clock call × LacksPlaces s (account_of h is))
  unfolding view
  step_refused call =
      let same : answer_to b.state.settings node call ≡ answer_to s t.node call =
      ap₂ (λ (z : Settings) (n : Node). answer_to z n call) k.stands.settings k.stands.is in
      let clock : node.clock ≡ t.node.clock = ap (λ (n : Node). n.clock) k.stands.is in
      let account : account_of h is ≡ account_in t = (mirrors h e is).account in
      let both = step_15 s room t k.kept call in (
        λ q.
            let p = both.0 (sym same ∙ q) in
            (subst (λ (c : ArrivalTick). IsStep c call) (sym clock) p.0, subst (LacksPlaces s) (sym account) p.1),
        λ p. same ∙ both.1 (subst (λ (c : ArrivalTick). IsStep c call) clock p.0, subst (LacksPlaces s) account p.1),
      )

  read_refused :
      (text area : List ℕ) (read : Option Call) → call_of text ≡ read → (called_with b.state b.lent area read).answer ≡ 15 →
      IsRefused text
  unfolding called_with refused_with call_answer
  read_refused text area (Some call) e q =
      let p = (step_refused call).0 (sym (read_answer b.state b.lent area call) ∙ q) in
      ((call, e, p.0), p.1)
  read_refused text area None e q = absurd (omega (arith, q))

  text_refused : (text area : List ℕ) → ((called_with b.state b.lent area (call_of text)).answer ≡ 15) ↔ IsRefused text
  text_refused text area = (
    λ q. read_refused text area (call_of text) refl q,
    λ p.
        ap (λ (read : Option Call). (called_with b.state b.lent area read).answer) p.0.1 ∙
        read_answer b.state b.lent area p.0.0 ∙
        (step_refused p.0.0).1 (p.0.2, p.1),
  )

  full :
      (text area : List ℕ) →
      ((called (box_after h is) (Input.journal text area)).answer ≡ 15) ↔
      ((area_bytes ≤ length area) ×
      ((call : Call) × (call_of text ≡ Some call) × IsStep (box_after h is).state.clock call) ×
      LacksPlaces (settings_in h) (account_of h is))
  unfolding box_after called called_on refused_with
  full text area =
      let own = text_refused text area in
      let judged :
      called_on b.state b.lent text area ≡
      host_if b.state b.lent area 3 (omega arith, omega arith) text (cond (ltb (length area) area_bytes) 5 0) =
      ap (λ (n : ℕ). host_if b.state b.lent area 3 (omega arith, omega arith) text n) (host_5 area) in
      rw judged
      ((elim (ltb (length area) area_bytes) as
      (λ a.
      ltb (length area) area_bytes ≡ a →
      ((host_if b.state b.lent area 3 (omega arith, omega arith) text (cond a 5 0)).answer ≡ 15) ↔
      ((area_bytes ≤ length area) ×
      ((call : Call) × (call_of text ≡ Some call) × IsStep b.state.clock call) ×
      LacksPlaces (settings_in h) (account_of h is))) [
        | true ↦ λ low. (λ q. absurd (omega arith), λ p. absurd (let l : length area < area_bytes = ltb-true _ _ low in omega (arith, p.0)))
        | false ↦ λ whole. (λ q. let p = own.0 q in (ltb-false _ _ whole, p.0, p.1), λ p. own.1 (p.1, p.2))
      ])
      refl)

-- ---- an acknowledgement on any box

quiet : (b : Box) (display id : ℕ) (area : List ℕ) → Quiet b area (called b (Input.acknowledge display id area))
unfolding called
quiet b display id area =
    let r = acknowledged_on b.state b.lent display id area in
    let aside = acknowledgement_aside b.state b.lent display id area in
    let bare : (r.records ≡ 0) × (r.area ≡ area) =
    (elim (eqb r.answer 0) as (λ a. eqb r.answer 0 ≡ a → (r.records ≡ 0) × (r.area ≡ area)) [
      | true ↦ λ q.
          let v = accepted_acknowledgement b.state b.lent display id area (eqb-true _ _ q) in
          (ap (λ (c : Called). c.records) v.leaves, ap (λ (c : Called). c.area) v.leaves)
      | false ↦ λ q.
          let same = refused_acknowledgement b.state b.lent display id area (eqb-false _ _ q) in
          (same.records, same.bytes)
    ])
    refl in
    record {
      records = bare.0;
      bytes = bare.1;
      readings = aside.readings;
      state = aside.state;
    }

-- ---- whole

pub sent_back : SentBack
sent_back =
    record {
      store = stored;
      near = near_each;
      acknowledges = acknowledges;
      fetches = fetches;
      fetched = fetched_right;
      quiet = quiet;
      still = fetched_same;
      full = full;
    }
