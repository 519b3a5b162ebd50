-- From an accepted opening on the displays' ids and the held places pass the tests of refusal 4, and the send-back store is never short: what
-- is held stands at its place, with its own number.
use Prim.Native.Nat.{ℕ, zero, suc, ◌+◌, ◌-◌, ◌%◌, ◌≤◌, ◌<◌}
use mathlib.Core.Path.{◌≡◌, refl, sym, ◌∙◌, ap}
use mathlib.Core.Bool.{Bool, true, false}
use mathlib.Core.List.{List, [], ◌∷◌, map}
use native.Mathlib.Omega.{arith}
use lib.ListN.{length, drop, get_or, replicate, length-drop, length-map}
use lib.Seq.{get_or-drop, drop-nil}
use Rattle.settings.specs.declared.Settings.{Settings}
use Rattle.record.specs.declared.Record.{Record}
use Rattle.record.specs.Layout.{bytes_of}
use Rattle.record.specs.Fields.{fields_of}
use Rattle.record.specs.Decoded.{is_well_formed}
use Rattle.record.proofs.Decoding.{decoded_well, decoded_ill}
use Rattle.store.specs.Lists.{Every, keep}
use Rattle.store.proofs.Pairs.{every_to, every_both, every_keep, every_index}
use Rattle.store.proofs.Keeping.{keep_passes}
use Rattle.record.specs.Markers.{marker}
use Rattle.retransmission.specs.Sizes.{held_results, held_bytes}
use Rattle.retransmission.specs.Places.{places_of, with_places, empty_place, place_ok, places_ok}
use Rattle.retransmission.proofs.Places.{held_over, found, places_pass}
use Rattle.retransmission.proofs.Stores.{empty_places, places_with, length_with}
use Rattle.protocol.specs.Node.{Node, opened}
use Rattle.protocol.specs.Displays.{least_of, given_up_to}
use Rattle.protocol.specs.Undos.{stable_records}
use Rattle.protocol.specs.Runs.{Trace, start}
use Rattle.protocol.specs.SentBack.{Consecutive}
use Rattle.protocol.proofs.Displays.{HeldFor, least_each}
use Rattle.protocol.proofs.SentBack.{Kept, start_all}
use Rattle.node.specs.View.{view}
use Rattle.node.specs.Shape.{sent_ok}
use Rattle.node.proofs.Shape.{DisplayShape}
use Rattle.node.proofs.Opening as opening
use Rattle.node.proofs.Records.{Decodes}
use Rattle.node.proofs.Sent.{is_stable_record, result_passes}
use Rattle.consistency.specs.Runs.{Box, Input, left_after}
use Rattle.consistency.specs.Demand.{Handed, opening as openingOf, is_opened, box_of, settings_in}
use Rattle.consistency.proofs.Opened.{box_stands, some_bucket, some_lines_lem, trace_of}
use Rattle.consistency.proofs.SentStore.{result_bytes, shelf, shelf_places, count_results, held_few, results_numbered, Stocked, Keeps, keeps}

-- ---- the displays' ids

pub held_displays : (newest : ℕ) (ids : List ℕ) → HeldFor newest ids → Every (DisplayShape newest) ids
held_displays newest ids v =
    every_to ids
    (λ (a : ℕ) (h : (a ≤ newest) × (least_of ids ≤ a)). record { known = h.0; near = omega (arith, h.1, v.few) })
    (every_both (λ (a : ℕ). a ≤ newest) (λ (a : ℕ). least_of ids ≤ a) ids v.below (least_each ids))

-- ---- a result at its place

-- bytes that are read as the record have its fields
pub decodes_fields : (r : Record) → Decodes r → fields_of (bytes_of r) ≡ r
decodes_fields r d =
    (elim (is_well_formed (bytes_of r)) as (λ b. is_well_formed (bytes_of r) ≡ b → fields_of (bytes_of r) ≡ r) [
      | true ↦ λ t. let q = decoded_well (bytes_of r) t in cc
      | false ↦ λ t. let q = decoded_ill (bytes_of r) t in let z : ◌≡◌ {A = ℕ} 0 1 = cc in absurd (omega arith)
    ])
    refl

get_d_mapped : {A B : Type 0} (f : A → B) (xs : List A) (i : ℕ) (d : B) (e : A) → i < length xs → get_or (map f xs) i d ≡ f (get_or xs i e)
get_d_mapped f [] i d e h = absurd (omega arith)
get_d_mapped f (x ∷ xs) zero d e h = refl
get_d_mapped f (x ∷ xs) (suc i) d e h = get_d_mapped f xs i d e (omega arith)

consecutive_at : (n i : ℕ) (rs : List Record) (d : Record) → i < length rs → Consecutive n rs → (get_or rs i d).id ≡ suc (n + i)
consecutive_at n i [] d h c = absurd (omega arith)
consecutive_at n zero (r ∷ rs) d h c = omega (arith, c.0)
consecutive_at n (suc i) (r ∷ rs) d h c = omega (arith, consecutive_at (suc n) i rs d (omega arith) c.1)

-- result L + i + 1 stands at its place
pub shelf_at :
    (s : Settings) → 0 < s.bucket → (t : Trace) → Kept s t → (n : ℕ) → given_up_to t.node ≤ n → n < length (result_bytes t) →
    get_or (shelf t) (n % held_results) [] ≡ get_or (result_bytes t) n []
shelf_at s room t v n low high =
    let least = given_up_to t.node in
    let sum : least + (n - least) ≡ n = omega arith in
    ap (λ (m : ℕ). get_or (shelf t) (m % held_results) []) (sym sum) ∙
    found (replicate held_results empty_place) least (n - least) [] (drop least (result_bytes t)) empty_places.count
    (omega (arith, length-drop least (result_bytes t))) (held_few s room t v) ∙
    get_or-drop least (result_bytes t) (n - least) [] ∙ ap (λ (m : ℕ). get_or (result_bytes t) m []) sum

place_passes :
    (s : Settings) → 0 < s.bucket → (t : Trace) → Kept s t → Every Decodes t.output → (n : ℕ) → given_up_to t.node ≤ n →
    n < length (result_bytes t) → place_ok (suc n) (get_or (shelf t) (n % held_results) []) ≡ true
unfolding stable_records
place_passes s room t v decode n low high =
    let rs = keep is_stable_record t.output in
    let no = marker 0 0 (record { 0 = 0 }) in
    let at : n < length rs = omega (arith, length-map rs bytes_of) in
    let r = get_or rs n no in
    let bytes : get_or (shelf t) (n % held_results) [] ≡ bytes_of r = shelf_at s room t v n low high ∙ get_d_mapped bytes_of rs n [] no at in
    ap (place_ok (suc n)) bytes ∙
    result_passes (suc n) r (decodes_fields r (every_index Decodes rs n no at (every_keep Decodes is_stable_record t.output decode)))
    (every_index (λ (x : Record). is_stable_record x ≡ true) rs n no at (keep_passes is_stable_record t.output))
    (consecutive_at 0 n rs no at (results_numbered s room t v) ∙ (let q : suc (0 + n) ≡ suc n = omega arith in q))

shelf_passes :
    (s : Settings) → 0 < s.bucket → (t : Trace) → Kept s t → Every Decodes t.output →
    places_ok (shelf t) (given_up_to t.node) (t.node.checkpoint.number - given_up_to t.node) ≡ true
shelf_passes s room t v decode =
    places_pass (shelf t) (given_up_to t.node) (t.node.checkpoint.number - given_up_to t.node)
    (λ i l. place_passes s room t v decode (given_up_to t.node + i) (omega arith) (omega (arith, count_results s room t v)))

-- ---- from the opening on

-- the store that was lent first has room
pub first_long : (h : Handed) → is_opened h → held_bytes ≤ length h.lent.sent
unfolding is_opened openingOf
first_long h e = (opening.opened_on_lem h.state h.lent h.text e).places

opened_stocked : (h : Handed) → is_opened h → Stocked h.lent.sent (box_of h).lent.sent (start (settings_in h))
unfolding is_opened box_of openingOf start stable_records keep held_over
opened_stocked h e =
    let o = opening.opened_on_lem h.state h.lent h.text e in
    opening.opened_sent h.state h.lent h.text o ∙
    ap (λ (xs : List (List ℕ)). with_places h.lent.sent (held_over (replicate held_results empty_place) (given_up_to (opened (settings_in h))) xs))
    (sym (drop-nil (given_up_to (opened (settings_in h)))))

pub keeps_after :
    (h : Handed) → is_opened h → (is : List Input) →
    Keeps h.lent.sent (settings_in h) (trace_of (settings_in h) h is) (left_after (box_of h) is)
unfolding start
keeps_after h e is =
    keeps h.lent.sent (settings_in h) (some_bucket h e) is (start (settings_in h)) (box_of h)
    (record { kept = start_all (settings_in h) (some_lines_lem h e); stands = box_stands h e; stocked = opened_stocked h e })

module _ (first : List ℕ) (s : Settings) (t : Trace) (b : Box) (v : Keeps first s t b) where
  pub places_shelf : places_of b.lent.sent ≡ shelf t
  places_shelf = ap places_of v.stocked ∙ places_with first (shelf t) (shelf_places t)

  pub length_sent : held_bytes ≤ length first → length b.lent.sent ≡ length first
  length_sent h = ap length v.stocked ∙ length_with first (shelf t) (shelf_places t) h

  pub sent_passes : 0 < s.bucket → Every Decodes t.output → sent_ok b.state b.lent.sent ≡ true
  unfolding sent_ok given_up_to view
  sent_passes room decode =
      ap (λ (ps : List (List ℕ)). sent_in ps (view b.state b.lent.readings)) places_shelf ∙
      ap (sent_in (shelf t)) v.stands.is ∙ shelf_passes s room t v.kept decode
    where
      sent_in : List (List ℕ) → Node → Bool
      sent_in ps n = places_ok ps (given_up_to n) (n.checkpoint.number - given_up_to n)
