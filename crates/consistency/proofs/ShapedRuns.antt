-- From an accepted opening on no call is refused for a short store or a state out of shape: the box has room and stands for a node in
-- shape, at the opening and after every call, and such a box passes the tests of refusals 3 and 4.
use Prim.Native.Nat.{ℕ, ◌*◌, ◌%◌, ◌≤◌, ◌<◌}
use mathlib.Core.Path.{◌≡◌, refl, sym, ◌∙◌, ap}
use mathlib.Core.Bool.{true, false, cond}
use mathlib.Core.List.{List, [], ◌∷◌}
use native.Mathlib.Omega.{arith}
use native.Mathlib.Nat.{mod-lt}
use borrow.Author.Tests.{eqb-true, eqb-false}
use lib.Dec.{eqb, ltb}
use lib.ListN.{length, take}
use Rattle.std.specs.Prelude.{Option, Some, None}
use Rattle.settings.specs.declared.Settings.{Settings}
use Rattle.journal.specs.declared.Call.{Call}
use Rattle.journal.specs.JournalLine.{call_answer}
use Rattle.journal.specs.ReadLine.{call_of}
use Rattle.store.specs.Lists.{Every}
use Rattle.store.proofs.Pairs.{every_to}
use Rattle.operator_meter.specs.declared.Meter.{Meter}
use Rattle.operator.specs.Meters.{Operator}
use Rattle.protocol.specs.Kinds.{kind_of}
use Rattle.protocol.specs.Node.{Node}
use Rattle.protocol.specs.Refusals.{first_failed, call_tests, line_tests, step_tests, tests_of, answer_to}
use Rattle.node.specs.Held.{Held}
use Rattle.node.specs.Sizes.{area_bytes}
use Rattle.store.specs.Columns.{rows, store_length}
use Rattle.retransmission.specs.Sizes.{held_bytes}
use Rattle.protocol.specs.Displays.{wrong_display, wrong_acknowledgement, wrong_fetch, answer_to_acknowledgement, answer_to_fetch}
use Rattle.protocol.specs.Calls.{acknowledged_by}
use Rattle.protocol.proofs.FirstFailed.{never_answered}
use Rattle.protocol.proofs.Displays.{HeldIn}
use Rattle.node.specs.View.{Lent, places, view}
use Rattle.node.specs.Shape.{sent_ok, in_shape}
use Rattle.node.specs.Displays.{acknowledged_with, acknowledged_on, fetched_with, fetched_on}
use Rattle.node.specs.Calls.{Called, host_tests, refused_with, called_with, called_on}
use Rattle.node.proofs.View.{Fits}
use Rattle.node.proofs.Limits.{limits_hold}
use Rattle.node.proofs.Calls.{laid_down, either_way}
use Rattle.node.proofs.AfterCalls.{accepted_view, accepted_settings, called_fits}
use Rattle.node.proofs.Opening as opening
use Rattle.node.proofs.Opening.{long_enough}
use Rattle.node.proofs.Displays.{acknowledged_down, accepted_acknowledgement, acknowledged_view, acknowledged_fits}
use Rattle.node.proofs.Displays.{fetched_down, fetch_leaves}
use Rattle.consistency.specs.Runs.{Box, Input, called, left, left_after}
use Rattle.consistency.specs.Demand.{Handed, opening as openingOf, is_opened, box_of, settings_in}
use Rattle.operator_meter.specs.Bounds.{count_limit}
use Rattle.operator_meter.proofs.Bounds.{Counted}
use Rattle.consistency.proofs.Refused.{untouched}
use Rattle.consistency.proofs.Opened.{some_bucket, trace_of, mirrors}
use Rattle.consistency.proofs.SentShape.{held_displays, first_long, keeps_after, length_sent, sent_passes}
use Rattle.consistency.proofs.ShapedTests.{facts_in_shape}
use Rattle.consistency.proofs.ShapedLines.{LineShaped, kept_shape, heads_shape}
use Rattle.consistency.proofs.ShapedWork.{CountedAt, readings_per_bucket}
use Rattle.consistency.proofs.Shaped.{Shaped, opened_shaped, outcome_shaped}

-- ---- a state and a store that stand for a node in shape

-- a window has at most sixteen buckets, so that its counts are within the limit
meters_shape : (s : Settings) (j : ℕ) (ms : List Meter) → 1 ≤ s.window → s.window ≤ 16 → CountedAt s j ms → Every (Counted count_limit) ms
meters_shape s j ms some most h =
    let below : j % s.window < s.window = mod-lt j some in
    every_to ms (λ (m : Meter) (g : Counted (readings_per_bucket * (j % s.window)) m). record { count = omega (arith, g.count); range = g.range }) h

pub shaped_in_shape :
    (st : Held) (x : Lent) → Fits st x.readings → Shaped st.settings (view st x.readings) → HeldIn (view st x.readings) →
    sent_ok st x.sent ≡ true → in_shape st x ≡ true
unfolding view
shaped_in_shape st x room v held sent =
    let w = v.work in
    let limits = limits_hold st.settings v.limits in
    facts_in_shape st x
    (record {
      limits = v.limits;
      heads = heads_shape st.settings.lines st.heads (rows x.readings (places st)) room.kept v.lines;
      lines = every_to (view st x.readings).lines kept_shape v.lines;
      buckets = record { order = w.order; last = w.top; phase = w.phase };
      numbers =
          record {
            stable = w.stable_number;
            newest = w.newest_number;
            order = w.numbers;
            level = λ e. ap (λ (o : Operator). o.number) (w.level e);
          };
      operator = meters_shape st.settings st.p st.operator.meters limits.some_window limits.window w.operator;
      checkpoint = meters_shape st.settings st.c st.checkpoint.meters limits.some_window limits.window w.checkpoint;
      displays = held_displays st.checkpoint.number (take st.settings.displays st.acknowledged) held;
      sent = sent;
    })

-- ---- answers

-- a refusal that only the store and the state bring
abbrev OfStore : ℕ → Type 0
OfStore m = (3 ≤ m) × (m ≤ 4)

module _ (st : Held) (x : Lent) (area : List ℕ) (m : ℕ) (h : OfStore m) where
  meaning_otherwise : (s : Settings) (n : Node) (k : Call) → answer_to s n k ≡ m → ⊥
  unfolding answer_to tests_of call_tests line_tests step_tests
  meaning_otherwise s n k e = never_answered m (omega arith) (tests_of s n k (kind_of k.kind)) (omega arith) e

  read_otherwise : (read : Option Call) → (called_with st x area read).answer ≡ m → ⊥
  unfolding called_with refused_with call_answer
  read_otherwise (Some k) e =
      let answer : ℕ = answer_to st.settings (view st x.readings) k in
      (elim (eqb answer 0) as (λ b. (cond b (laid_down st x area k) (refused_with answer st x area)).answer ≡ m → ⊥) [
        | true ↦ λ e. omega arith
        | false ↦ λ e. meaning_otherwise st.settings (view st x.readings) k e
      ])
      e
  read_otherwise None e = omega arith

  -- the host's tests where the store is long enough and the state is in shape: only the area may be short
  pub host_answer :
      places st ≤ store_length x.readings → held_bytes ≤ length x.sent → in_shape st x ≡ true →
      first_failed (host_tests st x area) ≡ cond (ltb (length area) area_bytes) 5 0
  unfolding host_tests places first_failed
  host_answer room sent shape = rw (long_enough st.settings.lines x room sent, shape)

  -- a call with this answer to the host's tests
  abbrev pub host_if : List ℕ → ℕ → Called
  host_if text n = cond (eqb n 0) (called_with st x area (call_of text)) (refused_with n st x area)

  answered_otherwise :
      (text : List ℕ) → first_failed (host_tests st x area) ≡ cond (ltb (length area) area_bytes) 5 0 →
      (called_on st x text area).answer ≡ m → ⊥
  unfolding called_on refused_with
  answered_otherwise text host e =
      (elim (ltb (length area) area_bytes) as (λ b. (host_if text (cond b 5 0)).answer ≡ m → ⊥) [
        | true ↦ λ e. omega arith
        | false ↦ λ e. read_otherwise (call_of text) e
      ])
      (ap (λ (n : ℕ). (host_if text n).answer) (sym host) ∙ e)

  -- a display's call, with this answer to the host's tests and this one to its own
  abbrev display_if : Called → ℕ → ℕ → Called
  display_if down own n = cond (eqb n 0) (cond (eqb own 0) down (refused_with own st x area)) (refused_with n st x area)

  display_otherwise :
      (down : Called) (own : ℕ) → down.answer ≡ 0 → (own ≡ m → ⊥) →
      first_failed (host_tests st x area) ≡ cond (ltb (length area) area_bytes) 5 0 →
      (display_if down own (first_failed (host_tests st x area))).answer ≡ m → ⊥
  unfolding refused_with
  display_otherwise down own zero-answer not_own host e =
      (elim (ltb (length area) area_bytes) as (λ b. (display_if down own (cond b 5 0)).answer ≡ m → ⊥) [
        | true ↦ λ e. omega arith
        | false ↦ λ e.
            (elim (eqb own 0) as (λ b. (cond b down (refused_with own st x area)).answer ≡ m → ⊥) [
              | true ↦ λ e. omega (arith, zero-answer)
              | false ↦ λ e. not_own e
            ])
            e
      ])
      (ap (λ (n : ℕ). (display_if down own n).answer) (sym host) ∙ e)

  acknowledged_otherwise :
      (display id : ℕ) → first_failed (host_tests st x area) ≡ cond (ltb (length area) area_bytes) 5 0 →
      (acknowledged_on st x display id area).answer ≡ m → ⊥
  unfolding acknowledged_on acknowledged_with answer_to_acknowledgement
  acknowledged_otherwise display id host e =
      display_otherwise (acknowledged_down st x display id area)
      (answer_to_acknowledgement st.settings (view st x.readings) display id) refl
      (λ q.
      never_answered m (omega arith)
      (record { fails = wrong_display st.settings display; number = 16 } ∷
      record { fails = wrong_acknowledgement (view st x.readings) display id; number = 17 } ∷ [])
      (omega arith) q)
      host e

  fetched_otherwise :
      (display from : ℕ) → first_failed (host_tests st x area) ≡ cond (ltb (length area) area_bytes) 5 0 →
      (fetched_on st x display from area).answer ≡ m → ⊥
  unfolding fetched_on fetched_with answer_to_fetch
  fetched_otherwise display from host e =
      display_otherwise (fetched_down st x from area) (answer_to_fetch st.settings (view st x.readings) display from) refl
      (λ q.
      never_answered m (omega arith)
      (record { fails = wrong_display st.settings display; number = 16 } ∷
      record { fails = wrong_fetch (view st x.readings) from; number = 17 } ∷ [])
      (omega arith) q)
      host e

-- ---- a box

-- a box with room, that stands for a node in shape
record Sound (b : Box) : Type 0 where
  pub room : Fits b.state b.lent.readings
  pub shaped : Shaped b.state.settings (view b.state b.lent.readings)

acknowledged_shaped : (s : Settings) (n : Node) (display id : ℕ) → Shaped s n → Shaped s (acknowledged_by s n display id)
unfolding acknowledged_by
acknowledged_shaped s n display id v =
    record {
      limits = v.limits;
      fits = record { clock = v.fits.clock; operator = v.fits.operator; checkpoint = v.fits.checkpoint; lines = v.fits.lines };
      count = v.count;
      short = v.short;
      lines = v.lines;
      work = v.work;
    }

same_sound : (b : Box) (i : Input) → ((called b i).state ≡ b.state) → ((called b i).lent ≡ b.lent) → Sound b → Sound (left b i)
unfolding left
same_sound b i p q v = record { room = rw (p, q) v.room; shaped = rw (p, q) v.shaped }

acknowledged_sound :
    (b : Box) (display id : ℕ) (area : List ℕ) → Sound b → (called b (Input.acknowledge display id area)).answer ≡ 0 →
    Sound (left b (Input.acknowledge display id area))
unfolding left called
acknowledged_sound b display id area v e =
    let w = accepted_acknowledgement b.state b.lent display id area e in
    rw w.leaves
    (record {
      room = acknowledged_fits b.state b.lent.readings display id w.answered v.room;
      shaped =
          rw (acknowledged_view b.state b.lent.readings display id w.answered)
          (acknowledged_shaped b.state.settings (view b.state b.lent.readings) display id v.shaped);
    })

fetch_sound : (b : Box) (display from : ℕ) (area : List ℕ) → Sound b → Sound (left b (Input.fetch display from area))
unfolding called
fetch_sound b display from area v =
    let same = fetch_leaves b.state b.lent display from area in
    same_sound b (Input.fetch display from area) same.0 same.1 v

journal_sound : (b : Box) (text area : List ℕ) → Sound b → Sound (left b (Input.journal text area))
unfolding left called
journal_sound b text area v =
    let st = b.state in
    let x = b.lent in
    record {
      room = called_fits st x text area v.room;
      shaped =
          either_way st x text area (λ (r : Called). Shaped r.state.settings (view r.state r.lent.readings))
          (λ u. rw (u.state, u.lent) v.shaped)
          (λ a.
          rw (accepted_view st x text area a v.room, accepted_settings st x text area a)
          (outcome_shaped st.settings (view st x.readings) v.shaped a.call a.fits));
    }

acknowledge_sound : (b : Box) (display id : ℕ) (area : List ℕ) → Sound b → Sound (left b (Input.acknowledge display id area))
acknowledge_sound b display id area v =
    (elim (eqb (called b (Input.acknowledge display id area)).answer 0) as
    (λ a. eqb (called b (Input.acknowledge display id area)).answer 0 ≡ a → Sound (left b (Input.acknowledge display id area))) [
      | true ↦ λ e. acknowledged_sound b display id area v (eqb-true _ _ e)
      | false ↦ λ e.
          let same = untouched b (Input.acknowledge display id area) (eqb-false _ _ e) in
          same_sound b (Input.acknowledge display id area) same.state same.lent v
    ])
    refl

call_sound : (b : Box) (i : Input) → Sound b → Sound (left b i)
call_sound b (Input.journal text area) v = journal_sound b text area v
call_sound b (Input.acknowledge display id area) v = acknowledge_sound b display id area v
call_sound b (Input.fetch display from area) v = fetch_sound b display from area v

list_sound : (is : List Input) (b : Box) → Sound b → Sound (left_after b is)
unfolding left_after
list_sound [] b v = v
list_sound (i ∷ is) b v = list_sound is (left b i) (call_sound b i v)

opening_sound : (h : Handed) → is_opened h → Sound (box_of h)
unfolding is_opened box_of openingOf
opening_sound h e =
    let o = opening.opened_on_lem h.state h.lent h.text e in
    record {
      room = opening.opened_fits h.state h.lent h.text o;
      shaped =
          rw (opening.opened_view h.state h.lent h.text o, opening.opened_settings h.state h.lent h.text o)
          (opened_shaped o.settings o.accepts.limits);
    }

-- from an opening on, what a box keeps is in shape
pub kept_shaped :
    (h : Handed) → is_opened h → (is : List Input) →
    let b : Box = left_after (box_of h) is in
    Every LineShaped (view b.state b.lent.readings).lines
kept_shaped h e is = (list_sound is (box_of h) (opening_sound h e)).shaped.lines

-- ---- whole

-- a box with stores long enough, in shape: of the host's tests only the area's may fail
abbrev pub InOrder : Box → Type 0
InOrder b = (places b.state ≤ store_length b.lent.readings) × (held_bytes ≤ length b.lent.sent) × (in_shape b.state b.lent ≡ true)

-- after every list it is such a box
pub host_after : (h : Handed) → is_opened h → (is : List Input) → InOrder (left_after (box_of h) is)
host_after h e is =
    let b = left_after (box_of h) is in
    let s = settings_in h in
    let t = trace_of s h is in
    let v = list_sound is (box_of h) (opening_sound h e) in
    let k = keeps_after h e is in (
      v.room.room,
      omega (arith, length_sent h.lent.sent s t b k (first_long h e), first_long h e),
      shaped_in_shape b.state b.lent v.room v.shaped (rw k.stands.is k.kept.held)
          (sent_passes h.lent.sent s t b k (some_bucket h e) (mirrors h e is).decode),
    )

answers : (b : Box) → InOrder b → (i : Input) (m : ℕ) → OfStore m → (called b i).answer ≡ m → ⊥
unfolding called
answers b v (Input.journal text area) m h e =
    answered_otherwise b.state b.lent area m h text (host_answer b.state b.lent area m h v.0 v.1 v.2) e
answers b v (Input.acknowledge display id area) m h e =
    acknowledged_otherwise b.state b.lent area m h display id (host_answer b.state b.lent area m h v.0 v.1 v.2) e
answers b v (Input.fetch display from area) m h e =
    fetched_otherwise b.state b.lent area m h display from (host_answer b.state b.lent area m h v.0 v.1 v.2) e

-- 3 and 4 are never the answer
pub in_shape_lem :
    (h : Handed) → is_opened h → (is : List Input) (i : Input) (m : ℕ) → 3 ≤ m → m ≤ 4 →
    (called (left_after (box_of h) is) i).answer ≡ m → ⊥
in_shape_lem h e is i m low high q = answers (left_after (box_of h) is) (host_after h e is) i m (low, high) q
