-- The statement on the send-back store gives the plain table of specs/PlainSentBack.antt, and each clause of the table one of the statement;
-- StatedSentBack puts those together, so that neither can be weakened without the other. Uses the two texts and no proof of either; of the definitions, that an opening has a display, and that
-- an accepted acknowledgement is of one.
use Prim.Native.Nat.{ℕ, suc, ◌+◌, ◌-◌, ◌≤◌, ◌<◌}
use mathlib.Core.Path.{◌≡◌, sym, ◌∙◌, ap, subst}
use mathlib.Core.Bool.{true, ◌&&◌}
use mathlib.Core.List.{List, map}
use mathlib.Core.Logic.{◌↔◌}
use native.Mathlib.Omega.{arith}
use borrow.Author.Tests.{leb-true, le-leb}
use lib.Dec.{leb}
use lib.ListN.{length, length-replicate, get_or-replicate}
use Rattle.settings.specs.declared.Settings.{Settings}
use Rattle.journal.specs.ReadLine.{call_of}
use Rattle.record.specs.Layout.{bytes_of}
use Rattle.store.proofs.Choices.{and_parts}
use Rattle.retransmission.specs.Sizes.{held_results}
use Rattle.protocol.specs.Displays.{least_of, last_of}
use Rattle.protocol.specs.FailureFree.{failure_free}
use Rattle.node.specs.Sizes.{area_bytes}
use Rattle.node.specs.Held.{Held}
use Rattle.node.specs.Calls.{Called, called_on}
use Rattle.consistency.specs.Runs.{Box, Input, called, left}
use Rattle.consistency.specs.Accounts.{Account, empty_account}
use Rattle.consistency.specs.Demand.{Handed, opening, is_opened, box_of, settings_in, account_of}
use Rattle.consistency.specs.Demand.{failure_free_records, failure_free_bytes}
use Rattle.consistency.specs.Plain.{Run, settings_on, run_of, results_on}
use Rattle.consistency.proofs.Opened.{settings_limits}
use Rattle.consistency.proofs.Plain.{box_on, handed_of, opened_left, opened_account}
use Rattle.consistency.specs.PlainSentBack.{last_on, wanted, is_bare_step, is_lacking}
use Rattle.consistency.specs.PlainSentBack.{FetchOn, SentOn, PlainSentBack}
use Rattle.consistency.specs.SentBack.{last_in, least_in, newest_in, IsDisplay, Stored, Answers, FetchedFrom}
use Rattle.consistency.specs.SentBack.{LacksPlaces, box_after, SentBack}
use Rattle.consistency.proofs.PlainDisplays.{box_in, last_is, count_is, wanted_least}
use Rattle.consistency.proofs.PlainBytes.{Alike, newest_is, plain_store, stated_store, plain_fetch, stated_fetch}
use Rattle.consistency.proofs.PlainAnswers.{stated_answer, plain_answer, ReadsAs, reads_is, lacking_is, plain_15, stated_15, whole_area}

-- ---- from an opening on

module _ (h : Handed) (e : is_opened h) (is : List Input) where
  abbrev s : Settings
  s = settings_on h.state h.lent h.text

  abbrev y : Run
  y = run_of h.state h.lent h.text is

  abbrev last : ℕ → ℕ
  last = last_on h.state h.lent h.text is

  abbrev ids : List ℕ
  ids = (account_of h is).acknowledged

  as_many : length ids ≡ s.displays
  unfolding account_of empty_account box_of settings_in opening settings_on
  as_many = count_is s (empty_account s) (opening h).state (opening h).lent is ∙ length-replicate s.displays 0

  same_last : (display : ℕ) → 1 ≤ display → display ≤ s.displays → last_of ids display ≡ last display
  unfolding account_of empty_account box_of settings_in opening settings_on last_on last_of
  same_last display low high =
      last_is s (empty_account s) (opening h).state (opening h).lent is display 0 low
      (omega (arith, high, length-replicate {A = ℕ} s.displays 0))
      (get_or-replicate s.displays (display - 1) 0 0 (omega (arith, low, high)))

  some_display : 0 < s.displays
  unfolding settings_in opening settings_on
  some_display = (settings_limits h e).some_displays

  wants : (n : ℕ) → (wanted s.displays last n ≡ true) ↔ (least_of ids < n)
  wants n =
      subst (λ (d : ℕ). (wanted d last n ≡ true) ↔ (least_of ids < n)) as_many
      (wanted_least ids last (omega (arith, as_many, some_display)) (λ d low high. same_last d low (omega (arith, high, as_many))) n)

  alike : Alike h is s y last
  unfolding failure_free_records failure_free_bytes results_on settings_in opening settings_on least_in
  alike =
      record {
        bytes =
            ap (λ (a : Account). map bytes_of (failure_free s a.stables a.monitor.d).records)
            (opened_account h.state h.lent h.text is);
        wants = wants;
      }

  same_box : box_after h is ≡ box_on y
  unfolding box_after
  same_box = opened_left h.state h.lent h.text is

  newest : newest_in h is ≡ length (results_on s y)
  newest = newest_is h is s y last alike

  -- the tests of either call's id
  acknowledgement_fits :
      (display id : ℕ) → (1 ≤ display) × (display ≤ s.displays) →
      (leb (last display) id && leb id (length (results_on s y)) ≡ true) ↔ ((last_in h is display ≤ id) × (id ≤ newest_in h is))
  unfolding last_in
  acknowledgement_fits display id d =
      let same : last_of ids display ≡ last display = same_last display d.0 d.1 in (
        λ q.
            let p = and_parts (leb (last display) id) _ q in
            let low : last display ≤ id = leb-true _ _ p.0 in
            let high : id ≤ length (results_on s y) = leb-true _ _ p.1 in
            (omega (arith, low, same), omega (arith, high, newest)),
        λ p.
            let low : last display ≤ id = omega (arith, p.0, same) in
            let high : id ≤ length (results_on s y) = omega (arith, p.1, newest) in
            rw (le-leb (last display) id low, le-leb id (length (results_on s y)) high),
      )

  fetch_fits :
      (from : ℕ) →
      (wanted s.displays last from && leb from (length (results_on s y) + 1) ≡ true) ↔ ((least_in h is < from) × (from ≤ suc (newest_in h is)))
  unfolding least_in
  fetch_fits from = (
    λ q.
        let p = and_parts (wanted s.displays last from) _ q in
        let high : from ≤ length (results_on s y) + 1 = leb-true _ _ p.1 in
        ((wants from).0 p.0, omega (arith, high, newest)),
    λ p.
        let high : from ≤ length (results_on s y) + 1 = omega (arith, p.1, newest) in
        rw ((wants from).1 p.0, le-leb from (length (results_on s y) + 1) high),
  )

  -- ---- each way, clause by clause

  -- what makes either call fit, and the clauses on a box
  abbrev AckFits : ℕ → ℕ → Type 0
  AckFits display id = (last_in h is display ≤ id) × (id ≤ newest_in h is)

  abbrev FetchFits : ℕ → Type 0
  FetchFits from = (least_in h is < from) × (from ≤ suc (newest_in h is))

  abbrev Acknowledges : ℕ → ℕ → List ℕ → Box → Type 0
  Acknowledges display id area b =
      Answers area (IsDisplay h display) (AckFits display id) (called b (Input.acknowledge display id area)).answer

  abbrev Fetches : ℕ → ℕ → List ℕ → Box → Type 0
  Fetches display from area b =
      Answers area (IsDisplay h display) (FetchFits from) (called b (Input.fetch display from area)).answer

  abbrev Gives : ℕ → ℕ → List ℕ → Box → Type 0
  Gives display from area b =
      let r : Called = called b (Input.fetch display from area) in
      r.answer ≡ 0 → FetchOn s y from area r

  -- the conditions of 15
  abbrev Refused : Box → List ℕ → List ℕ → Type 0
  Refused b text area =
      ((called b (Input.journal text area)).answer ≡ 15) ↔
      ((area_bytes ≤ length area) × ReadsAs b.state.clock (call_of text) × LacksPlaces s (account_of h is))

  lacking : (is_lacking s y last ≡ true) ↔ LacksPlaces s (account_of h is)
  lacking =
      subst (λ (a : Account). (is_lacking s y last ≡ true) ↔ LacksPlaces s a) (sym (opened_account h.state h.lent h.text is))
      (lacking_is s y last ids wants)

  plain_on : SentBack → SentOn s y last h.lent.sent
  unfolding called settings_in opening settings_on last_in
  plain_on t =
      record {
        store = plain_store h is s y last alike (subst (λ (b : Box). Stored h is b.lent.sent) same_box (t.store h e is));
        known = λ display low high.
            omega (arith, (t.near h e is display (low, high)).0, same_last display low high, newest);
        near = λ display low high.
            omega (arith, (t.near h e is display (low, high)).1, same_last display low high, newest);
        acknowledges = λ display id area.
            plain_answer s area display (AckFits display id) _ (acknowledgement_fits display id) _
            (subst (Acknowledges display id area) same_box (t.acknowledges h e is display id area));
        fetches = λ display from area.
            plain_answer s area display (FetchFits from) _ (λ _. fetch_fits from) _
            (subst (Fetches display from area) same_box (t.fetches h e is display from area));
        fetched = λ display from area.
            subst (Gives display from area) same_box
            (λ q.
            let p = (t.fetches h e is display from area).accepted.0 q in
            let low : 1 ≤ from = omega (arith, p.2.0) in
            plain_fetch h is s y last alike from area (called (box_after h is) (Input.fetch display from area)) low p.0
            (t.fetched h e is display from area q));
        full = λ line area.
            plain_15 (called_on y.state y.lent line area).answer (leb 2080 (length area)) (is_bare_step y.state.clock (call_of line))
            (is_lacking s y last) (area_bytes ≤ length area) (ReadsAs y.state.clock (call_of line)) (LacksPlaces s (account_of h is))
            (whole_area area) (reads_is y.state.clock (call_of line)) lacking
            (subst (λ (b : Box). Refused b line area) same_box (t.full h e is line area));
      }

  module _ (t : SentOn s y last h.lent.sent) where
    pub stated_near :
        (display : ℕ) → IsDisplay h display →
        (last_in h is display ≤ newest_in h is) × (newest_in h is ≤ last_in h is display + held_results)
    unfolding settings_in opening settings_on last_in
    stated_near display d = (
      omega (arith, t.known display d.0 d.1, same_last display d.0 d.1, newest),
      omega (arith, t.near display d.0 d.1, same_last display d.0 d.1, newest),
    )

    pub stated_acknowledges : (display id : ℕ) (area : List ℕ) → Acknowledges display id area (box_after h is)
    unfolding called settings_in opening settings_on
    stated_acknowledges display id area =
        subst (Acknowledges display id area) (sym same_box)
        (stated_answer s area display (AckFits display id) _ (acknowledgement_fits display id) _ (t.acknowledges display id area))

    pub stated_fetches : (display from : ℕ) (area : List ℕ) → Fetches display from area (box_after h is)
    unfolding called settings_in opening settings_on
    stated_fetches display from area =
        subst (Fetches display from area) (sym same_box)
        (stated_answer s area display (FetchFits from) _ (λ _. fetch_fits from) _ (t.fetches display from area))

    pub stated_fetched :
        (display from : ℕ) (area : List ℕ) →
        let r : Called = called (box_after h is) (Input.fetch display from area) in
        r.answer ≡ 0 → FetchedFrom h is from area r
    unfolding called
    stated_fetched display from area q =
        let p = (stated_fetches display from area).accepted.0 q in
        let low : 1 ≤ from = omega (arith, p.2.0) in
        stated_fetch h is s y last alike from area (called (box_after h is) (Input.fetch display from area)) low p.0
        (subst (Gives display from area) (sym same_box) (t.fetched display from area) q)

    pub stated_full : (text area : List ℕ) → Refused (box_after h is) text area
    unfolding called
    stated_full text area =
        subst (λ (b : Box). Refused b text area) (sym same_box)
        (stated_15 (called_on y.state y.lent text area).answer (leb 2080 (length area)) (is_bare_step y.state.clock (call_of text))
        (is_lacking s y last) (area_bytes ≤ length area) (ReadsAs y.state.clock (call_of text)) (LacksPlaces s (account_of h is))
        (whole_area area) (reads_is y.state.clock (call_of text)) lacking (t.full text area))

    pub stated_stored : Stored h is (box_after h is).lent.sent
    stated_stored =
        subst (λ (b : Box). Stored h is b.lent.sent) (sym same_box) (stated_store h is s y last alike t.store)

  pub table : PlainSentBack → SentOn s y last h.lent.sent
  unfolding is_opened opening
  table p = p.opened h.state h.lent h.text e is

pub plain_sent_back : SentBack → PlainSentBack
unfolding is_opened opening called left
plain_sent_back t =
    record {
      opened = λ st x text e is. plain_on (handed_of st x text) e is t;
      quiet = λ st x display id area.
          let q = t.quiet (box_in st x) display id area in
          record {
            records = q.records;
            bytes = q.bytes;
            readings = q.readings;
            operator = ap (λ (z : Held). z.operator) q.state;
            checkpoint = ap (λ (z : Held). z.checkpoint) q.state;
            heads = ap (λ (z : Held). z.heads) q.state;
            settings = ap (λ (z : Held). z.settings) q.state;
            clock = ap (λ (z : Held). z.clock) q.state;
            c = ap (λ (z : Held). z.c) q.state;
            p = ap (λ (z : Held). z.p) q.state;
            phase = ap (λ (z : Held). z.phase) q.state;
          };
      still = λ st x display from area.
          let q = t.still (box_in st x) display from area in
          (ap (λ (b : Box). b.state) q, ap (λ (b : Box). b.lent) q);
    }
