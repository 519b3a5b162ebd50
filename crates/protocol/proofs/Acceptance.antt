-- Whatever meets none of the refusals is accepted, kind by kind; what an accepted one leaves, and that a refused one changes nothing.
use Prim.Native.Nat.{ℕ, ◌+◌, ◌-◌, ◌≤◌, ◌<◌}
use mathlib.Core.Path.{◌≡◌, refl, sym, ◌∙◌, ap}
use mathlib.Core.Bool.{true, false, not, ◌&&◌, true≢false}
use mathlib.Core.List.{[], ◌∷◌, ◌++◌}
use mathlib.Core.Logic.{◌↔◌}
use native.Mathlib.Omega.{arith}
use lib.Dec.{leb, ltb, eqb}
use lib.IntN.{pos}
use lib.ListN.{length, get_or}
use borrow.Author.Tests.{ltb-true, ltb-false, leb-false, eqb-true, not-false}
use borrow.Author.Tests.{lt-ltb, le-ltb, lt-leb, eq-eqb, ne_eqb}
use Rattle.settings.specs.declared.Settings.{Settings}
use Rattle.journal.specs.declared.Call.{Call}
use Rattle.store.specs.Lists.{keep, some_of, modify}
use Rattle.protocol.specs.Kinds.{Kind, kind_of, uses, is_step}
use Rattle.protocol.specs.Node.{Node, no_line, keeps_tentative, reading_of, on_line}
use Rattle.protocol.specs.Tests.{first_failed}
use Rattle.protocol.specs.Refusals.{named_line, wrong_line, is_zero, unused_field, wrong_meter, wrong_id, too_early, is_held_back, is_full}
use Rattle.protocol.specs.Refusals.{call_tests, line_tests, step_tests, tests_of, answer_to}
use Rattle.protocol.specs.Rules.{Outcome, rule_of}
use Rattle.protocol.specs.Displays.{lacks_places}
use Rattle.protocol.specs.Calls.{input, done, accepted, outcome_of}
use Rattle.protocol.proofs.FirstFailed.{fails_with, tests_before, FirstWith, passes_with, first_with}
use Rattle.protocol.proofs.Passed.{tests_numbered, passed_as}
use Rattle.protocol.proofs.ByKind.{refusals_of, tests_by_kind, kind_numbered, answer_by_kind}
use Rattle.protocol.proofs.Faults.{get_d_modify, between, line_iff, three_iff, four_iff, full_256}

-- the call is not before the clock, and its line is there
pub record Reaches (s : Settings) (n : Node) (k : Call) : Type 0 where
  pub on_time : n.clock.0 ≤ k.now.0
  pub first_line : 1 ≤ k.line
  pub last_line : k.line ≤ s.lines

-- what a reading of either kind has to meet
pub record ReadingFits (s : Settings) (n : Node) (k : Call) : Type 0 where
  pub reaches : Reaches s n k
  pub of_meter : k.meter < 64
  pub next_id : k.id ≡ (named_line n k).last_id + 1
  pub not_early : (named_line n k).boundary.0 ≤ k.time.0
  pub has_place : length (named_line n k).kept < 256

pub record BoundaryFits (s : Settings) (n : Node) (k : Call) : Type 0 where
  pub reaches : Reaches s n k
  pub not_early : (named_line n k).boundary.0 ≤ k.time.0
  pub no_tentative : keeps_tentative (named_line n k) ≡ false
  pub no_id : k.id ≡ 0
  pub no_meter : k.meter ≡ 0
  pub no_value : k.value ≡ pos 0

pub record UndoFits (s : Settings) (n : Node) (k : Call) : Type 0 where
  pub reaches : Reaches s n k
  pub not_stable : (named_line n k).last_stable_id ≤ k.id
  pub not_ahead : k.id ≤ (named_line n k).last_id
  pub no_time : k.time.0 ≡ 0
  pub no_meter : k.meter ≡ 0
  pub no_value : k.value ≡ pos 0

-- a call with none of the fields id, time, meter and value
pub record Bare (k : Call) : Type 0 where
  pub no_id : k.id ≡ 0
  pub no_time : k.time.0 ≡ 0
  pub no_meter : k.meter ≡ 0
  pub no_value : k.value ≡ pos 0

module _ (s : Settings) (n : Node) (k : Call) where
  -- the answer is a refusal's number exactly if its test is the first one that fails
  pub refused_iff : (m : ℕ) → 0 < m → (answer_to s n k ≡ m) ↔ FirstWith m (tests_of s n k (kind_of k.kind))
  unfolding answer_to
  refused_iff m some = first_with m (tests_of s n k (kind_of k.kind)) some (tests_numbered s n k (kind_of k.kind))

  -- 7: exactly the calls before the clock
  pub refused_7 : (answer_to s n k ≡ 7) ↔ (k.now.0 < n.clock.0)
  unfolding tests_of call_tests fails_with tests_before
  refused_7 = (
    λ e. ltb-true _ _ ((refused_iff 7 (omega arith)).0 e).fails,
    λ h. (refused_iff 7 (omega arith)).1 (record { fails = lt-ltb _ _ h; before = tt }),
  )

  -- 14: only where 256 readings are kept
  pub refused_14 : answer_to s n k ≡ 14 → 256 ≤ length (named_line n k).kept
  unfolding tests_of call_tests line_tests fails_with
  refused_14 e = full_256 (named_line n k) (kind_of k.kind) ((refused_iff 14 (omega arith)).0 e).fails

  reaches_iff : ((ltb k.now.0 n.clock.0 ≡ false) × (not (leb 1 k.line && leb k.line s.lines) ≡ false)) ↔ Reaches s n k
  reaches_iff = (
    λ f. let g = (line_iff s k.line).0 f.1 in record { on_time = ltb-false _ _ f.0; first_line = g.0; last_line = g.1 },
    λ r. (le-ltb _ _ r.on_time, (line_iff s k.line).1 (r.first_line, r.last_line)),
  )

  -- the tests that only readings meet: meter, id, time and place
  reading_iff :
      (Reaches s n k × (leb 64 k.meter ≡ false) × (not (eqb k.id ((named_line n k).last_id + 1)) ≡ false) ×
      (ltb k.time.0 (named_line n k).boundary.0 ≡ false) × (leb 256 (length (named_line n k).kept) ≡ false)) ↔
      ReadingFits s n k
  reading_iff = (
    λ f.
        record {
          reaches = f.0;
          of_meter = leb-false 64 k.meter f.1;
          next_id = eqb-true _ _ (not-false _ f.2);
          not_early = ltb-false _ _ f.3;
          has_place = leb-false 256 (length (named_line n k).kept) f.4;
        },
    λ r. (
      r.reaches,
      lt-leb 64 k.meter r.of_meter,
      ap not (eq-eqb _ _ r.next_id),
      le-ltb _ _ r.not_early,
      lt-leb 256 (length (named_line n k).kept) r.has_place,
    ),
  )

  bare_iff : (not (eqb k.id 0 && (eqb k.time.0 0 && (eqb k.meter 0 && is_zero k.value))) ≡ false) ↔ Bare k
  bare_iff = (
    λ f.
        let g = (four_iff k.id k.time.0 k.meter k.value).0 (not-false _ f) in
        record { no_id = g.0; no_time = g.1.0; no_meter = g.1.1.0; no_value = g.1.1.1 },
    λ r. ap not ((four_iff k.id k.time.0 k.meter k.value).1 (r.no_id, (r.no_time, (r.no_meter, r.no_value)))),
  )

  pub accepts_S : kind_of k.kind ≡ Kind.S → (answer_to s n k ≡ 0) ↔ (ReadingFits s n k × (keeps_tentative (named_line n k) ≡ false))
  unfolding tests_by_kind refusals_of keep some_of tests_of call_tests line_tests step_tests first_failed wrong_line is_step uses wrong_meter wrong_id too_early is_held_back is_full
  accepts_S e = (
    λ a.
        let f = passed_as s n k Kind.S e a in
        (reading_iff.0 (reaches_iff.0 (f.on_time, f.line), f.meter, f.id, f.time, f.room), f.free),
    λ r.
        let a = reaches_iff.1 r.0.reaches in
        let g = reading_iff.1 r.0 in
        answer_by_kind s n k Kind.S e ∙ rw (a.0, a.1, g.1, g.2, g.3, r.1, g.4),
  )

  pub accepts_T : kind_of k.kind ≡ Kind.T → (answer_to s n k ≡ 0) ↔ ReadingFits s n k
  unfolding tests_by_kind refusals_of keep some_of tests_of call_tests line_tests step_tests first_failed wrong_line is_step uses wrong_meter wrong_id too_early is_full
  accepts_T e = (
    λ a. let f = passed_as s n k Kind.T e a in reading_iff.0 (reaches_iff.0 (f.on_time, f.line), f.meter, f.id, f.time, f.room),
    λ r.
        let a = reaches_iff.1 r.reaches in
        let g = reading_iff.1 r in
        answer_by_kind s n k Kind.T e ∙ rw (a.0, a.1, g.1, g.2, g.3, g.4),
  )

  pub accepts_B : kind_of k.kind ≡ Kind.B → (answer_to s n k ≡ 0) ↔ BoundaryFits s n k
  unfolding tests_by_kind refusals_of keep some_of tests_of call_tests line_tests step_tests first_failed wrong_line is_step uses unused_field too_early is_held_back
  accepts_B e = (
    λ a.
        let f = passed_as s n k Kind.B e a in
        let g = (three_iff k.id k.meter k.value).0 (not-false _ f.fields) in
        record {
          reaches = reaches_iff.0 (f.on_time, f.line);
          not_early = ltb-false _ _ f.time;
          no_tentative = f.free;
          no_id = g.0;
          no_meter = g.1.0;
          no_value = g.1.1;
        },
    λ r.
        let a = reaches_iff.1 r.reaches in
        let g = ap not ((three_iff k.id k.meter k.value).1 (r.no_id, (r.no_meter, r.no_value))) in
        answer_by_kind s n k Kind.B e ∙ rw (a.0, a.1, g, le-ltb _ _ r.not_early, r.no_tentative),
  )

  pub accepts_U : kind_of k.kind ≡ Kind.U → (answer_to s n k ≡ 0) ↔ UndoFits s n k
  unfolding tests_by_kind refusals_of keep some_of tests_of call_tests line_tests step_tests first_failed wrong_line is_step uses unused_field wrong_id
  accepts_U e = (
    λ a.
        let f = passed_as s n k Kind.U e a in
        let g = (three_iff k.time.0 k.meter k.value).0 (not-false _ f.fields) in
        let i = (between (named_line n k).last_stable_id k.id (named_line n k).last_id).0 (not-false _ f.id) in
        record {
          reaches = reaches_iff.0 (f.on_time, f.line);
          not_stable = i.0;
          not_ahead = i.1;
          no_time = g.0;
          no_meter = g.1.0;
          no_value = g.1.1;
        },
    λ r.
        let a = reaches_iff.1 r.reaches in
        let g = ap not ((three_iff k.time.0 k.meter k.value).1 (r.no_time, (r.no_meter, r.no_value))) in
        let i = ap not ((between (named_line n k).last_stable_id k.id (named_line n k).last_id).1 (r.not_stable, r.not_ahead)) in
        answer_by_kind s n k Kind.U e ∙ rw (a.0, a.1, g, i),
  )

  pub accepts_R : kind_of k.kind ≡ Kind.R → (answer_to s n k ≡ 0) ↔ (Reaches s n k × Bare k × (keeps_tentative (named_line n k) ≡ false))
  unfolding tests_by_kind refusals_of keep some_of tests_of call_tests line_tests step_tests first_failed wrong_line is_step uses unused_field is_held_back
  accepts_R e = (
    λ a. let f = passed_as s n k Kind.R e a in (reaches_iff.0 (f.on_time, f.line), bare_iff.0 f.fields, f.free),
    λ r.
        let a = reaches_iff.1 r.0 in
        answer_by_kind s n k Kind.R e ∙ rw (a.0, a.1, bare_iff.1 r.1, r.2),
  )

  -- nothing stands in a step but its `now`, which is not before the clock
  pub record StepFits : Type 0 where
    pub on_time : n.clock.0 ≤ k.now.0
    pub no_line : k.line ≡ 0
    pub bare : Bare k

  -- the tests of a step but for its places
  step_iff :
      ((ltb k.now.0 n.clock.0 ≡ false) × (not (eqb k.line 0) ≡ false) ×
      (not (eqb k.id 0 && (eqb k.time.0 0 && (eqb k.meter 0 && is_zero k.value))) ≡ false)) ↔
      StepFits
  step_iff = (
    λ f. record { on_time = ltb-false _ _ f.0; no_line = eqb-true _ _ (not-false _ f.1); bare = bare_iff.0 f.2 },
    λ r. (le-ltb _ _ r.on_time, ap not (eq-eqb k.line 0 r.no_line), bare_iff.1 r.bare),
  )

  pub accepts_P :
      kind_of k.kind ≡ Kind.P →
      (answer_to s n k ≡ 0) ↔ (StepFits × (lacks_places s n (rule_of s n k.now) ≡ false))
  unfolding tests_by_kind refusals_of keep some_of tests_of call_tests line_tests step_tests first_failed wrong_line is_step uses unused_field
  accepts_P e = (
    λ a. let f = passed_as s n k Kind.P e a in (step_iff.0 (f.on_time, f.line, f.fields), f.places),
    λ r.
        let g = step_iff.1 r.0 in
        answer_by_kind s n k Kind.P e ∙ rw (g.0, g.1, g.2, r.1),
  )

  first_15 :
      (kind : Kind) → FirstWith 15 (tests_by_kind s n k kind) →
      (kind ≡ Kind.P) × StepFits × (lacks_places s n (rule_of s n k.now) ≡ true)
  unfolding tests_by_kind refusals_of keep some_of tests_of call_tests line_tests step_tests fails_with tests_before wrong_line is_step uses unused_field
  first_15 Kind.S f = absurd (true≢false (sym f.fails))
  first_15 Kind.T f = absurd (true≢false (sym f.fails))
  first_15 Kind.B f = absurd (true≢false (sym f.fails))
  first_15 Kind.U f = absurd (true≢false (sym f.fails))
  first_15 Kind.R f = absurd (true≢false (sym f.fails))
  first_15 Kind.P f =
      let g = passes_with (tests_before 15 (tests_by_kind s n k Kind.P)) f.before in
      (refl, step_iff.0 (g 7, g 8, g 9), f.fails)

  -- 15: exactly the steps that pass everything else and lack places
  pub refused_15 : (answer_to s n k ≡ 15) ↔ ((kind_of k.kind ≡ Kind.P) × StepFits × (lacks_places s n (rule_of s n k.now) ≡ true))
  unfolding tests_by_kind refusals_of keep some_of tests_of call_tests line_tests step_tests first_failed wrong_line is_step uses unused_field
  refused_15 = (
    λ e.
        let kind = kind_of k.kind in
        let answered : first_failed (tests_by_kind s n k kind) ≡ 15 = sym (answer_by_kind s n k kind refl) ∙ e in
        first_15 kind ((first_with 15 (tests_by_kind s n k kind) (omega arith) (kind_numbered s n k kind)).0 answered),
    λ r.
        let g = step_iff.1 r.1 in
        answer_by_kind s n k Kind.P r.0 ∙ rw (g.0, g.1, g.2, r.2),
  )

  -- a refused call changes nothing and gives no record
  pub refused_changes_nothing : (answer_to s n k ≡ 0 → ⊥) → outcome_of s n k ≡ record { node = n; records = [] }
  unfolding outcome_of
  refused_changes_nothing h = rw (ne_eqb (answer_to s n k) 0 h)

  pub accepted_is_done : answer_to s n k ≡ 0 → outcome_of s n k ≡ accepted k.now (done s n k (kind_of k.kind))
  unfolding outcome_of
  accepted_is_done h = rw (eq-eqb (answer_to s n k) 0 h)

  pub accepted_sets_clock : answer_to s n k ≡ 0 → (outcome_of s n k).node.clock ≡ k.now
  unfolding accepted
  accepted_sets_clock h = ap (λ (o : Outcome). o.node.clock) (accepted_is_done h)

  -- an accepted input changes its own line and no other
  input_changes_line :
      (kind : Kind) → kind_of k.kind ≡ kind → done s n k kind ≡ input n k kind → answer_to s n k ≡ 0 →
      (outcome_of s n k).node.lines ≡ modify (on_line k kind) (k.line - 1) n.lines
  unfolding accepted input
  input_changes_line kind e d h = ap (λ (o : Outcome). o.node.lines) (accepted_is_done h) ∙ rw (e, d)

  kept_behind :
      (kind : Kind) → (outcome_of s n k).node.lines ≡ modify (on_line k kind) (k.line - 1) n.lines →
      (on_line k kind (named_line n k)).kept ≡ (named_line n k).kept ++ reading_of k ∷ [] → length n.lines ≡ s.lines → Reaches s n k →
      (get_or (outcome_of s n k).node.lines (k.line - 1) no_line).kept ≡ (named_line n k).kept ++ reading_of k ∷ []
  unfolding named_line
  kept_behind kind e q l r =
      rw (e, get_d_modify (on_line k kind) n.lines (k.line - 1) no_line (omega (arith, r.first_line, r.last_line))) q

  -- an accepted reading stands behind those that its line kept
  pub accepted_S_kept :
      kind_of k.kind ≡ Kind.S → length n.lines ≡ s.lines → answer_to s n k ≡ 0 →
      (get_or (outcome_of s n k).node.lines (k.line - 1) no_line).kept ≡ (named_line n k).kept ++ reading_of k ∷ []
  unfolding done is_step uses on_line
  accepted_S_kept e l h = kept_behind Kind.S (input_changes_line Kind.S e refl h) refl l ((accepts_S e).0 h).0.reaches

  pub accepted_T_kept :
      kind_of k.kind ≡ Kind.T → length n.lines ≡ s.lines → answer_to s n k ≡ 0 →
      (get_or (outcome_of s n k).node.lines (k.line - 1) no_line).kept ≡ (named_line n k).kept ++ reading_of k ∷ []
  unfolding done is_step uses on_line
  accepted_T_kept e l h = kept_behind Kind.T (input_changes_line Kind.T e refl h) refl l ((accepts_T e).0 h).reaches
