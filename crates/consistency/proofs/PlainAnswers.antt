-- The answers to a display's call, and 15 to a step, as conditions and as tests in their order.
use Prim.Native.Nat.{ℕ, suc, ◌+◌, ◌-◌, ◌/◌, ◌≤◌, ◌<◌}
use mathlib.Core.Path.{◌≡◌, refl, sym, ◌∙◌, ap, subst}
use mathlib.Core.Bool.{Bool, true, false, cond, not, ◌&&◌, ◌||◌, true≢false, false≢true}
use mathlib.Core.List.{List}
use mathlib.Core.Logic.{◌↔◌}
use native.Mathlib.Omega.{arith}
use borrow.Author.Tests.{eqb-true, eqb-false, leb-true, ltb-true, ltb-false, lt-ltb, le-ltb, le-leb, eq-eqb, ne_eqb, not-false}
use lib.Dec.{leb, ltb, eqb}
use lib.ListN.{length}
use Rattle.std.specs.Prelude.{Option, Some, None}
use Rattle.clock.specs.declared.ArrivalTick.{ArrivalTick}
use Rattle.settings.specs.declared.Settings.{Settings}
use Rattle.journal.specs.declared.Call.{Call}
use Rattle.store.proofs.Choices.{and_parts}
use Rattle.protocol.specs.Kinds.{Kind, kind_of}
use Rattle.protocol.specs.Displays.{least_of}
use Rattle.protocol.specs.Monitor.{least_boundary, stable_buckets}
use Rattle.protocol.specs.FailureFree.{failure_free}
use Rattle.protocol.proofs.Tests.{both_ways}
use Rattle.protocol.proofs.Faults.{four_iff}
use Rattle.protocol.proofs.Displays.{neither}
use Rattle.node.specs.Sizes.{area_bytes}
use Rattle.consistency.specs.Plain.{Run, is_p, left_on}
use Rattle.consistency.proofs.SentAnswers.{by_tests}
use Rattle.consistency.proofs.Plain.{account_on}
use Rattle.consistency.specs.PlainSentBack.{wanted, next_results, answer_if, is_bare_step, is_lacking}
use Rattle.consistency.specs.SentBack.{Answers}
use Rattle.consistency.specs.SentBack.{IsStep, LacksPlaces}

-- ---- answers

-- the tests of a display's number
no_display_lem : (s : Settings) (display : ℕ) → (eqb display 0 || ltb s.displays display ≡ false) ↔ ((1 ≤ display) × (display ≤ s.displays))
no_display_lem s display = (
  λ e.
      let p = neither (eqb display 0) (ltb s.displays display) e in
      let some : display ≡ 0 → ⊥ = eqb-false _ _ p.0 in
      let high : display ≤ s.displays = ltb-false _ _ p.1 in
      (omega (arith, some), high),
  λ p.
      let some : display ≡ 0 → ⊥ = λ e. omega (arith, p.0) in
      rw (ne_eqb display 0 some, le-ltb s.displays display p.1),
)

abbrev Named : Settings → ℕ → Type 0
Named s display = (1 ≤ display) × (display ≤ s.displays)

module _ (s : Settings) (area : List ℕ) (display : ℕ) (fits : Type 0) (f : Bool) (is : Named s display → (f ≡ true) ↔ fits) where
  refused_if : (b : Bool) → ◌≡◌ {A = ℕ} (cond (not b) 17 0) (cond b 0 17)
  refused_if true = refl
  refused_if false = refl

  unless : (Named s display) → (not f ≡ false) ↔ fits
  unless d = (λ e. (is d).0 (not-false _ e), λ p. ap not ((is d).1 p))

  pub stated_answer : (answer : ℕ) → answer ≡ answer_if s area display f → Answers area (Named s display) fits answer
  unfolding answer_if
  stated_answer answer e =
      let a = ltb (length area) area_bytes in
      let w = eqb display 0 || ltb s.displays display in
      subst (Answers area (Named s display) fits) (ap (λ (n : ℕ). cond a 5 (cond w 16 n)) (refused_if f) ∙ sym e)
      (by_tests area (Named s display) fits a w (not f) refl (no_display_lem s display) unless)

  named_answer :
      (answer : ℕ) → area_bytes ≤ length area → Answers area (Named s display) fits answer → (w b : Bool) →
      eqb display 0 || ltb s.displays display ≡ w → f ≡ b → answer ≡ cond w 16 (cond b 0 17)
  named_answer answer room t true b e q = t.no_display.1 (room, λ p. true≢false (sym e ∙ (no_display_lem s display).1 p))
  named_answer answer room t false true e q = t.accepted.1 (room, (no_display_lem s display).0 e, (is ((no_display_lem s display).0 e)).0 q)
  named_answer answer room t false false e q =
      let d = (no_display_lem s display).0 e in
      t.wrong_id.1 (room, d, λ p. true≢false (sym ((is d).1 p) ∙ q))

  pub plain_answer : (answer : ℕ) → Answers area (Named s display) fits answer → answer ≡ answer_if s area display f
  unfolding answer_if
  plain_answer answer t =
      (elim (ltb (length area) 2080) as
      (λ b. ltb (length area) 2080 ≡ b → answer ≡ cond b 5 (cond (eqb display 0 || ltb s.displays display) 16 (cond f 0 17))) [
        | true ↦ λ e. t.short.1 (ltb-true _ _ e)
        | false ↦ λ e. named_answer answer (ltb-false _ _ e) t (eqb display 0 || ltb s.displays display) f refl refl
      ])
      refl

-- ---- want of places

step_is : (kind : Kind) → (is_p kind ≡ true) ↔ (kind ≡ Kind.P)
unfolding is_p
step_is kind = (only kind, λ e. rw e)
  where
    only : (κ : Kind) → is_p κ ≡ true → κ ≡ Kind.P
    only Kind.S e = absurd (false≢true e)
    only Kind.T e = absurd (false≢true e)
    only Kind.B e = absurd (false≢true e)
    only Kind.U e = absurd (false≢true e)
    only Kind.R e = absurd (false≢true e)
    only Kind.P e = refl

bare_is : (clock : ArrivalTick) (k : Call) → (is_bare_step clock (Some k) ≡ true) ↔ IsStep clock k
unfolding is_bare_step
bare_is clock k = (
  λ e.
      let p = and_parts (is_p (kind_of k.kind) && leb clock.0 k.now.0) _ e in
      let q = and_parts (is_p (kind_of k.kind)) _ p.0 in
      let r = and_parts (eqb k.line 0) _ p.1 in
      let f = (four_iff k.id k.time.0 k.meter k.value).0 r.1 in
      record {
        kind = (step_is (kind_of k.kind)).0 q.0;
        on_time = leb-true _ _ q.1;
        no_line = eqb-true _ _ r.0;
        no_id = f.0;
        no_time = f.1.0;
        no_meter = f.1.1.0;
        no_value = f.1.1.1;
      },
  λ p.
      rw (
        (step_is (kind_of k.kind)).1 p.kind,
        le-leb clock.0 k.now.0 p.on_time,
        eq-eqb k.line 0 p.no_line,
        (four_iff k.id k.time.0 k.meter k.value).1 (p.no_id, (p.no_time, (p.no_meter, p.no_value))),
      ),
)

-- a text that is read as such a step
abbrev pub ReadsAs : ArrivalTick → Option Call → Type 0
ReadsAs clock read = (k : Call) × (read ≡ Some k) × IsStep clock k

malformed : (clock : ArrivalTick) → is_bare_step clock None ≡ false
unfolding is_bare_step
malformed clock = refl

pub reads_is : (clock : ArrivalTick) (read : Option Call) → (is_bare_step clock read ≡ true) ↔ ReadsAs clock read
reads_is clock (Some k) = (
  λ e. (k, refl, (bare_is clock k).0 e),
  λ p. ap (is_bare_step clock) p.1 ∙ (bare_is clock p.0).1 p.2,
)
reads_is clock None = (
  λ e. absurd (false≢true (sym (malformed clock) ∙ e)),
  λ p. ap (is_bare_step clock) p.1 ∙ (bare_is clock p.0).1 p.2,
)

-- a stable bucket is next, and its results would not all find a place
pub lacking_is :
    (s : Settings) (y : Run) (last : ℕ → ℕ) (ids : List ℕ) → ((n : ℕ) → (wanted s.displays last n ≡ true) ↔ (least_of ids < n)) →
    (is_lacking s y last ≡ true) ↔ LacksPlaces s (account_on y ids)
unfolding is_lacking left_on stable_buckets next_results
lacking_is s y last ids wants =
    let d = y.monitor.d in
    let one : d + 1 ≡ suc d = omega arith in
    let same : length (failure_free s y.stables (d + 1)).records ≡ length (failure_free s y.stables (suc d)).records =
    ap (λ (n : ℕ). length (failure_free s y.stables n).records) one in
    let n = length (failure_free s y.stables (d + 1)).records - 512 in (
      λ e.
          let p = and_parts (ltb 0 (least_boundary y.monitor.lines / s.bucket - d) && eqb y.monitor.t d) _ e in
          let q = and_parts (ltb 0 (least_boundary y.monitor.lines / s.bucket - d)) _ p.0 in
          let some : 0 < least_boundary y.monitor.lines / s.bucket - d = ltb-true _ _ q.0 in
          record { stable = omega (arith, some); level = eqb-true _ _ q.1; many = omega (arith, (wants n).0 p.1, same) },
      λ p.
          let some : 0 < least_boundary y.monitor.lines / s.bucket - d = omega (arith, p.stable) in
          rw (
            lt-ltb 0 (least_boundary y.monitor.lines / s.bucket - d) some,
            eq-eqb y.monitor.t d p.level,
            (wants n).1 (omega (arith, p.many, same)),
          ),
    )

-- one test for three conditions
module _ (answer : ℕ) (a b c : Bool) (A B C : Type 0) (is_a : (a ≡ true) ↔ A) (is_b : (b ≡ true) ↔ B) (is_c : (c ≡ true) ↔ C) where
  all_three : A × B × C → a && (b && c) ≡ true
  all_three p = rw (is_a.1 p.0, is_b.1 p.1, is_c.1 p.2)

  three_all : a && (b && c) ≡ true → A × B × C
  three_all e =
      let p = and_parts a (b && c) e in
      let q = and_parts b c p.1 in
      (is_a.0 p.0, is_b.0 q.0, is_c.0 q.1)

  pub plain_15 : (answer ≡ 15) ↔ (A × B × C) → eqb answer 15 ≡ (a && (b && c))
  plain_15 t =
      both_ways (eqb answer 15) (a && (b && c)) (λ e. all_three (t.0 (eqb-true _ _ e))) (λ e. eq-eqb _ _ (t.1 (three_all e)))

  pub stated_15 : eqb answer 15 ≡ (a && (b && c)) → (answer ≡ 15) ↔ (A × B × C)
  stated_15 t = (λ e. three_all (sym t ∙ eq-eqb _ _ e), λ p. eqb-true _ _ (t ∙ all_three p))

pub whole_area : (area : List ℕ) → (leb 2080 (length area) ≡ true) ↔ (area_bytes ≤ length area)
whole_area area = (λ e. leb-true _ _ e, λ l. le-leb _ _ l)
