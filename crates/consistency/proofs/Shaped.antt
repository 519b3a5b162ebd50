-- The node in shape, as the opening leaves it and as every call keeps it that was read and is accepted: by the kind of an input for its line, by the
-- rule of a step for c, p, the phase, the numbers and the meters.
use Prim.Native.Nat.{ℕ, suc, ◌*◌, ◌≤◌}
use mathlib.Core.Path.{◌≡◌, refl, sym, ◌∙◌, ap, subst}
use mathlib.Core.Bool.{true, false, cond, true≢false}
use mathlib.Core.List.{[]}
use native.Mathlib.Omega.{arith}
use native.Mathlib.Nat.{le_refl}
use borrow.Author.Tests.{ltb-false, eqb-true}
use lib.Dec.{eqb, ltb}
use lib.ListN.{length, length-replicate}
use Rattle.clock.specs.declared.ArrivalTick.{ArrivalTick}
use Rattle.settings.specs.declared.Settings.{Settings}
use Rattle.settings.specs.Limits.{within_limits}
use Rattle.journal.specs.declared.Call.{Call}
use Rattle.journal.specs.JournalLine.{CallFits}
use Rattle.journal.specs.Kinds.{letter_s, letter_t}
use Rattle.store.specs.Lists.{Every}
use Rattle.store.specs.Order.{in_bucket}
use Rattle.operator.specs.Meters.{Operator, meter_count, fresh}
use Rattle.operator_meter.specs.Values.{no_meter}
use Rattle.protocol.specs.declared.Phase.{Phase}
use Rattle.protocol.specs.Kinds.{Kind, kind_of, uses, is_step}
use Rattle.protocol.specs.Node.{Line, Node, no_line, opened, is_stable_bucket, kept_of}
use Rattle.protocol.specs.declared.Rule.{Rule}
use Rattle.protocol.specs.Rules.{is_correcting, some_overdue, rule_of, worked, act}
use Rattle.protocol.specs.Refusals.{answer_to}
use Rattle.store.specs.Sizes.{readings_per_line}
use Rattle.protocol.specs.Calls.{input, done, accepted, outcome_of}
use Rattle.protocol.proofs.Rules.{rule_cases}
use Rattle.node.specs.Sizes.{results_per_bucket, last_bucket}
use Rattle.node.proofs.Lists.{every_replicate}
use Rattle.node.proofs.Limits.{Limits, limits_hold}
use Rattle.node.proofs.Shape.{PhaseShape}
use Rattle.node.proofs.Outcomes.{outcome_lines, outcome_kept}
use Rattle.operator_meter.proofs.Bounds.{Counted, no_counted}
use Rattle.node.proofs.Fits.{NodeFits, opened_fits, values_fit, outcome_fits}
use Rattle.node.proofs.Times.{stable_end_fits, due_start_fits}
use Rattle.node.proofs.Records.{few_readings}
use Rattle.consistency.proofs.ShapedLines.{LineShaped, no_line_shaped, lines_shaped, all_without_shaped}
use Rattle.consistency.proofs.ShapedWork.{CountedAt, work_counted, work_few, work_onwards, stable_top, tentative_top}

-- c, p, the phase and the two operators
pub record WorkShaped (s : Settings) (c p : ℕ) (word : Phase) (newest stable : Operator) : Type 0 where
  pub order : c ≤ p
  pub top : p ≤ last_bucket
  pub phase : PhaseShape c p word
  pub stable_number : stable.number ≤ results_per_bucket * c
  pub newest_number : newest.number ≤ results_per_bucket * p
  pub numbers : stable.number ≤ newest.number
  pub level : p ≡ c → newest ≡ stable
  pub operator : CountedAt s p newest.meters
  pub checkpoint : CountedAt s c stable.meters

abbrev pub WorkOf : Settings → Node → Type 0
WorkOf s n = WorkShaped s n.c n.p n.phase n.operator n.checkpoint

pub record Shaped (s : Settings) (n : Node) : Type 0 where
  pub limits : within_limits s ≡ true
  pub fits : NodeFits n
  pub count : length n.lines ≡ s.lines
  pub short : Every (λ (l : Line). length l.kept ≤ readings_per_line) n.lines
  pub lines : Every LineShaped n.lines
  pub work : WorkOf s n

-- ---- at the opening

pub opened_shaped : (s : Settings) → within_limits s ≡ true → Shaped s (opened s)
unfolding opened fresh no_line
opened_shaped s limits =
    record {
      limits = limits;
      fits = opened_fits s;
      count = length-replicate s.lines no_line;
      short = every_replicate (λ (l : Line). length l.kept ≤ readings_per_line) s.lines no_line (omega arith);
      lines = every_replicate LineShaped s.lines no_line no_line_shaped;
      work =
          record {
            order = le_refl 0;
            top = omega arith;
            phase = refl;
            stable_number = omega arith;
            newest_number = omega arith;
            numbers = le_refl 0;
            level = λ _. refl;
            operator = every_replicate (Counted _) meter_count no_meter (no_counted _);
            checkpoint = every_replicate (Counted _) meter_count no_meter (no_counted _);
          };
    }

-- ---- a step

-- the phase stays where c and p go on together
phase_onwards : (c p : ℕ) (phase : Phase) → p ≡ c → PhaseShape c p phase → PhaseShape (suc c) (suc p) phase
phase_onwards c p Phase.Stable e h = ap suc h
phase_onwards c p Phase.Failure e h = absurd (omega arith)
phase_onwards c p Phase.Correcting e h = ap suc h

-- no tentative work is out in a correction
corrected : (c p : ℕ) (phase : Phase) → is_correcting phase ≡ true → PhaseShape c p phase → p ≡ c
unfolding is_correcting
corrected c p Phase.Stable e h = absurd (true≢false (sym e))
corrected c p Phase.Failure e h = absurd (true≢false (sym e))
corrected c p Phase.Correcting e h = h

module _ (s : Settings) (n : Node) (v : Shaped s n) where
  limits : Limits s
  limits = limits_hold s v.limits

  withdraw_work : WorkOf s (act s n Rule.Withdraw).node
  unfolding act
  withdraw_work =
      let w = v.work in
      record {
        order = le_refl _;
        top = omega (arith, w.order, w.top);
        phase = refl;
        stable_number = w.stable_number;
        newest_number = w.stable_number;
        numbers = le_refl _;
        level = λ _. refl;
        operator = w.checkpoint;
        checkpoint = w.checkpoint;
      }

  -- bucket j worked by the node's operator
  worked_counted : (kind j : ℕ) → CountedAt s j n.operator.meters → CountedAt s (suc j) (worked s kind j n).operator.meters
  unfolding worked
  worked_counted kind j h =
      work_counted s kind j (in_bucket s.bucket j (kept_of n.lines)) n.operator limits.some_window
      (values_fit s.bucket j n.lines v.fits.lines) (few_readings s n.lines v.limits v.count v.short j) h

  worked_number :
      (kind j : ℕ) →
      (n.operator.number ≤ (worked s kind j n).operator.number) × ((worked s kind j n).operator.number ≤ results_per_bucket * suc n.p)
  unfolding worked
  worked_number kind j =
      let rs = in_bucket s.bucket j (kept_of n.lines) in
      (work_onwards s kind j rs n.operator, omega (arith, work_few s kind j rs n.operator v.fits.operator, v.work.newest_number))

  stable_work : is_stable_bucket s n.c n.lines ≡ true → n.p ≡ n.c → WorkOf s (act s n Rule.WorkStable).node
  unfolding act
  stable_work e q =
      let w = v.work in
      let end = stable_end_fits s n.c n.lines (omega (arith, v.count, limits.some_lines)) v.fits.lines e in
      let counted = worked_counted letter_s n.c (subst (λ (j : ℕ). CountedAt s j n.operator.meters) q w.operator) in
      let number = worked_number letter_s n.c in
      record {
        order = omega (arith, w.order);
        top = omega (arith, stable_top s.bucket n.c limits.least_bucket end);
        phase = phase_onwards n.c n.p n.phase q w.phase;
        stable_number = omega (arith, number.1);
        newest_number = number.1;
        numbers = le_refl _;
        level = λ _. refl;
        operator = subst (λ (j : ℕ). CountedAt s (suc j) (worked s letter_s n.c n).operator.meters) (sym q) counted;
        checkpoint = counted;
      }

  correction_work : is_correcting n.phase ≡ true → WorkOf s (act s n Rule.EndCorrection).node
  unfolding act
  correction_work e =
      let w = v.work in
      record {
        order = w.order;
        top = w.top;
        phase = corrected n.c n.p n.phase e w.phase;
        stable_number = w.stable_number;
        newest_number = w.newest_number;
        numbers = w.numbers;
        level = w.level;
        operator = w.operator;
        checkpoint = w.checkpoint;
      }

  tentative_work : (now : ArrivalTick) → some_overdue s n.p now n.lines ≡ true → WorkOf s (act s n Rule.WorkTentative).node
  unfolding act
  tentative_work now e =
      let w = v.work in
      let number = worked_number letter_t n.p in
      record {
        order = omega (arith, w.order);
        top =
            tentative_top s.bucket n.p limits.least_bucket
            (due_start_fits s n.p now n.lines (omega (arith, limits.least_bucket)) v.fits.lines e);
        phase = omega (arith, w.order);
        stable_number = w.stable_number;
        newest_number = number.1;
        numbers = omega (arith, w.numbers, number.0);
        level = λ q. absurd (omega (arith, w.order));
        operator = worked_counted letter_t n.p w.operator;
        checkpoint = w.checkpoint;
      }

  idle_work : WorkOf s (act s n Rule.Idle).node
  unfolding act
  idle_work = v.work

  step_work : (now : ArrivalTick) → WorkOf s (act s n (rule_of s n now)).node
  unfolding rule_of
  step_work now =
      rule_cases (is_stable_bucket s n.c n.lines) (ltb n.c n.p) (is_correcting n.phase) (some_overdue s n.p now n.lines)
      (λ (rule : Rule). WorkOf s (act s n rule).node) (λ _ _. withdraw_work)
      (λ e b. let h : n.p ≤ n.c = ltb-false _ _ b in stable_work e (omega (arith, v.work.order)))
      (λ _. correction_work) (λ _ _. tentative_work now) (λ _ _. idle_work)

  step_lines : (rule : Rule) → Every LineShaped (act s n rule).node.lines
  unfolding act
  step_lines Rule.Withdraw = v.lines
  step_lines Rule.WorkStable = all_without_shaped s n.c n.lines v.lines
  step_lines Rule.EndCorrection = v.lines
  step_lines Rule.WorkTentative = v.lines
  step_lines Rule.Idle = v.lines

  -- ---- a call

  done_work : (k : Call) (kind : Kind) → WorkOf s (done s n k kind).node
  unfolding done is_step uses input
  done_work k Kind.S = v.work
  done_work k Kind.T = v.work
  done_work k Kind.B = v.work
  done_work k Kind.U = v.work
  done_work k Kind.R = v.work
  done_work k Kind.P = step_work k.now

  done_lines : (k : Call) → answer_to s n k ≡ 0 → (kind : Kind) → kind_of k.kind ≡ kind → Every LineShaped (done s n k kind).node.lines
  unfolding done is_step uses input
  done_lines k a Kind.S e = lines_shaped s n k a Kind.S e v.lines
  done_lines k a Kind.T e = lines_shaped s n k a Kind.T e v.lines
  done_lines k a Kind.B e = lines_shaped s n k a Kind.B e v.lines
  done_lines k a Kind.U e = lines_shaped s n k a Kind.U e v.lines
  done_lines k a Kind.R e = lines_shaped s n k a Kind.R e v.lines
  done_lines k a Kind.P e = step_lines (rule_of s n k.now)

  outcome_work : (k : Call) → (WorkOf s (outcome_of s n k).node) × Every LineShaped (outcome_of s n k).node.lines
  unfolding outcome_of accepted
  outcome_work k =
      (elim (eqb (answer_to s n k) 0) as
      (λ b.
      eqb (answer_to s n k) 0 ≡ b →
      WorkOf s (cond b (accepted k.now (done s n k (kind_of k.kind))) (record { node = n; records = [] })).node ×
      Every LineShaped (cond b (accepted k.now (done s n k (kind_of k.kind))) (record { node = n; records = [] })).node.lines) [
        | true ↦ λ e. (done_work k (kind_of k.kind), done_lines k (eqb-true _ _ e) (kind_of k.kind) refl)
        | false ↦ λ e. (v.work, v.lines)
      ])
      refl

  pub outcome_shaped : (k : Call) → CallFits k → Shaped s (outcome_of s n k).node
  outcome_shaped k f =
      record {
        limits = v.limits;
        fits = outcome_fits s n k f v.fits;
        count = outcome_lines s n k ∙ v.count;
        short = outcome_kept s n k v.short;
        lines = (outcome_work k).1;
        work = (outcome_work k).0;
      }
