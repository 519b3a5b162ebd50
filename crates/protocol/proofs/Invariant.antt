-- What holds after every list of calls: the node's c, p and phase are the monitor's d, t and mark, every line agrees with the monitor and its
-- accepted stable readings, and the output is measured against the failure-free run below c. Each call keeps it.
use Prim.Native.Nat.{ℕ, suc, ◌+◌, ◌*◌, ◌-◌, ◌≤◌, ◌<◌}
use mathlib.Core.Path.{◌≡◌, refl, sym, ◌∙◌, ap, subst}
use mathlib.Core.Bool.{true, false, cond, false≢true}
use mathlib.Core.List.{List, [], ◌∷◌, ◌++◌, map, append-nil}
use native.Mathlib.Omega.{arith}
use native.Mathlib.Nat.{le_refl}
use lib.Dec.{leb, eqb}
use lib.ListN.{length, length-map}
use borrow.Author.Tests.{leb-true, ltb-false, eqb-true}
use Rattle.clock.specs.declared.ArrivalTick.{ArrivalTick}
use Rattle.clock.specs.Buckets.{bucket_end, finishes}
use Rattle.settings.specs.declared.Settings.{Settings}
use Rattle.journal.specs.declared.Call.{Call}
use Rattle.journal.specs.Kinds.{letter_s, letter_t}
use Rattle.record.specs.declared.Record.{Record}
use Rattle.store.specs.declared.Reading.{Reading}
use Rattle.store.specs.Lists.{modify, all_of}
use Rattle.store.specs.Order.{Placed, sort, gather, in_bucket}
use Rattle.store.proofs.Choices.{and_parts}
use Rattle.operator.specs.Meters.{Operator}
use Rattle.operator.specs.Work.{work}
use Rattle.protocol.specs.declared.Phase.{Phase}
use Rattle.protocol.specs.Kinds.{Kind, kind_of, uses, is_step}
use Rattle.protocol.specs.Node.{Line, no_line, is_stable_bucket, kept_of, on_line}
use Rattle.protocol.specs.declared.Rule.{Rule}
use Rattle.protocol.specs.declared.Rule.TheVariants as Rule
use Rattle.protocol.specs.Rules.{is_correcting, rule_of, without, boundary_at, worked, act}
use Rattle.protocol.specs.Refusals.{named_line, answer_to}
use Rattle.protocol.specs.Calls.{input, done as doneBy, accepted, outcome_of, acknowledged_by}
use Rattle.protocol.specs.Monitor.{LineMonitor, observe_line, observe_input, observe_kind, observe}
use Rattle.protocol.specs.FailureFree.{stable_after, failure_free}
use Rattle.protocol.specs.Runs.{Event, Trace, is_accepted, next, after}
use Rattle.protocol.proofs.Places.{Each, done, more, each_map, each_modify, length_modify, modify_same}
use Rattle.protocol.proofs.Lines.{with_stable, Agrees, line_input}
use Rattle.protocol.proofs.Finished.{line_finish, line_bucket}
use Rattle.protocol.proofs.Rules.{monitor_act, monitor_step, rule_cases, same_rule}
use Rattle.protocol.proofs.Numbers.{work_onward, failure_free_numbered}
use Rattle.protocol.proofs.FailureFree.{failure_free_same, gather_input, accepted_stable, refused_stable}
use Rattle.protocol.proofs.Output.{Measured, measured_withdraw, measured_stable, measured_done, measured_tentative, measured_idle}
use Rattle.protocol.proofs.Passed.{Passed, passed}

pub record Invariant (s : Settings) (t : Trace) : Type 0 where
  pub some : 0 < length t.node.lines
  pub same_c : t.node.c ≡ t.monitor.d
  pub same_p : t.node.p ≡ t.monitor.t
  pub same_mark : is_correcting t.node.phase ≡ t.monitor.mark
  pub order : t.node.c ≤ t.node.p
  pub level : is_correcting t.node.phase ≡ true → t.node.p ≡ t.node.c
  pub lines : Each (Agrees s t.node.c) t.node.lines t.monitor.lines t.stables
  pub output : Measured t.node.c t.node.p t.node.phase t.node.operator t.node.checkpoint (failure_free s t.stables t.node.c) t.output

-- bucket c is stable: every line's boundary finishes it
module _ (s : Settings) (c : ℕ) where
  Finished : Line → LineMonitor → List Reading → Type 0
  Finished l g rs = Agrees s c l g rs × (suc c * s.bucket ≤ l.boundary.0)

  each_finished :
      {ls : List Line} {gs : List LineMonitor} {zs : List (List Reading)} → is_stable_bucket s c ls ≡ true → Each (Agrees s c) ls gs zs →
      Each Finished ls gs zs
  unfolding is_stable_bucket all_of finishes bucket_end Finished
  each_finished e done = done
  each_finished e (more {a = l} r rs) =
      let h : c * s.bucket + s.bucket ≤ l.boundary.0 = leb-true _ _ (and_parts _ _ e).0 in
      more (r, omega arith) (each_finished (and_parts (leb (c * s.bucket + s.bucket) l.boundary.0) _ e).1 rs)

  module _ (room : 0 < s.bucket) where
    each_gather :
        {ls : List Line} {gs : List LineMonitor} {zs : List (List Reading)} (n : ℕ) → Each Finished ls gs zs →
        gather s.bucket c n (kept_of ls) ≡ gather s.bucket c n zs
    unfolding gather kept_of Finished
    each_gather n done = refl
    each_gather n (more {a = l} {b = g} {c = rs} r rest) =
        rw (line_bucket s room c l g rs r.0 r.1, each_gather (suc n) rest)

    each_without :
        {ls : List Line} {gs : List LineMonitor} {zs : List (List Reading)} → Each Finished ls gs zs →
        Each (Agrees s (suc c)) (map (without s c) ls) gs zs
    unfolding Finished
    each_without v = each_map (without s c) (λ l g rs r. line_finish s room c l g rs r.0 r.1) v

-- the trace after a step that did this rule
Stepped : Settings → Trace → ArrivalTick → Rule → Trace
Stepped s t now q =
    record {
      node = (accepted now (act s t.node q)).node;
      monitor = monitor_act t.monitor q;
      stables = t.stables;
      acknowledged = t.acknowledged;
      output = t.output ++ (accepted now (act s t.node q)).records;
    }

-- the trace after an accepted call, as if its kind were this one
Called : Settings → Trace → Call → Kind → Trace
Called s t k kind =
    record {
      node = (accepted k.now (doneBy s t.node k kind)).node;
      monitor = observe_kind s t.monitor k kind;
      stables = modify (with_stable k kind) (k.line - 1) t.stables;
      acknowledged = t.acknowledged;
      output = t.output ++ (accepted k.now (doneBy s t.node k kind)).records;
    }

-- bucket c worked with the readings that the failure-free run has of it
measured_bucket :
    (s : Settings) (c p : ℕ) (phase : Phase) (operator checkpoint : Operator) (zs : List (List Reading)) (out : List Record) (rs : List Placed) →
    rs ≡ in_bucket s.bucket c zs → p ≡ c → Measured c p phase operator checkpoint (failure_free s zs c) out →
    Measured (suc c) (suc p) phase (work s letter_s c rs operator).operator (work s letter_s c rs operator).operator (failure_free s zs (suc c)) (out ++ ((work s letter_s c rs operator).records ++ boundary_at s c))
unfolding failure_free
measured_bucket s c p phase operator checkpoint zs out rs e q v =
    rw (e, (v.level (sym q)).0, v.at_checkpoint)
    (measured_stable c p phase operator checkpoint (failure_free s zs c) out v q
    (work s letter_s c (in_bucket s.bucket c zs) (failure_free s zs c).operator)
    (work_onward s letter_s c (in_bucket s.bucket c zs) (failure_free s zs c).operator) s c)

module _ (s : Settings) (room : 0 < s.bucket) (t : Trace) (v : Invariant s t) where
  input_kept :
      (k : Call) (kind : Kind) → kind_of k.kind ≡ kind → Passed s t.node k kind →
      Invariant s (record { node = (accepted k.now (input t.node k kind)).node; monitor = observe_input t.monitor k kind; stables = modify (with_stable k kind) (k.line - 1) t.stables; acknowledged = t.acknowledged; output = t.output ++ (accepted k.now (input t.node k kind)).records })
  unfolding accepted input observe_input named_line
  input_kept k kind e h =
      record {
        some = subst (λ n. 0 < n) (sym (length_modify (on_line k kind) (k.line - 1) t.node.lines)) v.some;
        same_c = v.same_c;
        same_p = v.same_p;
        same_mark = v.same_mark;
        order = v.order;
        level = v.level;
        lines =
            each_modify (on_line k kind) (observe_line k kind) (with_stable k kind) no_line (k.line - 1)
            (λ g rs r. line_input s room t.node.c k (named_line t.node k) g rs r kind e h.id h.time h.free) v.lines;
        output =
            rw (
              append-nil t.output,
              failure_free_same s (modify (with_stable k kind) (k.line - 1) t.stables) t.stables t.node.c
                  (λ j below. gather_input s room t.node.c k j below kind (k.line - 1) 1 h.time v.lines),
            )
            v.output;
      }

  withdraw_kept : (now : ArrivalTick) → Invariant s (Stepped s t now Rule.Withdraw)
  unfolding Stepped accepted act monitor_act is_correcting
  withdraw_kept now =
      record {
        some = v.some;
        same_c = v.same_c;
        same_p = v.same_c;
        same_mark = refl;
        order = le_refl _;
        level = λ _. refl;
        lines = v.lines;
        output =
            measured_withdraw _ _ _ _ _ _ _ v.output (failure_free_numbered s t.stables t.node.c) (record { 0 = 0 });
      }

  stable_kept :
      (now : ArrivalTick) → is_stable_bucket s t.node.c t.node.lines ≡ true → t.node.p ≡ t.node.c →
      Invariant s (Stepped s t now Rule.WorkStable)
  unfolding Stepped accepted act monitor_act worked in_bucket
  stable_kept now e q =
      record {
        some = rw (length-map t.node.lines (without s t.node.c)) v.some;
        same_c = ap suc v.same_c;
        same_p = ap suc (q ∙ v.same_c);
        same_mark = v.same_mark;
        order = omega (arith, v.order);
        level = λ _. ap suc q;
        lines = each_without s t.node.c room (each_finished s t.node.c e v.lines);
        output =
            measured_bucket s t.node.c t.node.p t.node.phase t.node.operator t.node.checkpoint t.stables t.output _
            (ap sort (each_gather s t.node.c room 1 (each_finished s t.node.c e v.lines))) q v.output;
      }

  -- what rule 2 gives are the failure-free run's next results
  pub worked_free :
      is_stable_bucket s t.node.c t.node.lines ≡ true → t.node.p ≡ t.node.c →
      (failure_free s t.stables (suc t.node.c)).records ≡ (failure_free s t.stables t.node.c).records ++ (worked s letter_s t.node.c t.node).records
  unfolding failure_free worked in_bucket
  worked_free e q =
      let readings : sort (gather s.bucket t.node.c 1 (kept_of t.node.lines)) ≡ sort (gather s.bucket t.node.c 1 t.stables) =
      ap sort (each_gather s t.node.c room 1 (each_finished s t.node.c e v.lines)) in
      let from : t.node.operator ≡ (failure_free s t.stables t.node.c).operator = (v.output.level (sym q)).0 ∙ v.output.at_checkpoint in
      rw (readings, from)

  end_kept : (now : ArrivalTick) → Invariant s (Stepped s t now Rule.EndCorrection)
  unfolding Stepped accepted act monitor_act is_correcting
  end_kept now =
      record {
        some = v.some;
        same_c = v.same_c;
        same_p = v.same_p;
        same_mark = refl;
        order = v.order;
        level = λ e. absurd (false≢true e);
        lines = v.lines;
        output = measured_done _ _ _ _ _ _ _ v.output (record { 0 = 0 });
      }

  tentative_kept : (now : ArrivalTick) → is_correcting t.node.phase ≡ false → Invariant s (Stepped s t now Rule.WorkTentative)
  unfolding Stepped accepted act monitor_act is_correcting worked
  tentative_kept now m =
      record {
        some = v.some;
        same_c = v.same_c;
        same_p = ap suc v.same_p;
        same_mark = sym m ∙ v.same_mark;
        order = omega (arith, v.order);
        level = λ e. absurd (false≢true e);
        lines = v.lines;
        output =
            measured_tentative _ _ _ _ _ _ _ v.output v.order m _
            (work_onward s letter_t t.node.p (in_bucket s.bucket t.node.p (kept_of t.node.lines)) t.node.operator);
      }

  idle_kept : (now : ArrivalTick) → Invariant s (Stepped s t now Rule.Idle)
  unfolding Stepped accepted act monitor_act
  idle_kept now =
      record {
        some = v.some;
        same_c = v.same_c;
        same_p = v.same_p;
        same_mark = v.same_mark;
        order = v.order;
        level = v.level;
        lines = v.lines;
        output = measured_idle _ _ _ _ _ _ _ v.output;
      }

  step_kept : (now : ArrivalTick) → Invariant s (Stepped s t now (rule_of s t.node now))
  unfolding rule_of
  step_kept now =
      rule_cases _ _ _ _ (λ (q : Rule). Invariant s (Stepped s t now q)) (λ a b. withdraw_kept now)
      (λ a b. let h : t.node.p ≤ t.node.c = ltb-false _ _ b in stable_kept now a (omega (arith, v.order)))
      (λ a m. end_kept now) (λ a m d. tentative_kept now m) (λ a m. idle_kept now)

  no_new_stable : (k : Call) → modify (with_stable k Kind.P) (k.line - 1) t.stables ≡ t.stables
  unfolding with_stable
  no_new_stable k = modify_same (with_stable k Kind.P) (λ rs. refl) (k.line - 1) t.stables

  called_kept : (k : Call) (kind : Kind) → kind_of k.kind ≡ kind → Passed s t.node k kind → Invariant s (Called s t k kind)
  unfolding Called doneBy observe_kind is_step uses Stepped
  called_kept k Kind.S e h = input_kept k Kind.S e h
  called_kept k Kind.T e h = input_kept k Kind.T e h
  called_kept k Kind.B e h = input_kept k Kind.B e h
  called_kept k Kind.U e h = input_kept k Kind.U e h
  called_kept k Kind.R e h = input_kept k Kind.R e h
  called_kept k Kind.P e h =
      rw (
        no_new_stable k,
        monitor_step s t.monitor k.now,
        ← (same_rule s room t.node t.monitor t.stables k.now v.some v.same_c v.same_p v.same_mark v.order v.lines),
      )
      (step_kept k.now)

  journal_kept : (k : Call) → Invariant s (next s t (Event.journal k))
  unfolding next outcome_of observe is_accepted Called
  journal_kept k =
      (elim (eqb (answer_to s t.node k) 0) as
      (λ b.
      eqb (answer_to s t.node k) 0 ≡ b →
      Invariant s
      (record {
        node = (cond b (accepted k.now (doneBy s t.node k (kind_of k.kind))) (record { node = t.node; records = [] })).node;
        monitor = cond b (observe_kind s t.monitor k (kind_of k.kind)) t.monitor;
        stables = stable_after t.stables k b;
        acknowledged = t.acknowledged;
        output =
            t.output ++
            (cond b (accepted k.now (doneBy s t.node k (kind_of k.kind))) (record { node = t.node; records = [] })).records;
      })) [
        | true ↦ λ e.
            rw (accepted_stable t.stables k) (called_kept k (kind_of k.kind) refl (passed s t.node k (eqb-true _ _ e)))
        | false ↦ λ e. rw (append-nil t.output, refused_stable t.stables k) v
      ])
      refl

  -- an acknowledgement changes none of this
  acknowledge_kept : (display id : ℕ) → Invariant s (next s t (Event.acknowledge display id))
  unfolding next acknowledged_by
  acknowledge_kept display id =
      record {
        some = v.some;
        same_c = v.same_c;
        same_p = v.same_p;
        same_mark = v.same_mark;
        order = v.order;
        level = v.level;
        lines = v.lines;
        output = v.output;
      }

  pub next_kept : (e : Event) → Invariant s (next s t e)
  unfolding next
  next_kept Event.turned_away = v
  next_kept (Event.journal k) = journal_kept k
  next_kept (Event.acknowledge display id) = acknowledge_kept display id

pub after_kept : (s : Settings) → 0 < s.bucket → (es : List Event) (t : Trace) → Invariant s t → Invariant s (after s t es)
unfolding after
after_kept s room [] t v = v
after_kept s room (e ∷ es) t v = after_kept s room es (next s t e) (next_kept s room t v e)
