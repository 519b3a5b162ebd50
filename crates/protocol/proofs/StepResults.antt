-- The stable results among what a step gives: they stand first, numbered behind the checkpoint's number, which goes on by as many.
use Prim.Native.Nat.{ℕ, ◌+◌, ◌≤◌}
use mathlib.Core.Path.{◌≡◌, refl, sym, ◌∙◌, ap, subst}
use mathlib.Core.Bool.{false}
use mathlib.Core.List.{List, [], ◌++◌, append-nil}
use native.Mathlib.Omega.{arith}
use borrow.Author.Tests.{ltb-false}
use lib.Dec.{ltb}
use lib.ListN.{length}
use Rattle.clock.specs.declared.ArrivalTick.{ArrivalTick}
use Rattle.settings.specs.declared.Settings.{Settings}
use Rattle.journal.specs.Kinds.{letter_s, letter_t}
use Rattle.record.specs.declared.Record.{Record}
use Rattle.store.specs.Lists.{keep, Every}
use Rattle.store.specs.Order.{in_bucket}
use Rattle.store.proofs.Pairs.{every_to}
use Rattle.operator.specs.Work.{Worked}
use Rattle.operator.proofs.Closing.{work_number}
use Rattle.protocol.specs.declared.Rule.{Rule}
use Rattle.protocol.specs.declared.Rule.TheVariants as Rule
use Rattle.protocol.specs.Node.{Node, is_stable_bucket, kept_of}
use Rattle.protocol.specs.Rules.{Outcome, is_correcting, some_overdue, rule_of, boundary_at, worked, act}
use Rattle.protocol.specs.Undos.{stable_records}
use Rattle.protocol.specs.Demand.{itself}
use Rattle.protocol.specs.SentBack.{Consecutive}
use Rattle.protocol.proofs.Rules.{rule_cases}
use Rattle.protocol.proofs.Numbers.{work_onward}
use Rattle.protocol.proofs.Output.{stable_append, all_stable, none_stable, undo_not_stable, done_not_stable, boundary_silent}
use Rattle.protocol.proofs.Counts.{work_consecutive}

pub record Gives (n : Node) (o : Outcome) : Type 0 where
  pub rest : List Record
  pub first : o.records ≡ stable_records itself o.records ++ rest
  pub numbered : Consecutive n.checkpoint.number (stable_records itself o.records)
  pub newest : o.node.checkpoint.number ≡ n.checkpoint.number + length (stable_records itself o.records)

module _ (s : Settings) (n : Node) where
  none_given : (o : Outcome) → stable_records itself o.records ≡ [] → o.node.checkpoint.number ≡ n.checkpoint.number → Gives n o
  none_given o e same =
      record {
        rest = o.records;
        first = ap (λ (rs : List Record). rs ++ o.records) (sym e);
        numbered = subst (Consecutive n.checkpoint.number) (sym e) tt;
        newest = omega (arith, same, ap length e);
      }

  -- bucket j worked, results of this kind
  kinds : (kind j : ℕ) → Every (λ (r : Record). r.kind ≡ kind) (worked s kind j n).records
  unfolding worked
  kinds kind j =
      every_to (worked s kind j n).records (λ r numbered. numbered.kind)
      (work_onward s kind j (in_bucket s.bucket j (kept_of n.lines)) n.operator).each

  stable_gives : n.operator.number ≡ n.checkpoint.number → Gives n (act s n Rule.WorkStable)
  unfolding act worked
  stable_gives level =
      let w : Worked = worked s letter_s n.c n in
      let placed = in_bucket s.bucket n.c (kept_of n.lines) in
      let all : stable_records itself (w.records ++ boundary_at s n.c) ≡ w.records =
      stable_append w.records (boundary_at s n.c) ∙
      rw (all_stable w.records (kinds letter_s n.c), (boundary_silent s n.c [] false).stables) (append-nil w.records) in
      record {
        rest = boundary_at s n.c;
        first = ap (λ (rs : List Record). rs ++ boundary_at s n.c) (sym all);
        numbered =
            subst (Consecutive n.checkpoint.number) (sym all)
            (subst (λ (m : ℕ). Consecutive m w.records) level (work_consecutive s letter_s n.c placed n.operator));
        newest = omega (arith, work_number s letter_s n.c placed n.operator, level, ap length all);
      }

  withdraw_gives : Gives n (act s n Rule.Withdraw)
  unfolding act
  withdraw_gives = none_given (act s n Rule.Withdraw) (undo_not_stable n.checkpoint.number (record { 0 = 0 })) refl

  end_gives : Gives n (act s n Rule.EndCorrection)
  unfolding act
  end_gives = none_given (act s n Rule.EndCorrection) (done_not_stable 0 (record { 0 = 0 })) refl

  tentative_gives : Gives n (act s n Rule.WorkTentative)
  unfolding act
  tentative_gives = none_given (act s n Rule.WorkTentative) (none_stable (worked s letter_t n.p n).records (kinds letter_t n.p)) refl

  idle_gives : Gives n (act s n Rule.Idle)
  unfolding act stable_records keep
  idle_gives = none_given (act s n Rule.Idle) refl refl

  -- stable work begins only where none is out tentatively
  pub step_gives :
      n.c ≤ n.p → (n.p ≡ n.c → n.operator.number ≡ n.checkpoint.number) → (now : ArrivalTick) → Gives n (act s n (rule_of s n now))
  unfolding rule_of
  step_gives order level now =
      rule_cases (is_stable_bucket s n.c n.lines) (ltb n.c n.p) (is_correcting n.phase) (some_overdue s n.p now n.lines)
      (λ (rule : Rule). Gives n (act s n rule)) (λ _ _. withdraw_gives)
      (λ _ b. let h : n.p ≤ n.c = ltb-false _ _ b in stable_gives (level (omega (arith, order))))
      (λ _ _. end_gives) (λ _ _ _. tentative_gives) (λ _ _. idle_gives)
