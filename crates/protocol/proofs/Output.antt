-- The output's invariant, and that each rule of a step keeps it: with its undos applied, the output is the failure-free results through the
-- buckets worked as stable, then tentative ones numbered above the checkpoint's number, so that an undo at that number strikes only these.
use Prim.Native.Nat.{ℕ, suc, ◌≤◌, ◌<◌}
use mathlib.Core.Path.{◌≡◌, refl, sym, ◌∙◌, ap, ap₂}
use mathlib.Core.Bool.{Bool, true, false, cond}
use mathlib.Core.List.{List, [], ◌∷◌, ◌++◌, append-nil, append_assoc}
use native.Mathlib.Omega.{arith}
use native.Mathlib.Nat.{le_refl}
use Rattle.clock.specs.declared.ReadingTime.{ReadingTime}
use Rattle.clock.specs.Buckets.{bucket_end}
use Rattle.clock.specs.Windows.{closes_window}
use Rattle.settings.specs.declared.Settings.{Settings}
use Rattle.journal.specs.Kinds.{letter_s, letter_t, letter_b, letter_u, letter_r}
use Rattle.record.specs.declared.Record.{Record}
use Rattle.record.specs.Kinds.{is_stable, is_tentative, is_result}
use Rattle.store.specs.Lists.{Every, keep}
use Rattle.store.proofs.Pairs.{every_to, every_append}
use Rattle.store.proofs.Keeping.{keep_append, keep_all, keep_none}
use Rattle.operator.specs.Meters.{Operator}
use Rattle.record.specs.Markers.{marker}
use Rattle.operator.specs.Work.{Worked}
use Rattle.protocol.specs.declared.Phase.{Phase}
use Rattle.protocol.specs.declared.Phase.TheVariants as Phase
use Rattle.protocol.specs.Rules.{is_correcting, boundary_at}
use Rattle.protocol.specs.Undos.{apply_one, applied, struck_by_one, struck, stable_records, done_due}
use Rattle.protocol.specs.Demand.{itself}
use Rattle.protocol.proofs.Numbers.{Numbered, wider, Onward}
use Rattle.protocol.proofs.Undos.{
  applied_append,
  struck_append,
  done_due_append,
  IsResult,
  stable_result,
  tentative_result,
  applied_results,
  struck_results,
  done_due_results,
  undo_applied,
  undo_struck,
}

-- c and p, the phase, the operator and its checkpoint, the failure-free run through the buckets below c, and the output
pub record Measured (c p : ℕ) (phase : Phase) (operator checkpoint : Operator) (past : Worked) (output : List Record) : Type 0 where
  pub at_checkpoint : checkpoint ≡ past.operator
  pub number : checkpoint.number ≤ operator.number
  pub tentative : List Record
  pub level : c ≡ p → (operator ≡ checkpoint) × (tentative ≡ [])
  pub undone : applied itself [] output ≡ past.records ++ tentative
  pub numbers : Every (Numbered letter_t checkpoint.number operator.number) tentative
  pub strikes : Every (λ (r : Record). r.kind ≡ letter_t) (struck itself [] output)
  pub due : done_due itself false output ≡ is_correcting phase
  pub as_they_came : stable_records itself output ≡ past.records

-- stable records of parts of an output

pub stable_append : (xs ys : List Record) → stable_records itself (xs ++ ys) ≡ stable_records itself xs ++ stable_records itself ys
unfolding stable_records
stable_append xs ys = keep_append (λ (r : Record). is_stable r.kind) xs ys

pub all_stable : (rs : List Record) → Every (λ (r : Record). r.kind ≡ letter_s) rs → stable_records itself rs ≡ rs
unfolding stable_records is_stable
all_stable rs h = keep_all (λ (r : Record). is_stable r.kind) rs (every_to rs (λ r e. ap is_stable e) h)

pub none_stable : (rs : List Record) → Every (λ (r : Record). r.kind ≡ letter_t) rs → stable_records itself rs ≡ []
unfolding stable_records is_stable
none_stable rs h = keep_none (λ (r : Record). is_stable r.kind) rs (every_to rs (λ r e. ap is_stable e) h)

pub undo_not_stable : (n : ℕ) (time : ReadingTime) → stable_records itself (marker letter_u n time ∷ []) ≡ []
unfolding stable_records is_stable marker keep
undo_not_stable n time = refl

pub done_not_stable : (n : ℕ) (time : ReadingTime) → stable_records itself (marker letter_r n time ∷ []) ≡ []
unfolding stable_records is_stable marker keep
done_not_stable n time = refl

-- the boundary that follows a window says nothing of results
pub record Silent (results : List Record) (due : Bool) (rs : List Record) : Type 0 where
  pub applies : applied itself results rs ≡ results
  pub strikes : struck itself results rs ≡ []
  pub keeps_due : done_due itself due rs ≡ due
  pub stables : stable_records itself rs ≡ []

pub boundary_silent : (s : Settings) (j : ℕ) (results : List Record) (due : Bool) → Silent results due (boundary_at s j)
unfolding boundary_at applied struck done_due apply_one struck_by_one is_result is_stable is_tentative marker keep stable_records
boundary_silent s j results due =
    elim (closes_window s.window j) as
    (λ b. Silent results due (cond b (marker letter_b 0 (record { 0 = bucket_end s.bucket j }) ∷ []) [])) [
      | true ↦ record { applies = refl; strikes = refl; keeps_due = refl; stables = refl }
      | false ↦ record { applies = refl; strikes = refl; keeps_due = refl; stables = refl }
    ]

undo_due : (due : Bool) (n : ℕ) (time : ReadingTime) → done_due itself due (marker letter_u n time ∷ []) ≡ true
unfolding done_due marker
undo_due due n time = refl

module _ (c p : ℕ) (phase : Phase) (operator checkpoint : Operator) (past : Worked) (output : List Record) (v : Measured c p phase operator checkpoint past output) where
  more_struck :
      (xs : List Record) → Every (λ (r : Record). r.kind ≡ letter_t) (struck itself (applied itself [] output) xs) →
      Every (λ (r : Record). r.kind ≡ letter_t) (struck itself [] (output ++ xs))
  more_struck xs h =
      rw (struck_append [] output xs) (every_append _ (struck itself [] output) (struck itself (applied itself [] output) xs) v.strikes h)

  none_struck :
      (xs : List Record) → struck itself (applied itself [] output) xs ≡ [] →
      Every (λ (r : Record). r.kind ≡ letter_t) (struck itself [] (output ++ xs))
  none_struck xs e = more_struck xs (rw e tt)

  no_more_stable : (xs : List Record) → stable_records itself xs ≡ [] → stable_records itself (output ++ xs) ≡ past.records
  no_more_stable xs e = stable_append output xs ∙ rw (v.as_they_came, e) (append-nil _)

  pub measured_withdraw :
      Every (Numbered letter_s 0 past.operator.number) past.records → (time : ReadingTime) →
      Measured c c Phase.Correcting checkpoint checkpoint past (output ++ marker letter_u checkpoint.number time ∷ [])
  unfolding is_correcting
  measured_withdraw f time =
      record {
        at_checkpoint = v.at_checkpoint;
        number = le_refl _;
        tentative = [];
        level = λ _. (refl, refl);
        undone =
            rw (applied_append [] output, v.undone)
            (undo_applied checkpoint.number time past.records v.tentative low high ∙ sym (append-nil _));
        numbers = tt;
        strikes =
            more_struck _
            (rw (v.undone, undo_struck checkpoint.number time past.records v.tentative low high)
            (every_to v.tentative (λ r b. b.kind) v.numbers));
        due =
            done_due_append false output (marker letter_u checkpoint.number time ∷ []) ∙
            undo_due (done_due itself false output) checkpoint.number time;
        as_they_came = no_more_stable _ (undo_not_stable checkpoint.number time);
      }
    where
      low : Every (λ (r : Record). r.id ≤ checkpoint.number) past.records
      low = rw v.at_checkpoint (every_to past.records (λ r b. b.up) f)

      high : Every (λ (r : Record). checkpoint.number < r.id) v.tentative
      high = every_to v.tentative (λ r b. b.above) v.numbers

  pub measured_stable :
      p ≡ c → (w : Worked) → Onward letter_s past.operator w → (s : Settings) (j : ℕ) →
      Measured (suc c) (suc p) phase w.operator w.operator (record { operator = w.operator; records = past.records ++ w.records }) (output ++ (w.records ++ boundary_at s j))
  measured_stable e w f s j =
      record {
        at_checkpoint = refl;
        number = le_refl _;
        tentative = [];
        level = λ _. (refl, refl);
        undone =
            applied_append [] output _ ∙
            rw (
              v.undone,
              (v.level (sym e)).1,
              append-nil past.records,
              applied_append past.records w.records (boundary_at s j),
              applied_results past.records w.records are,
              (boundary_silent s j (past.records ++ w.records) false).applies,
            )
            (sym (append-nil _));
        numbers = tt;
        strikes =
            none_struck _
            (struck_append (applied itself [] output) w.records (boundary_at s j) ∙
            rw (struck_results (applied itself [] output) w.records are)
            (boundary_silent s j (applied itself (applied itself [] output) w.records) false).strikes);
        due =
            done_due_append false output _ ∙ done_due_append _ w.records (boundary_at s j) ∙ (boundary_silent s j [] _).keeps_due ∙
            done_due_results _ w.records are ∙ v.due;
        as_they_came =
            stable_append output _ ∙
            ap₂ ◌++◌ v.as_they_came
            (stable_append w.records (boundary_at s j) ∙
            rw (all_stable w.records kinds, (boundary_silent s j [] false).stables) (append-nil _));
      }
    where
      kinds : Every (λ (r : Record). r.kind ≡ letter_s) w.records
      kinds = every_to w.records (λ r b. b.kind) f.each

      are : Every IsResult w.records
      are = every_to w.records stable_result kinds

  pub measured_done : (time : ReadingTime) → Measured c p Phase.Stable operator checkpoint past (output ++ marker letter_r 0 time ∷ [])
  unfolding is_correcting applied struck done_due apply_one struck_by_one is_result is_stable is_tentative marker
  measured_done time =
      record {
        at_checkpoint = v.at_checkpoint;
        number = v.number;
        tentative = v.tentative;
        level = v.level;
        undone = applied_append [] output _ ∙ v.undone;
        numbers = v.numbers;
        strikes = none_struck _ refl;
        due = done_due_append false output _;
        as_they_came = no_more_stable _ (done_not_stable 0 time);
      }

  pub measured_tentative :
      c ≤ p → is_correcting phase ≡ false → (w : Worked) → Onward letter_t operator w →
      Measured c (suc p) Phase.Failure w.operator checkpoint past (output ++ w.records)
  unfolding is_correcting
  measured_tentative h m w f =
      record {
        at_checkpoint = v.at_checkpoint;
        number = omega (arith, v.number, f.rises);
        tentative = v.tentative ++ w.records;
        level = λ e. absurd (omega arith);
        undone =
            applied_append [] output w.records ∙ applied_results (applied itself [] output) w.records are ∙
            rw v.undone (append_assoc past.records v.tentative w.records);
        numbers =
            every_append _ v.tentative w.records (every_to v.tentative (wider _ _ (le_refl _) f.rises) v.numbers)
            (every_to w.records (wider _ _ v.number (le_refl _)) f.each);
        strikes = none_struck _ (struck_results (applied itself [] output) w.records are);
        due = done_due_append false output w.records ∙ done_due_results _ w.records are ∙ v.due ∙ m;
        as_they_came = no_more_stable _ (none_stable w.records kinds);
      }
    where
      kinds : Every (λ (r : Record). r.kind ≡ letter_t) w.records
      kinds = every_to w.records (λ r b. b.kind) f.each

      are : Every IsResult w.records
      are = every_to w.records tentative_result kinds

  pub measured_idle : Measured c p phase operator checkpoint past (output ++ [])
  measured_idle = rw (append-nil output) v
