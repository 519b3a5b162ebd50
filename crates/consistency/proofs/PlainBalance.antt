-- The balance and its second text are one statement: what is sent in line by line is what is sent in call by call, since an accepted
-- reading is on one of the lines; every piece of an output is a record, so that its bytes alone tell what it pays; and an equation of
-- heats is one of counts and one of sums. Uses the statement and not its proof.
use Prim.Native.Nat.{ℕ, zero, suc, ◌+◌, ◌-◌, ◌≤◌, ◌<◌}
use mathlib.Core.Path.{◌≡◌, refl, sym, ◌∙◌, ap, ap₂, subst}
use mathlib.Core.Bool.{Bool, true, false, cond, ◌&&◌}
use mathlib.Core.List.{List, [], ◌∷◌, ◌++◌, map, flatten, append_assoc}
use native.Mathlib.Omega.{arith}
use lib.Dec.{eqb}
use lib.IntN.{ℤ, pos, ◌+ℤ◌, +ℤ_idl, +ℤ_idr, +ℤ_assoc}
use lib.ListN.{length, get_or, replicate, length-replicate}
use lib.Signed.{le_z}
use borrow.Author.Tests.{eqb-true, eq-eqb}
use Rattle.std.specs.Prelude.{Option, Some, None}
use Rattle.settings.specs.declared.Settings.{Settings}
use Rattle.journal.specs.declared.Call.{Call}
use Rattle.journal.specs.ReadLine.{call_of}
use Rattle.journal.specs.Kinds.{letter_s}
use Rattle.record.specs.declared.Record.{Record}
use Rattle.record.specs.Layout.{bytes_of}
use Rattle.record.specs.Fields.{fields_of}
use Rattle.store.specs.declared.Reading.{Reading}
use Rattle.store.specs.Lists.{keep, modify, Every}
use Rattle.store.specs.Sorted.{Permutation, chain}
use Rattle.store.proofs.Choices.{cond_either}
use Rattle.store.proofs.Permutations.{append_permuted, permutation_between, permutation_back}
use Rattle.store.proofs.Keeping.{keep_append}
use Rattle.store.proofs.Amounts.{none_plus, total_of}
use Rattle.operator_meter.specs.Values.{no_meter, is_counted}
use Rattle.operator.proofs.Measures.{reports, brought, brought_append, brought_permuted, reported_of}
use Rattle.protocol.specs.Node.{Line, kept_of}
use Rattle.protocol.specs.FailureFree.{stable_reading, stable_after}
use Rattle.protocol.specs.Kinds.{Kind, kind_of}
use Rattle.protocol.proofs.Letters.{S-kind}
use Rattle.protocol.proofs.Places.{length_modify}
use Rattle.protocol.proofs.Acceptance.{accepts_S}
use Rattle.node.specs.Held.{Held}
use Rattle.node.specs.View.{Lent, view}
use Rattle.node.specs.Calls.{Called, called_on}
use Rattle.node.specs.Displays.{acknowledged_on, fetched_on}
use Rattle.node.proofs.Calls.{accepted_call}
use Rattle.node.proofs.Records.{Decodes}
use Rattle.node.proofs.AfterCalls.{called_settings}
use Rattle.node.proofs.Displays.{fetch_leaves}
use Rattle.consistency.specs.Runs.{Box, Input, left_after}
use Rattle.consistency.specs.Accounts.{Account}
use Rattle.consistency.specs.Demand.{Handed, opening, is_opened, box_of, settings_in, account_of}
use Rattle.consistency.specs.Balance.{Heat, no_heat, plus, of_reading, of_meter, of_result}
use Rattle.consistency.specs.Balance.{sent_heat, paid_heat, open_heat, kept_stables, kept_heat, Balance}
use Rattle.consistency.specs.Plain.{Run, counted, begun, answered, passed_over, continued, settings_on, run_of}
use Rattle.consistency.specs.PlainBalance.{value_if, sent_by, sent_values, values_among, kept_values, sum_of}
use Rattle.consistency.specs.PlainBalance.{is_paid, paid_count, paid_sum, sent_of, kept_on, open_on, PlainBalance}
use Rattle.consistency.proofs.Displays.{acknowledgement_aside}
use Rattle.consistency.proofs.Plain.{box_on, handed_of, opened_left, opened_account, opened_bytes}
use Rattle.consistency.proofs.Opened.{trace_of, mirrors}
use Rattle.consistency.proofs.SentShape.{decodes_fields}
use Rattle.consistency.proofs.Heats.{same_heat, heat_monoid, heat_measure, readings_heat, paid_reported}

-- ---- heat of values

-- how many, and their sum
abbrev of_values : List ℤ → Heat
of_values vs = record { count = length vs; sum = sum_of vs }

values_append : (vs ws : List ℤ) → of_values (vs ++ ws) ≡ plus (of_values vs) (of_values ws)
unfolding sum_of plus
values_append [] ws = same_heat (omega arith) (sym (+ℤ_idl (sum_of ws)))
values_append (v ∷ vs) ws =
    let rest = values_append vs ws in
    same_heat (omega (arith, ap (λ (h : Heat). h.count) rest))
    (ap (λ (h : Heat). v +ℤ h.sum) rest ∙ sym (+ℤ_assoc v (sum_of vs) (sum_of ws)))

-- a stable reading brings its value, where it counts
one_reading :
    (s : Settings) (i : ℕ) (r : Reading) → r.kind ≡ 83 →
    brought heat_measure s i (r ∷ []) ≡ of_values (value_if s i r.kind r.meter r.value)
unfolding heat_measure heat_monoid keep value_if is_counted of_reading plus no_heat sum_of
one_reading s i r e =
    by (le_z s.low r.value && le_z r.value s.high) (eqb r.meter i) ∙
    ap (λ (n : ℕ). of_values (value_if s i n r.meter r.value)) (sym e)
  where
    by : (a b : Bool) → total_of heat_monoid of_reading (cond (a && b) (r ∷ []) []) ≡ of_values (cond (b && a) (r.value ∷ []) [])
    by true true = refl
    by true false = refl
    by false true = refl
    by false false = refl

-- one of another kind none
no_value : (s : Settings) (i kind meter : ℕ) (value : ℤ) → eqb kind 83 ≡ false → value_if s i kind meter value ≡ []
unfolding value_if
no_value s i kind meter value e = rw e

-- ---- a call

module _ (st : Held) (x : Lent) (text area : List ℕ) where
  -- an accepted stable reading is on one of the lines
  on_a_line :
      (k : Call) → call_of text ≡ Some k → (called_on st x text area).answer ≡ 0 → k.kind ≡ 83 →
      (1 ≤ k.line) × (k.line ≤ st.settings.lines)
  on_a_line k read accepted stable =
      let v = accepted_call st x text area accepted in
      let same : v.call ≡ k = cc (read, v.read) in
      let kind : kind_of v.call.kind ≡ Kind.S = S-kind _ (eq-eqb _ letter_s (ap (λ (c : Call). c.kind) same ∙ stable)) in
      let reaches = ((accepts_S st.settings (view st x.readings) v.call kind).0 v.answered).0.reaches in
      subst (λ (c : Call). (1 ≤ c.line) × (c.line ≤ st.settings.lines)) same (reaches.first_line, reaches.last_line)

lines_stay : (lines : List (List Reading)) (read : Option Call) (accepted : Bool) → length (counted lines read accepted) ≡ length lines
unfolding counted stable_after
lines_stay lines None accepted = refl
lines_stay lines (Some k) accepted =
    cond_either (λ (ls : List (List Reading)). length ls ≡ length lines) (accepted && eqb k.kind letter_s)
    (λ e. length_modify _ (k.line - 1) lines) (λ e. refl)

-- ---- sent in

-- a reading behind those of one line is in front of all, but for the order
line_grown :
    (r : Reading) (n : ℕ) (lines : List (List Reading)) → n < length lines →
    Permutation (flatten (modify (λ (rs : List Reading). rs ++ r ∷ []) n lines)) (r ∷ flatten lines)
unfolding modify flatten
line_grown r n [] h = absurd (omega arith)
line_grown r zero (l ∷ ls) h =
    subst (λ (rs : List Reading). Permutation rs (r ∷ (l ++ flatten ls))) (sym (append_assoc l (r ∷ []) (flatten ls)))
    (permutation_back (permutation_between r l (flatten ls)))
line_grown r (suc n) (l ∷ ls) h =
    chain (append_permuted l (line_grown r n ls (omega arith))) (permutation_back (permutation_between r l (flatten ls)))

module _ (s : Settings) (i : ℕ) where
  nothing_more : (h : Heat) → h ≡ plus h (of_values [])
  unfolding plus sum_of
  nothing_more h = same_heat (omega arith) (sym (+ℤ_idr h.sum))

  -- a stable reading accepted on one of the lines brings its value, where it counts
  stable_brings :
      (lines : List (List Reading)) (k : Call) → k.line - 1 < length lines → (e : k.kind ≡ 83) →
      brought heat_measure s i (flatten (modify (λ (rs : List Reading). rs ++ stable_reading k ∷ []) (k.line - 1) lines)) ≡
      plus (brought heat_measure s i (flatten lines)) (of_values (sent_by s i (Some k)))
  unfolding heat_measure heat_monoid stable_reading sent_by
  stable_brings lines k there e =
      brought_permuted heat_measure s i (line_grown (stable_reading k) (k.line - 1) lines there) ∙
      brought_append heat_measure s i (stable_reading k ∷ []) (flatten lines) ∙
      heat_monoid.plus_comm (brought heat_measure s i (stable_reading k ∷ [])) (brought heat_measure s i (flatten lines)) ∙
      ap (plus (brought heat_measure s i (flatten lines)))
      (one_reading s i (stable_reading k) refl ∙ ap (λ (n : ℕ). of_values (value_if s i n k.meter k.value)) (sym e))

  -- a call brings what it sends in, if it was accepted; a stable reading is then on one of the lines
  call_brings :
      (lines : List (List Reading)) (read : Option Call) (accepted : Bool) →
      ((k : Call) → read ≡ Some k → accepted ≡ true → k.kind ≡ 83 → k.line - 1 < length lines) →
      brought heat_measure s i (flatten (counted lines read accepted)) ≡
      plus (brought heat_measure s i (flatten lines)) (of_values (cond accepted (sent_by s i read) []))
  unfolding counted stable_after sent_by
  call_brings lines None true there = nothing_more _
  call_brings lines None false there = nothing_more _
  call_brings lines (Some k) false there = nothing_more _
  call_brings lines (Some k) true there =
      (elim (eqb k.kind 83) as
      (λ b.
      eqb k.kind 83 ≡ b →
      brought heat_measure s i (flatten (cond b (modify (λ (rs : List Reading). rs ++ stable_reading k ∷ []) (k.line - 1) lines) lines)) ≡
      plus (brought heat_measure s i (flatten lines)) (of_values (sent_by s i (Some k)))) [
        | true ↦ λ t. stable_brings lines k (there k refl refl (eqb-true k.kind 83 t)) (eqb-true k.kind 83 t)
        | false ↦ λ t. rw (no_value s i k.kind k.meter k.value t) (nothing_more _)
      ])
      refl

  -- a run's calls bring what they send in
  run_brings :
      (y : Run) (is : List Input) → y.state.settings ≡ s → length y.stables ≡ s.lines →
      brought heat_measure s i (flatten (continued s y is).stables) ≡
      plus (brought heat_measure s i (flatten y.stables)) (of_values (sent_values s i y.state y.lent is))
  unfolding continued answered passed_over sent_values heat_monoid plus
  run_brings y [] same lines = nothing_more _
  run_brings y (Input.journal text area ∷ is) same lines =
      let r : Called = called_on y.state y.lent text area in
      let z : Run = answered s y (call_of text) r in
      let now : List ℤ = cond (eqb r.answer 0) (sent_by s i (call_of text)) [] in
      let later : List ℤ = sent_values s i r.state r.lent is in
      let old : Heat = brought heat_measure s i (flatten y.stables) in
      run_brings z is (called_settings y.state y.lent text area ∙ same)
      (lines_stay y.stables (call_of text) (eqb r.answer 0) ∙ lines) ∙
      ap (λ (h : Heat). plus h (of_values later))
      (call_brings y.stables (call_of text) (eqb r.answer 0)
      (λ k read accepted stable.
      let there = on_a_line y.state y.lent text area k read (eqb-true _ _ accepted) stable in
      omega (arith, lines, ap (λ (z : Settings). z.lines) same, there))) ∙
      heat_monoid.plus_assoc old (of_values now) (of_values later) ∙ ap (plus old) (sym (values_append now later))
  run_brings y (Input.acknowledge display id area ∷ is) same lines =
      let r : Called = acknowledged_on y.state y.lent display id area in
      let settings = ap (λ (z : Held). z.settings) (acknowledgement_aside y.state y.lent display id area).state in
      run_brings (passed_over y r) is (settings ∙ same) lines
  run_brings y (Input.fetch display from area ∷ is) same lines =
      let r : Called = fetched_on y.state y.lent display from area in
      let settings = ap (λ (z : Held). z.settings) (fetch_leaves y.state y.lent display from area).0 in
      run_brings (passed_over y r) is (settings ∙ same) lines

-- ---- kept, and paid

module _ (s : Settings) (i : ℕ) where
  -- by its letter a stable reading
  abbrev stable : Reading → Bool
  stable r = eqb r.kind letter_s

  kept_among : (rs : List Reading) → brought heat_measure s i (keep stable rs) ≡ of_values (values_among s i rs)
  unfolding heat_measure heat_monoid keep values_among no_heat sum_of
  kept_among [] = refl
  kept_among (r ∷ rs) =
      (elim (stable r) as
      (λ b.
      stable r ≡ b →
      brought heat_measure s i (cond b (r ∷ keep stable rs) (keep stable rs)) ≡
      of_values (value_if s i r.kind r.meter r.value ++ values_among s i rs)) [
        | true ↦
            λ e.
            brought_append heat_measure s i (r ∷ []) (keep stable rs) ∙
            ap₂ plus (one_reading s i r (eqb-true r.kind 83 e)) (kept_among rs) ∙
            sym (values_append (value_if s i r.kind r.meter r.value) (values_among s i rs))
        | false ↦ λ e. rw (no_value s i r.kind r.meter r.value e) (kept_among rs)
      ])
      refl

  kept_values_lem : (ls : List Line) → brought heat_measure s i (keep stable (flatten (kept_of ls))) ≡ of_values (kept_values s i ls)
  unfolding kept_values kept_of flatten keep heat_measure heat_monoid no_heat sum_of
  kept_values_lem [] = refl
  kept_values_lem (l ∷ ls) =
      ap (brought heat_measure s i) (keep_append stable l.kept (flatten (kept_of ls))) ∙
      brought_append heat_measure s i (keep stable l.kept) (keep stable (flatten (kept_of ls))) ∙
      ap₂ plus (kept_among l.kept) (kept_values_lem ls) ∙ sym (values_append (values_among s i l.kept) (kept_values s i ls))

-- what a record pays on top of others
abbrev paying : ℕ → Heat → Record → Heat
paying i more r =
    let paid : Bool = eqb r.kind 83 && eqb r.meter i in
    record { count = cond paid r.count 0 + more.count; sum = cond paid r.sum (pos 0) +ℤ more.sum }

paid_bytes :
    (i : ℕ) (rs : List Record) → Every Decodes rs →
    reported_of heat_measure letter_s i rs ≡ record { count = paid_count i (map bytes_of rs); sum = paid_sum i (map bytes_of rs) }
unfolding heat_measure heat_monoid keep of_result plus no_heat paid_count paid_sum is_paid fields_of
paid_bytes i [] h = refl
paid_bytes i (r ∷ rs) h =
    let more : Heat = record { count = paid_count i (map bytes_of rs); sum = paid_sum i (map bytes_of rs) } in
    on_top (eqb r.kind 83 && eqb r.meter i) (keep (reports letter_s i) rs) more (paid_bytes i rs h.1) ∙
    ap (paying i more) (sym (decodes_fields r h.0))
  where
    on_top :
        (paid : Bool) (others : List Record) (more : Heat) → total_of heat_monoid of_result others ≡ more →
        total_of heat_monoid of_result (cond paid (r ∷ others) others) ≡
        record { count = cond paid r.count 0 + more.count; sum = cond paid r.sum (pos 0) +ℤ more.sum }
    on_top true others more e = ap (plus (of_result r)) e
    on_top false others more e = e ∙ sym (none_plus heat_monoid more)

-- ---- from an opening on

none_sent : (n : ℕ) → flatten {A = Reading} (replicate n []) ≡ []
unfolding flatten
none_sent zero = refl
none_sent (suc n) = none_sent n

module _ (st : Held) (x : Lent) (text : List ℕ) (is : List Input) (i : ℕ) where
  abbrev h : Handed
  h = handed_of st x text

  abbrev s : Settings
  s = settings_on st x text

  abbrev y : Run
  y = run_of st x text is

  abbrev b : Box
  b = left_after (box_of h) is

  sent_is : sent_heat h is i ≡ of_values (sent_of st x text is i)
  unfolding sent_heat settings_in opening settings_on run_of begun sent_of heat_measure heat_monoid keep
  sent_is =
      readings_heat s i (flatten (account_of h is).stables) ∙
      ap (λ (a : Account). brought heat_measure s i (flatten a.stables)) (opened_account st x text is) ∙
      run_brings s i (begun st x text) is refl (length-replicate s.lines []) ∙
      ap (λ (rs : List Reading). plus (brought heat_measure s i rs) (of_values (sent_of st x text is i))) (none_sent s.lines) ∙
      none_plus heat_monoid (of_values (sent_of st x text is i))

  paid_is : is_opened h → paid_heat h is i ≡ record { count = paid_count i y.bytes; sum = paid_sum i y.bytes }
  paid_is o =
      let run = mirrors h o is in
      paid_reported h o is i ∙ paid_bytes i (trace_of (settings_in h) h is).output run.decode ∙
      ap (λ (bs : List (List ℕ)). record { count = paid_count i bs; sum = paid_sum i bs }) (sym run.laid ∙ opened_bytes st x text is)

  open_is : open_heat b i ≡ of_meter (open_on y i)
  unfolding open_heat open_on
  open_is = ap (λ (z : Box). of_meter (get_or z.state.checkpoint.meters i no_meter)) (opened_left st x text is)

  kept_is : kept_heat s b i ≡ of_values (kept_on s y i)
  unfolding kept_heat kept_stables kept_on
  kept_is =
      ap (λ (z : Box). kept_heat s z i) (opened_left st x text is) ∙
      readings_heat s i (kept_stables (box_on y)) ∙ kept_values_lem s i (view y.state y.lent.readings).lines

  -- the equation in the table's words
  abbrev Equation : Type 0
  Equation =
      of_values (sent_of st x text is i) ≡
      plus (record { count = paid_count i y.bytes; sum = paid_sum i y.bytes }) (plus (of_meter (open_on y i)) (of_values (kept_on s y i)))

  grouped :
      (paid_sum i y.bytes +ℤ (open_on y i).sum) +ℤ sum_of (kept_on s y i) ≡ paid_sum i y.bytes +ℤ ((open_on y i).sum +ℤ sum_of (kept_on s y i))
  grouped = +ℤ_assoc (paid_sum i y.bytes) (open_on y i).sum (sum_of (kept_on s y i))

  in_plain_words : is_opened h → sent_heat h is i ≡ plus (paid_heat h is i) (plus (open_heat b i) (kept_heat s b i)) → Equation
  in_plain_words o e = sym sent_is ∙ e ∙ ap₂ plus (paid_is o) (ap₂ plus open_is kept_is)

  in_statement_words : is_opened h → Equation → sent_heat h is i ≡ plus (paid_heat h is i) (plus (open_heat b i) (kept_heat s b i))
  in_statement_words o e = sent_is ∙ e ∙ sym (ap₂ plus (paid_is o) (ap₂ plus open_is kept_is))

pub plain_balance : Balance → PlainBalance
unfolding is_opened opening settings_in settings_on plus of_meter
plain_balance q =
    record {
      counts = λ st x text o is i inside.
          let e : Equation st x text is i = in_plain_words st x text is i o (q (handed_of st x text) o is i inside) in
          omega (arith, ap (λ (a : Heat). a.count) e);
      sums = λ st x text o is i inside.
          let e : Equation st x text is i = in_plain_words st x text is i o (q (handed_of st x text) o is i inside) in
          ap (λ (a : Heat). a.sum) e ∙ sym (grouped st x text is i);
    }

pub stated_balance : PlainBalance → Balance
unfolding is_opened opening settings_in settings_on plus of_meter
stated_balance p h o is i inside =
    in_statement_words h.state h.lent h.text is i o
    (same_heat (omega (arith, p.counts h.state h.lent h.text o is i inside))
    (p.sums h.state h.lent h.text o is i inside ∙ grouped h.state h.lent h.text is i))
