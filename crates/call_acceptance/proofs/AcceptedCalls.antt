-- An accepted call, done: a step where it names no line, else an input on the line that it names. That only a step names none is the test
-- of the line's number, by cases on the kind; what the input leaves on its line is carried to the whole state and store.
use Prim.Native.Nat.{ℕ, ◌+◌, ◌*◌, ◌-◌, ◌≤◌, ◌<◌}
use mathlib.Core.Path.{◌≡◌, refl, sym, ◌∙◌, ap}
use mathlib.Core.Bool.{true, false, not, ◌&&◌}
use mathlib.Core.List.{List, [], ◌∷◌, map}
use native.Mathlib.Omega.{arith}
use borrow.Author.Tests.{eqb-true, eq-eqb, not-false, lt-ltb}
use lib.Dec.{leb}
use lib.ListN.{length, get_or, set, length-take}
use Rattle.std.specs.Prelude.{Some}
use Rattle.area.specs.Laid.{in_front}
use Rattle.clock.specs.declared.ArrivalTick.{ArrivalTick}
use Rattle.settings.specs.declared.Settings.{Settings}
use Rattle.settings.specs.Limits.{max_lines, max_displays}
use Rattle.journal.specs.declared.Call.{Call}
use Rattle.record.specs.Layout.{all_bytes}
use Rattle.store.specs.declared.Reading.{Reading}
use Rattle.store.specs.Sizes.{readings_per_line}
use Rattle.store.specs.Columns.{Columns, store_length, rows_from}
use Rattle.store.specs.Parts.{with_kept, share}
use Rattle.store.proofs.Pairs.{every_index}
use Rattle.store.proofs.Columns.{length_rows_from, take_rows}
use Rattle.store_columns.specs.Shape.{rises}
use Rattle.store_columns.proofs.Rows.{ids_share}
use Rattle.retransmission.specs.Places.{holding}
use Rattle.retransmission.proofs.Stores.{with_same}
use Rattle.protocol.specs.Kinds.{Kind, kind_of, uses, is_step}
use Rattle.protocol.specs.Node.{Line, Node, no_line, on_line}
use Rattle.protocol.specs.Rules.{Outcome, rule_of, act}
use Rattle.protocol.specs.Refusals.{first_failed, named_line, wrong_line, is_full, answer_to}
use Rattle.protocol.specs.Calls.{input, done, accepted}
use Rattle.protocol.proofs.Passed as passes
use Rattle.protocol.proofs.Faults.{line_iff}
use Rattle.protocol.proofs.Acceptance.{accepted_is_done}
use Rattle.node.specs.declared.LineHead.{LineHead}
use Rattle.node.specs.Held.{Held}
use Rattle.node.specs.View.{Lent, lent_of, view_line, places, view, head_of, put_state, put_columns}
use Rattle.node.specs.Calls.{Called, host_tests, put_lent, laid_outcome, called_with}
use Rattle.node.proofs.Limits.{limits_hold}
use Rattle.node.proofs.Shares.{SmallLine}
use Rattle.node.proofs.View.{Fits, view_sized}
use Rattle.node.proofs.Shape.{Rising, KeptShape, StateShape, state_facts, state_in_shape_lem}
use Rattle.node.proofs.Outcomes.{on_line_small}
use Rattle.node.proofs.Calls.{HostPassed, host_passed}
use Rattle.node.proofs.OneLine.{line_of, head_small, heads_line, put_columns_line}
use Rattle.step_corrections.proofs.LinesStay.{Kept, fits, acknowledged_stay}
use Rattle.call_inputs.proofs.OneInput.{line_from}

-- ---- step or input

line_passed : (s : Settings) (n : Node) (k : Call) → answer_to s n k ≡ 0 → wrong_line s (kind_of k.kind) k.line ≡ false
line_passed s n k e = (passes.passed s n k e).line

module _ (s : Settings) (n : Node) (k : Call) where
  not_none : not (leb 1 k.line && leb k.line s.lines) ≡ false → k.line ≡ 0 → ⊥
  not_none e z = omega (arith, (line_iff s k.line).0 e)

  -- a call that names no line is a step
  step_done : (kind : Kind) → wrong_line s kind k.line ≡ false → k.line ≡ 0 → done s n k kind ≡ act s n (rule_of s n k.now)
  unfolding wrong_line done is_step uses
  step_done Kind.S e z = absurd (not_none e z)
  step_done Kind.T e z = absurd (not_none e z)
  step_done Kind.B e z = absurd (not_none e z)
  step_done Kind.U e z = absurd (not_none e z)
  step_done Kind.R e z = absurd (not_none e z)
  step_done Kind.P e z = refl

  -- a call that names a line is an input on it
  abbrev InputOn : Kind → Type 0
  InputOn kind = ((1 ≤ k.line) × (k.line ≤ s.lines)) × (done s n k kind ≡ input n k kind)

  input_done : (kind : Kind) → wrong_line s kind k.line ≡ false → (k.line ≡ 0 → ⊥) → InputOn kind
  unfolding wrong_line done is_step uses
  input_done Kind.S e h = ((line_iff s k.line).0 e, refl)
  input_done Kind.T e h = ((line_iff s k.line).0 e, refl)
  input_done Kind.B e h = ((line_iff s k.line).0 e, refl)
  input_done Kind.U e h = ((line_iff s k.line).0 e, refl)
  input_done Kind.R e h = ((line_iff s k.line).0 e, refl)
  input_done Kind.P e h = absurd (h (eqb-true _ _ (not-false _ e)))

-- ---- laid down

-- the state with its clock set
abbrev pub at_tick : Held → ArrivalTick → Held
at_tick st now =
    record {
      operator = st.operator;
      checkpoint = st.checkpoint;
      heads = st.heads;
      settings = st.settings;
      clock = now;
      c = st.c;
      p = st.p;
      phase = st.phase;
      acknowledged = st.acknowledged;
    }

-- the state with this head at place i
abbrev pub with_head : Held → ℕ → LineHead → Held
with_head st i head =
    record {
      operator = st.operator;
      checkpoint = st.checkpoint;
      heads = set st.heads i head;
      settings = st.settings;
      clock = st.clock;
      c = st.c;
      p = st.p;
      phase = st.phase;
      acknowledged = st.acknowledged;
    }

-- what a call leaves, with the clock set
abbrev set_clock : ArrivalTick → Called → Called
set_clock now r =
    record { answer = r.answer; records = r.records; state = at_tick r.state now; lent = r.lent; area = r.area }

module _ (st : Held) (x : Lent) (area : List ℕ) (k : Call) (ok : answer_to st.settings (view st x.readings) k ≡ 0) where
  abbrev node : Node
  node = view st x.readings

  called_laid :
      (o : Outcome) → done st.settings node k (kind_of k.kind) ≡ o →
      called_with st x area (Some k) ≡ set_clock k.now (laid_outcome st x area o)
  unfolding called_with accepted put_state put_columns put_lent
  called_laid o e = rw (eq-eqb (answer_to st.settings node k) 0 ok, accepted_is_done st.settings node k ok, e)

  abbrev stepped : Outcome
  stepped = act st.settings node (rule_of st.settings node k.now)

  -- a step laid down is what the call leaves, but for the clock
  pub step_laid :
      k.line ≡ 0 → {r : Called} → r ≡ laid_outcome st x area stepped → set_clock k.now r ≡ called_with st x area (Some k)
  step_laid z laid =
      ap (set_clock k.now) laid ∙
      sym (called_laid stepped (step_done st.settings node k (kind_of k.kind) (line_passed st.settings node k ok) z))

-- ---- an input

-- ids that rise pass their test
rising_ids : (rs : List Reading) → Rising rs → rises (map (λ (r : Reading). r.id) rs) ≡ true
unfolding rises
rising_ids [] e = refl
rising_ids (r ∷ []) e = refl
rising_ids (r ∷ q ∷ rs) e = rw (lt-ltb r.id q.id e.0) (rising_ids (q ∷ rs) e.1)

-- what the function of an input asks for
abbrev pub InputReady : LineHead → Columns → ℕ → Call → Type 0
InputReady head x base k =
    (base + readings_per_line ≤ store_length x) × (head.kept ≤ readings_per_line) ×
    (is_full (line_from head x base) (kind_of k.kind) ≡ false) ×
    (rises (share base head.kept x.ids) ≡ true)

module _
    (st : Held) (lent : Lent) (area : List ℕ) (k : Call) (ok : answer_to st.settings (view st lent.readings) k ≡ 0)
    (host : first_failed (host_tests st lent area) ≡ 0) (named : k.line ≡ 0 → ⊥) where
  abbrev x : Columns
  x = lent.readings

  passed : HostPassed st lent area
  passed = host_passed st lent area host

  shape : StateShape st x
  shape = state_facts st x (state_in_shape_lem st lent passed.shape)

  on_named_line : InputOn st.settings (view st x) k (kind_of k.kind)
  on_named_line = input_done st.settings (view st x) k (kind_of k.kind) (line_passed st.settings (view st x) k ok) named

  -- the line that it names is one of those that there are
  line_last : k.line - 1 < st.settings.lines
  line_last = omega (arith, on_named_line.0)

  pub line_below : k.line - 1 < max_lines
  line_below = omega (arith, line_last, (limits_hold st.settings shape.limits).lines)

  abbrev head : LineHead
  head = get_or st.heads (k.line - 1) (head_of no_line)

  abbrev base : ℕ
  base = (k.line - 1) * readings_per_line

  module _ (heads : length st.heads ≡ max_lines) (displays : length st.acknowledged ≡ max_displays) where
    kept : Kept st x
    kept = record { heads = heads; displays = displays; room = passed.room; shape = state_in_shape_lem st lent passed.shape }

    fitted : Fits st x
    fitted = fits st x kept

    same_line : named_line (view st x) k ≡ line_from head x base
    unfolding named_line
    same_line = line_of st x fitted (k.line - 1) line_last

    -- it has a place for the reading
    free : is_full (line_from head x base) (kind_of k.kind) ≡ false
    free = rw same_line at (passes.passed st.settings (view st x) k ok).room

    pub input_ready : InputReady head x base k
    unfolding places view_line named_line
    input_ready =
        let small : head.kept ≤ readings_per_line = head_small st x fitted (k.line - 1) line_last in
        let below : k.line - 1 < length (view st x).lines =
        omega (arith, line_last, (view_sized st x fitted.heads fitted.displays).lines) in
        let line : KeptShape (named_line (view st x) k) =
        every_index KeptShape (view st x).lines (k.line - 1) no_line below shape.lines in
        let wide : base + readings_per_line ≤ store_length x = omega (arith, line_last, fitted.room) in
        let kept : (named_line (view st x) k).kept ≡ rows_from x base head.kept =
        ap (λ (l : Line). l.kept) same_line ∙ take_rows x base readings_per_line head.kept small in
        let ids : rises (map (λ (r : Reading). r.id) (rows_from x base head.kept)) ≡ true =
        rw kept at (rising_ids (named_line (view st x) k).kept line.rising) in
        (wide, small, free, rw (ids_share x base head.kept (omega arith)) at ids)

    -- what the function of an input ensures of line and share is what the call leaves; it gives no record, so the send-back store stays
    pub input_laid :
        {after : LineHead} {y : Columns} →
        after ≡ head_of (on_line k (kind_of k.kind) (line_from head x base)) →
        y ≡ with_kept x base head.kept (on_line k (kind_of k.kind) (line_from head x base)).kept →
        record {
          answer = 0;
          records = 0;
          state = at_tick (with_head st (k.line - 1) after) k.now;
          lent = lent_of y lent.sent;
          area = area;
        } ≡
        called_with st lent area (Some k)
    unfolding input put_state put_lent all_bytes in_front view view_line holding
    input_laid e f =
        let kind : Kind = kind_of k.kind in
        let small : SmallLine (on_line k kind (line_from head x base)) =
        on_line_small k kind (line_from head x base) free
        (omega (arith, length-take head.kept (rows_from x base readings_per_line), length_rows_from x base readings_per_line)) in
        rw (
          e,
          f,
          ← heads_line st x fitted (k.line - 1) line_last (on_line k kind),
          ← put_columns_line st x fitted (k.line - 1) line_last (on_line k kind) (input (view st x) k kind).node refl small,
        )
        (rw (with_same lent.sent passed.sent, acknowledged_stay st x kept) at
        (sym (called_laid st lent area k ok (input (view st x) k kind) on_named_line.1)))
