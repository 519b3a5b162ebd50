-- The records of a call on a node in shape: no more than an area has room for, each within a record's widths, so that its bytes are read
-- back as the record. By the rule that the step does.
use Prim.Native.Nat.{ℕ, ◌*◌, ◌≤◌, ◌<◌, ◌^◌}
use mathlib.Core.Path.{◌≡◌, refl}
use mathlib.Core.Bool.{true, false, cond}
use mathlib.Core.List.{List, [], ◌∷◌}
use native.Mathlib.Omega.{arith}
use lib.Dec.{eqb, ltb}
use lib.ListN.{length, length-append}
use Rattle.std.specs.Prelude.{Some}
use Rattle.clock.specs.declared.ArrivalTick.{ArrivalTick}
use Rattle.clock.specs.Buckets.{bucket_end}
use Rattle.clock.specs.Windows.{closes_window}
use Rattle.settings.specs.declared.Settings.{Settings}
use Rattle.settings.specs.Limits.{max_lines, within_limits}
use Rattle.journal.specs.declared.Call.{Call}
use Rattle.journal.specs.Kinds.{letter_s, letter_t, letter_b, letter_u, letter_r}
use Rattle.record.specs.declared.Record.{Record}
use Rattle.record.specs.Kinds.{is_record, is_result, is_stable, is_tentative}
use Rattle.record.specs.Layout.{bytes_of}
use Rattle.record.specs.Decoded.{decoded}
use Rattle.record.proofs.Decoding.{decoded_bytes_of}
use Rattle.store.specs.Order.{in_bucket}
use Rattle.store.proofs.Pairs.{every_to, every_append}
use Rattle.store.specs.Lists.{Every}
use Rattle.record.specs.Markers.{marker}
use Rattle.protocol.specs.Kinds.{Kind, kind_of, uses, is_step}
use Rattle.protocol.specs.Node.{Line, Node, is_stable_bucket, kept_of}
use Rattle.protocol.specs.declared.Rule.{Rule}
use Rattle.protocol.specs.Rules.{is_correcting, some_overdue, rule_of, boundary_at, worked, act}
use Rattle.protocol.specs.Refusals.{answer_to}
use Rattle.store.specs.Sizes.{readings_per_line}
use Rattle.protocol.specs.Calls.{input, done, accepted, outcome_of}
use Rattle.protocol.proofs.Rules.{rule_cases}
use Rattle.node.specs.Sizes.{results_per_bucket, records_per_call, last_bucket}
use Rattle.operator_meter.specs.Bounds.{count_limit}
use Rattle.node.proofs.Limits.{limits_hold}
use Rattle.operator_meter.proofs.Bounds.{Counted}
use Rattle.node.proofs.Gathered.{length_in_bucket}
use Rattle.node.proofs.Fits.{NodeFits, values_fit}
use Rattle.node.proofs.Times.{start_fits, stable_end_fits, stable_start_fits, due_start_fits}
use Rattle.node.proofs.Results.{Readable, marker_readable, length_work, work_readable}

-- what refusal 4 leaves of a node, as far as its records need it
pub record ShapeFacts (s : Settings) (n : Node) : Type 0 where
  pub limits : within_limits s ≡ true
  pub count : length n.lines ≡ s.lines
  pub short : Every (λ (l : Line). length l.kept ≤ readings_per_line) n.lines
  pub order : n.c ≤ n.p
  pub top : n.p ≤ last_bucket
  pub stable_number : n.checkpoint.number ≤ results_per_bucket * n.c
  pub newest_number : n.operator.number ≤ results_per_bucket * n.p
  pub meters : Every (Counted count_limit) n.operator.meters

-- ---- the records of a step

-- few records, each read back
abbrev pub Given : List Record → Type 0
Given rs = (length rs ≤ records_per_call) × Every Readable rs

-- the letters that records are given with are kinds that records have
record Known : Type 0 where
  pub stable : is_record letter_s ≡ true
  pub tentative : is_record letter_t ≡ true
  pub boundary : is_record letter_b ≡ true
  pub undo : is_record letter_u ≡ true
  pub corrected : is_record letter_r ≡ true

known : Known
unfolding is_record is_result is_stable is_tentative
known = record { stable = refl; tentative = refl; boundary = refl; undo = refl; corrected = refl }

boundary_given : (s : Settings) (j : ℕ) → bucket_end s.bucket j < 2 ^ 32 → (length (boundary_at s j) ≤ 1) × Every Readable (boundary_at s j)
unfolding boundary_at
boundary_given s j f =
    elim (closes_window s.window j) as
    (λ b.
    (length (cond b (marker letter_b 0 (record { 0 = bucket_end s.bucket j }) ∷ []) []) ≤ 1) ×
    Every Readable (cond b (marker letter_b 0 (record { 0 = bucket_end s.bucket j }) ∷ []) [])) [
      | true ↦ (omega arith, (marker_readable letter_b (omega arith) known.boundary 0 (record { 0 = bucket_end s.bucket j }) (omega arith) f, tt))
      | false ↦ (omega arith, tt)
    ]

-- a bucket's readings are no more than the lines have places
pub few_readings :
    (s : Settings) (ls : List Line) → within_limits s ≡ true → length ls ≡ s.lines →
    Every (λ (l : Line). length l.kept ≤ readings_per_line) ls →
    (j : ℕ) → length (in_bucket s.bucket j (kept_of ls)) ≤ max_lines * readings_per_line
few_readings s ls limits count short j =
    omega (arith, length_in_bucket readings_per_line s.bucket j ls short, (limits_hold s limits).lines)

module _ (s : Settings) (n : Node) (fits : NodeFits n) (shape : ShapeFacts s n) where
  length_worked : (kind j : ℕ) → length (worked s kind j n).records ≤ results_per_bucket
  unfolding worked
  length_worked kind j = length_work s kind j (in_bucket s.bucket j (kept_of n.lines)) n.operator fits.operator.meters

  worked_readable :
      (kind j : ℕ) → kind < 2 ^ 8 → is_record kind ≡ true → j * s.bucket < 2 ^ 32 → Every Readable (worked s kind j n).records
  unfolding worked
  worked_readable kind j byte isKnown start =
      work_readable s kind j (in_bucket s.bucket j (kept_of n.lines)) n.operator fits.operator byte isKnown
      (start_fits s.bucket s.window j (limits_hold s shape.limits).some_window start)
      count_limit shape.meters (omega (arith, few_readings s n.lines shape.limits shape.count shape.short j)) (values_fit s.bucket j n.lines fits.lines)
      (omega (arith, shape.newest_number, shape.top))

  withdraw_given : Given (act s n Rule.Withdraw).records
  unfolding act
  withdraw_given = (
    omega arith,
    (
      marker_readable letter_u (omega arith) known.undo n.checkpoint.number (record { 0 = 0 })
          (omega (arith, shape.stable_number, shape.order, shape.top)) (omega arith),
      tt,
    ),
  )

  stable_given : is_stable_bucket s n.c n.lines ≡ true → Given (act s n Rule.WorkStable).records
  unfolding act
  stable_given e =
      let end =
      stable_end_fits s n.c n.lines (omega (arith, shape.count, (limits_hold s shape.limits).some_lines)) fits.lines e in
      let boundary = boundary_given s n.c end in (
        rw (length-append (worked s letter_s n.c n).records (boundary_at s n.c)) (omega (arith, length_worked letter_s n.c, boundary.0)),
        every_append Readable (worked s letter_s n.c n).records (boundary_at s n.c)
            (worked_readable letter_s n.c (omega arith) known.stable (stable_start_fits s.bucket n.c end)) boundary.1,
      )

  correction_given : Given (act s n Rule.EndCorrection).records
  unfolding act
  correction_given = (omega arith, (marker_readable letter_r (omega arith) known.corrected 0 (record { 0 = 0 }) (omega arith) (omega arith), tt))

  tentative_given : (now : ArrivalTick) → some_overdue s n.p now n.lines ≡ true → Given (act s n Rule.WorkTentative).records
  unfolding act
  tentative_given now e = (
    omega (arith, length_worked letter_t n.p),
    worked_readable letter_t n.p (omega arith) known.tentative
        (due_start_fits s n.p now n.lines (omega (arith, (limits_hold s shape.limits).least_bucket)) fits.lines e),
  )

  idle_given : Given (act s n Rule.Idle).records
  unfolding act
  idle_given = (omega arith, tt)

  step_given : (now : ArrivalTick) → Given (act s n (rule_of s n now)).records
  unfolding rule_of
  step_given now =
      rule_cases (is_stable_bucket s n.c n.lines) (ltb n.c n.p) (is_correcting n.phase) (some_overdue s n.p now n.lines)
      (λ (rule : Rule). Given (act s n rule).records) (λ _ _. withdraw_given) (λ e _. stable_given e)
      (λ _ _. correction_given) (λ _ _. tentative_given now) (λ _ _. idle_given)

  -- ---- the records of a call

  done_given : (k : Call) (kind : Kind) → Given (done s n k kind).records
  unfolding done is_step uses input
  done_given k Kind.S = (omega arith, tt)
  done_given k Kind.T = (omega arith, tt)
  done_given k Kind.B = (omega arith, tt)
  done_given k Kind.U = (omega arith, tt)
  done_given k Kind.R = (omega arith, tt)
  done_given k Kind.P = step_given k.now

  pub outcome_given : (k : Call) → Given (outcome_of s n k).records
  unfolding outcome_of accepted
  outcome_given k =
      elim (eqb (answer_to s n k) 0) as
      (λ b. Given (cond b (accepted k.now (done s n k (kind_of k.kind))) (record { node = n; records = [] })).records) [
        | true ↦ done_given k (kind_of k.kind)
        | false ↦ (omega arith, tt)
      ]

-- ---- read back

-- the record's bytes are read as the record
abbrev pub Decodes : Record → Type 0
Decodes r = decoded (bytes_of r) ≡ Some r

pub readable_decodes : (rs : List Record) → Every Readable rs → Every Decodes rs
readable_decodes rs h = every_to rs (λ (r : Record) (g : Readable r). decoded_bytes_of r g.0 g.1) h
