-- What each kind of input does to a line's head and share: a reading goes behind the rows that are kept, an undo leaves the rows up to its
-- id, every other input leaves the share. The kind by its letter's tests, the share by the laws on its rows.
use Prim.Native.Nat.{ℕ, ◌+◌, ◌≤◌, ◌<◌}
use mathlib.Core.Path.{◌≡◌, refl, sym, ◌∙◌, ap}
use mathlib.Core.Bool.{Bool, true, false, cond, ◌||◌, true≢false}
use mathlib.Core.List.{List, [], ◌∷◌, ◌++◌}
use native.Mathlib.Omega.{arith}
use borrow.Author.Tests.{eq-eqb, ne_eqb, eqb-false, leb-false}
use lib.Dec.{leb, eqb}
use lib.ListN.{length, length-append}
use Rattle.clock.specs.declared.ReadingTime.{ReadingTime}
use Rattle.journal.specs.declared.Call.{Call}
use Rattle.journal.specs.Kinds.{letter_s, letter_t, letter_b, letter_u, letter_r}
use Rattle.store.specs.declared.Reading.{Reading}
use Rattle.store.specs.Lists.{keep}
use Rattle.store.specs.Sizes.{readings_per_line}
use Rattle.store.specs.Columns.{Columns, rows_from}
use Rattle.store.specs.Parts.{with_rows_at, with_kept}
use Rattle.store.proofs.Columns.{length_rows_from, take_rows}
use Rattle.store_columns.proofs.Rows.{kept_all, kept_more}
use Rattle.protocol.specs.Kinds.{Kind, kind_of, uses}
use Rattle.protocol.specs.Node.{Line, reading_of, on_line}
use Rattle.protocol.specs.Refusals.{is_full}
use Rattle.node.specs.declared.LineHead.{LineHead}
use Rattle.node.specs.View.{view_line, head_of}
use Rattle.node.proofs.Share.{head_same}

-- ---- the kind by its letter

module _ (kind : ℕ) where
  -- the kinds behind S and T
  abbrev later : Kind
  later = cond (eqb kind letter_b) Kind.B (cond (eqb kind letter_u) Kind.U (cond (eqb kind letter_r) Kind.R Kind.P))

  abbrev pub is_reading : Bool
  is_reading = eqb kind letter_s || eqb kind letter_t

  -- the letters of the two kinds of readings stand side by side
  pub reading_letter : letter_s ≤ kind → kind ≤ letter_t → is_reading ≡ true
  reading_letter low high =
      (elim (eqb kind letter_s) as (λ b. eqb kind letter_s ≡ b → b || eqb kind letter_t ≡ true) [
        | true ↦ λ e. refl
        | false ↦ λ e.
            let other : kind ≡ letter_s → ⊥ = eqb-false kind letter_s e in
            let is : kind ≡ letter_t = omega arith in
            eq-eqb kind letter_t is
      ]) refl

  pub other_letter : (kind ≡ letter_s → ⊥) → (kind ≡ letter_t → ⊥) → is_reading ≡ false
  other_letter notS notT = rw (ne_eqb kind letter_s notS) (ne_eqb kind letter_t notT)

  pub kind_U : kind ≡ letter_u → kind_of kind ≡ Kind.U
  unfolding kind_of
  kind_U e = rw e

  -- what holds for both kinds of readings, the stable one told from the other, holds where the letter is one of theirs
  kind_reading :
      (P : Bool → Kind → Type 0) → is_reading ≡ true → P true Kind.S → P false Kind.T → P (eqb kind letter_s) (kind_of kind)
  unfolding kind_of
  kind_reading P either stable tentative =
      (elim (eqb kind letter_s) as
      (λ b. b || eqb kind letter_t ≡ true → P b (cond b Kind.S (cond (eqb kind letter_t) Kind.T later))) [
        | true ↦ λ e. stable
        | false ↦ λ e. rw e tentative
      ]) either

  -- and for the three kinds that leave their line's readings, the boundary told from the others, where the letter is none of the others'
  kind_other :
      (P : Bool → Kind → Type 0) → is_reading ≡ false → (kind ≡ letter_u → ⊥) → P true Kind.B → P false Kind.R → P false Kind.P →
      P (eqb kind letter_b) (kind_of kind)
  unfolding kind_of
  kind_other P neither notU boundary done step =
      (elim (eqb kind letter_s) as
      (λ b. b || eqb kind letter_t ≡ false → P (eqb kind letter_b) (cond b Kind.S (cond (eqb kind letter_t) Kind.T later))) [
        | true ↦ λ e. absurd (true≢false e)
        | false ↦ λ e. rw (e, ne_eqb kind letter_u notU)
            (elim (eqb kind letter_b) as (λ b. P b (cond b Kind.B (cond (eqb kind letter_r) Kind.R Kind.P))) [
              | true ↦ boundary
              | false ↦ (elim (eqb kind letter_r) as (λ b. P false (cond b Kind.R Kind.P)) [ true ↦ done | false ↦ step ])
            ])
      ]) neither

-- ---- what is done, by the kind

-- the line with this head whose share begins at this place
abbrev pub line_from : LineHead → Columns → ℕ → Line
line_from head x base = view_line head (rows_from x base readings_per_line)

module _ (head : LineHead) (x : Columns) (base : ℕ) (small : head.kept ≤ readings_per_line) where
  pub kept_rows : (line_from head x base).kept ≡ rows_from x base head.kept
  unfolding view_line
  kept_rows = take_rows x base readings_per_line head.kept small

  length_kept : length (line_from head x base).kept ≡ head.kept
  length_kept = ap length kept_rows ∙ length_rows_from x base head.kept

  -- where a reading is not refused, its line has a free place
  pub place_free :
      (kind : ℕ) → is_reading kind ≡ true → is_full (line_from head x base) (kind_of kind) ≡ false → head.kept < readings_per_line
  unfolding is_full uses
  place_free kind reading =
      let kept : ℕ = length (line_from head x base).kept in
      let below : leb readings_per_line kept ≡ false → head.kept < readings_per_line =
      λ e. omega (arith, leb-false readings_per_line kept e, length_kept) in
      kind_reading kind (λ b κ. is_full (line_from head x base) κ ≡ false → head.kept < readings_per_line) reading below below

-- the head and the store that an input of this kind leaves
abbrev pub Done : LineHead → Columns → ℕ → Call → Kind → LineHead → Columns → Type 0
Done head x base k kind next y =
    (next ≡ head_of (on_line k kind (line_from head x base)))
    × (y ≡ with_kept x base head.kept (on_line k kind (line_from head x base)).kept)

-- a head with other numbers
abbrev head_with : ReadingTime → ℕ → ℕ → ℕ → LineHead
head_with boundary last stable kept =
    record { boundary = boundary; last_id = last; last_stable_id = stable; kept = kept }

module _ (head : LineHead) (x : Columns) (base : ℕ) (k : Call) (small : head.kept ≤ readings_per_line) where
  abbrev line : Line
  line = line_from head x base

  one_more : (r : Reading) → head.kept + 1 ≡ length (line.kept ++ r ∷ [])
  one_more r = sym (length-append line.kept (r ∷ []) ∙ ap (λ (n : ℕ). n + 1) (length_kept head x base small))

  reading_put :
      {y : Columns} {r : Reading} → r ≡ reading_of k → y ≡ with_rows_at x (base + head.kept) (r ∷ []) →
      y ≡ with_kept x base head.kept (line.kept ++ reading_of k ∷ [])
  reading_put e put = put ∙ rw (e, kept_rows head x base small) (sym (kept_more x base head.kept (reading_of k)))

  -- the head with one reading more, stable or not
  abbrev head_more : Bool → ℕ → LineHead
  head_more stable kept = head_with head.boundary k.id (cond stable k.id head.last_stable_id) kept

  pub reading_done :
      {y : Columns} {r : Reading} {next : LineHead} → r ≡ reading_of k → y ≡ with_rows_at x (base + head.kept) (r ∷ []) →
      is_reading k.kind ≡ true → next ≡ head_more (eqb k.kind letter_s) (head.kept + 1) →
      Done head x base k (kind_of k.kind) next y
  unfolding head_of on_line view_line reading_of
  reading_done {y} {r} {next} e put either =
      kind_reading k.kind (λ b kind. next ≡ head_more b (head.kept + 1) → Done head x base k kind next y) either
      (λ made. (made ∙ ap (head_more true) (one_more (reading_of k)), reading_put e put))
      (λ made. (made ∙ ap (head_more false) (one_more (reading_of k)), reading_put e put))

  -- the rows up to the undo's id, from the rows that were kept
  abbrev up_to : List Reading
  up_to = keep (λ (q : Reading). leb q.id k.id) (rows_from x base head.kept)

  pub undo_done :
      {y : Columns} {left : ℕ} {next : LineHead} → left ≡ length up_to → y ≡ with_kept x base head.kept up_to →
      k.kind ≡ letter_u → next ≡ head_with head.boundary k.id head.last_stable_id left →
      Done head x base k (kind_of k.kind) next y
  unfolding head_of on_line view_line
  undo_done count cut is made =
      rw (kind_U k.kind is, take_rows x base readings_per_line head.kept small)
      (made ∙ ap (head_with head.boundary k.id head.last_stable_id) count, cut)

  -- a share that keeps what it kept
  share_left : x ≡ with_kept x base head.kept line.kept
  share_left = rw (kept_rows head x base small) (sym (kept_all x base head.kept))

  line_left : {next : LineHead} (kind : Kind) → next ≡ head → on_line k kind line ≡ line → Done head x base k kind next x
  line_left kind made same =
      let wide = length_rows_from x base readings_per_line in
      rw same (made ∙ sym (head_same head (rows_from x base readings_per_line) (omega (arith, wide))), share_left)

  -- the head with a new boundary or the old one
  abbrev head_at : Bool → ℕ → LineHead
  head_at new kept = head_with (cond new k.time head.boundary) head.last_id head.last_stable_id kept

  pub other_done :
      {next : LineHead} → is_reading k.kind ≡ false → (k.kind ≡ letter_u → ⊥) →
      next ≡ head_at (eqb k.kind letter_b) head.kept → Done head x base k (kind_of k.kind) next x
  unfolding head_of on_line view_line
  other_done {next} neither notU =
      kind_other k.kind (λ b kind. next ≡ head_at b head.kept → Done head x base k kind next x) neither notU
      (λ made. (made ∙ ap (head_at true) (sym (length_kept head x base small)), share_left))
      (λ made. line_left Kind.R made refl)
      (λ made. line_left Kind.P made refl)
