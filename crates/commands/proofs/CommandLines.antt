-- A line with a display and an id is read exactly if the text is it: each stretch of the text is a field's, and stretches join to the line.
use mathlib.Core.Path.{◌≡◌, refl, ap, subst, ◌∙◌}
use mathlib.Core.Logic.{◌↔◌}
use mathlib.Core.Bool.{◌&&◌, and-eq-true_iff}
use mathlib.Core.List.{List, [], ◌∷◌, ◌++◌, append_assoc}
use Prim.Native.Nat.{ℕ, ◌+◌, ◌-◌, ◌^◌}
use native.Mathlib.Omega.{arith}
use borrow.Author.Tests.{eq-eqb, eqb-true}
use lib.Dec.{eqb}
use lib.ListN.{length, drop, length-append}
use Rattle.std.specs.Prelude.{Option, Some, None}
use Rattle.decimal.specs.Decimal.{digits, decimal}
use Rattle.decimal.specs.Spelled.{is_digit}
use Rattle.fields.specs.Keys.{display_key, id_key}
use Rattle.fields.specs.Line.{field, line_of}
use Rattle.fields.specs.Field.{ends_line, with_field, later}
use Rattle.fields.proofs.Spells.{Spells, spells_append, spells_whole, whole_spelled}
use Rattle.fields.proofs.Fields.{picked, number_field_sound, number_field_complete, with_field_lem, end_sound, end_complete}
use Rattle.commands.specs.CommandLine.{display_text, IsLine}
use Rattle.commands.specs.ReadLine.{widest_id, display_line_of}

module _ (word : List ℕ) where
  -- the line up to the display's number
  abbrev start : List ℕ
  start = word ++ later display_key

  -- the line as the stretches that its fields are read from
  unfoldable stretches : ℕ → ℕ → List ℕ
  stretches display id =
      (start ++ digits display) ++ ((later id_key ++ digits id) ++ (10 ∷ []))

  text_stretches : (display id : ℕ) → display_text word display id ≡ stretches display id
  unfolding display_text stretches line_of field decimal
  text_stretches display id = simp append_assoc

  none : (display id : ℕ) → ◌≡◌ {A = Option (ℕ × ℕ)} None (Some (display, id)) → ⊥
  none display id q = cc

  -- what is claimed of an answer that is a line
  abbrev Claim : List ℕ → Option (ℕ × ℕ) → Type 0
  Claim text (Some (display, id)) = IsLine (display_text word) text display id
  Claim text None = Unit {0}

  -- what is read is the text
  line_sound :
      (text : List ℕ) (display id : ℕ) → display_line_of start text ≡ Some (display, id) →
      IsLine (display_text word) text display id
  unfolding display_line_of stretches
  line_sound text display id q =
      let z : Option (ℕ × ℕ) = None in
      let y : Option (ℕ × ℕ) = Some (display, id) in
      let no = none display id in
      with_field_lem z y no _ _ q λ d e1 q1 g1.
      with_field_lem z y no _ _ g1 λ i e2 q2 g2.
      let p = picked (ends_line text e2 && eqb (e2 + 1) (length text)) (Some (d, i)) z y g2 no in
      let ends = (and-eq-true_iff (ends_line text e2) (eqb (e2 + 1) (length text))).0 p.0 in
      let f1 = number_field_sound start text (2 ^ 32 - 1) 0 d (omega arith) e1 q1 in
      let f2 = number_field_sound (later id_key) text widest_id e1 i (omega arith) e2 q2 in
      let spelled : Spells text 0 (display_text word d i) (e2 + 1) =
      rw (text_stretches d i) (spells_append f1.0 (spells_append f2.0 (end_sound text e2 ends.0))) in
      subst (Claim text) p.1 (
        omega (arith, f1.1),
        omega (arith, f2.1),
        spells_whole text (display_text word d i) (e2 + 1) spelled (eqb-true (e2 + 1) (length text) ends.1),
      )

  -- a text that is a line is read
  line_complete :
      (text : List ℕ) (display id : ℕ) → IsLine (display_text word) text display id →
      display_line_of start text ≡ Some (display, id)
  unfolding display_line_of stretches with_field is_digit
  line_complete text display id is =
      let line = display_text word display id in
      let p0 : drop 0 text ≡ stretches display id ++ [] = whole_spelled text line is.2 ∙ ap (λ (t : List ℕ). t ++ []) (text_stretches display id) in
      number_field_complete start text (2 ^ 32 - 1) 0 display (omega arith) _ (omega (arith, is.0)) refl (p0 ∙ append_assoc (start ++ digits display) _ []) λ e1 n1 q1 p1.
      number_field_complete (later id_key) text widest_id e1 id (omega arith) _ (omega (arith, is.1)) refl (p1 ∙ append_assoc (later id_key ++ digits id) _ []) λ e2 n2 q2 p2.
      let size : length text ≡ length (stretches display id) = ap length is.2 ∙ ap length (text_stretches display id) in
      let end : e2 + 1 ≡ length text = omega (arith, simp length-append at size, simp length-append at n1) in
      rw (q1, q2, end_complete text [] e2 p2, eq-eqb (e2 + 1) (length text) end)

  pub line_exact :
      (text : List ℕ) (display id : ℕ) →
      (display_line_of (word ++ later display_key) text ≡ Some (display, id)) ↔ IsLine (display_text word) text display id
  line_exact text display id = (line_sound text display id, line_complete text display id)
