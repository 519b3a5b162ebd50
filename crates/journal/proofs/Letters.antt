-- A letter field is read exactly if the text has it.
use mathlib.Core.Path.{◌≡◌, refl, sym, ap, ◌∙◌}
use mathlib.Core.Bool.{true, false}
use mathlib.Core.List.{List, [], ◌∷◌, ◌++◌}
use Prim.Native.Nat.{ℕ, zero, suc, ◌+◌, ◌<◌, ◌≤◌}
use native.Mathlib.Omega.{arith}
use borrow.Author.Tests.{ne_eqb, ltb-true, ltb-false}
use lib.Dec.{ltb}
use lib.ListN.{length, get_or, drop, length-append, get_or-eq_default}
use lib.Seq.{drop-cons}
use Rattle.std.specs.Prelude.{Option, Some, None}
use Rattle.decimal.proofs.Pairs.{same_read}
use Rattle.decimal.proofs.Runs.{head_drop}
use Rattle.fields.specs.Field.{starts_with}
use Rattle.fields.proofs.Spells.{Spells, spells_rest}
use Rattle.fields.proofs.Fields.{picked, field_sound, field_complete, get_d_inside}
use Rattle.journal.specs.Kinds.{letter_s, letter_t, letter_b, letter_u, letter_r, letter_p, is_letter}
use Rattle.journal.specs.ReadLine.{letter_at, letter_field}

-- a byte that is none of the six
pub no_such_letter :
    (b : ℕ) → (b ≡ letter_s → ⊥) → (b ≡ letter_t → ⊥) → (b ≡ letter_b → ⊥) → (b ≡ letter_u → ⊥) → (b ≡ letter_r → ⊥) → (b ≡ letter_p → ⊥) →
    is_letter b ≡ false
unfolding is_letter
no_such_letter b s t d u r p = rw (ne_eqb b letter_s s, ne_eqb b letter_t t, ne_eqb b letter_b d, ne_eqb b letter_u u, ne_eqb b letter_r r, ne_eqb b letter_p p)

-- a letter is no zero byte
no_letter : is_letter 0 ≡ true → ⊥
unfolding is_letter
no_letter e = let z : ◌≡◌ {A = ℕ} 0 1 = cc in omega arith

letter_some : (b : ℕ) → is_letter b ≡ true → 0 < b
letter_some zero e = absurd (no_letter e)
letter_some (suc b) e = omega arith

-- a letter is a byte
pub letter_byte : (b : ℕ) → is_letter b ≡ true → b < 256
letter_byte b e = (elim (ltb b 256) as (λ t. ltb b 256 ≡ t → b < 256) [ true ↦ λ t. ltb-true b 256 t | false ↦ λ t. absurd (large (ltb-false b 256 t)) ]) refl
  where
    large : 256 ≤ b → ⊥
    large h = let f : is_letter b ≡ false = no_such_letter b (λ q. omega arith) (λ q. omega arith) (λ q. omega arith) (λ q. omega arith) (λ q. omega arith) (λ q. omega arith) in let z : ◌≡◌ {A = ℕ} 0 1 = cc in omega arith

letter_at_sound : (s : List ℕ) (at k e : ℕ) → letter_at s at ≡ Some (k, e) → Spells s at (k ∷ []) e × (is_letter k ≡ true)
unfolding letter_at
letter_at_sound s at k e q =
    let p = picked {A = Option (ℕ × ℕ)} (is_letter (get_or s at 0)) (Some (get_or s at 0, at + 1)) None (Some (k, e)) q (λ n. cc) in
    let byte = same_read (get_or s at 0) k (at + 1) e p.1 in
    let inside : at < length s = get_d_inside s at (letter_some (get_or s at 0) p.0) in
    let next : suc at ≡ e = omega (arith, byte.1) in
    let after : drop (suc at) s ≡ drop e s = ap (λ (n : ℕ). drop n s) next in
    (record { text = drop-cons s at 0 inside ∙ (cc); end = omega (arith, byte.1) }, ap is_letter (sym byte.0) ∙ p.0)

letter_at_complete : (s r : List ℕ) (at k : ℕ) → is_letter k ≡ true → drop at s ≡ (k ∷ []) ++ r → letter_at s at ≡ Some (k, at + 1)
unfolding letter_at
letter_at_complete s r at k l p =
    let byte : get_or s at 0 ≡ k = sym (head_drop at s) ∙ ap (λ (t : List ℕ). get_or t 0 0) p in
    rw (byte, l)

module _ (key s : List ℕ) (at k : ℕ) where
  pub letter_field_sound : (e : ℕ) → letter_field key s at ≡ Some (k, e) → Spells s at (key ++ (k ∷ [])) e × (is_letter k ≡ true)
  unfolding letter_field
  letter_field_sound e q =
      let read = (picked (starts_with key (drop at s)) (letter_at s (at + length key)) None (Some (k, e)) q (λ n. cc)).1 in (
        field_sound key s (k ∷ []) at (letter_at s (at + length key)) None (Some (k, e)) e (λ found. (letter_at_sound s (at + length key) k e found).0) (λ n. cc) q,
        (letter_at_sound s (at + length key) k e read).1,
      )

  pub letter_field_complete :
      {G : Type 0} (r : List ℕ) → is_letter k ≡ true → drop at s ≡ (key ++ (k ∷ [])) ++ r →
      ((e : ℕ) → e ≡ at + length (key ++ (k ∷ [])) → letter_field key s at ≡ Some (k, e) → drop e s ≡ r → G) → G
  unfolding letter_field
  letter_field_complete r l p go =
      let read =
      field_complete key s (k ∷ []) at (letter_at s (at + length key)) None (Some (k, at + length (key ++ (k ∷ [])))) r
      (λ found. letter_at_complete s r (at + length key) k l found ∙ ap (λ (n : ℕ). Some (k, n)) (omega (arith, length-append key (k ∷ []))))
      p in
      go (at + length (key ++ (k ∷ []))) refl read (spells_rest s (key ++ (k ∷ [])) r at p)

-- past the end of a text stands no letter
pub letter_past : (s : List ℕ) (at : ℕ) → length s ≤ at → letter_at s at ≡ None
unfolding letter_at is_letter
letter_past s at h = rw (get_or-eq_default s 0 h)
