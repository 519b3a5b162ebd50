-- A field is read exactly if the text has it: the key, the number as it is written, and no further digit behind it.
use mathlib.Core.Path.{◌≡◌, refl, sym, ap, ◌∙◌}
use mathlib.Core.Bool.{Bool, true, false, cond}
use mathlib.Core.List.{List, [], ◌∷◌, ◌++◌, append_assoc}
use Prim.Native.Nat.{ℕ, zero, suc, ◌+◌, ◌-◌, ◌<◌, ◌≤◌, ◌^◌}
use native.Mathlib.Omega.{arith}
use native.Mathlib.Nat.{add-zero}
use native.Mathlib.Numerals.{add-one}
use lib.IntN.{ℤ}
use lib.ListN.{length, get_or, drop, length-append, get_or-eq_default}
use lib.Seq.{drop-cons, get_or-drop, drop-append_seam}
use borrow.Author.Tests.{eq-eqb, eqb-true}
use mir.Syntax.{w32}
use mir.Val.{SFits}
use Rattle.std.specs.Prelude.{Option, Some, None}
use Rattle.decimal.specs.Decimal.{digits, decimal}
use Rattle.decimal.specs.Spelled.{is_digit, NoDigit, Ended, number_at, integer_at}
use Rattle.decimal.proofs.Numbers.{number_end}
use Rattle.decimal.proofs.NumberText.{number_sound, number_complete}
use Rattle.decimal.proofs.Integers.{integer_sound, integer_complete, integer_end}
use Rattle.fields.specs.Line.{line_of}
use Rattle.fields.specs.Field.{starts_with, ends_line, number_field, integer_field, with_field}
use Rattle.fields.proofs.Keys.{starts_sound, starts_complete}
use Rattle.fields.proofs.Spells.{Spells, spells_append, spells_rest, spells_front}

-- a byte other than 0 stands inside the text
pub get_d_inside : (s : List ℕ) (i : ℕ) → 0 < get_or s i 0 → i < length s
get_d_inside [] i h = absurd (omega arith)
get_d_inside (b ∷ s) zero h = omega arith
get_d_inside (b ∷ s) (suc i) h = omega (arith, get_d_inside s i h)

-- an answer that was picked by a test and is not the other one
module _ {A : Type 0} where
  pub picked : (t : Bool) (x y z : A) → cond t x y ≡ z → (y ≡ z → ⊥) → (t ≡ true) × (x ≡ z)
  picked true x y z e n = (refl, e)
  picked false x y z e n = absurd (n e)

-- a field of any kind: its key stands there, and behind it what its reader x finds; `none` is that reader's refusal
module _ {A : Type 0} (key s t : List ℕ) (at : ℕ) (x none z : A) where
  pub field_sound :
      (e : ℕ) → (x ≡ z → Spells s (at + length key) t e) → (none ≡ z → ⊥) → cond (starts_with key (drop at s)) x none ≡ z →
      Spells s at (key ++ t) e
  field_sound e reads n q =
      let p = picked (starts_with key (drop at s)) x none z q n in
      spells_append (spells_front s key (drop (length key) (drop at s)) at (starts_sound key (drop at s) p.0)) (reads p.1)

  pub field_complete :
      (r : List ℕ) → (drop (at + length key) s ≡ t ++ r → x ≡ z) → drop at s ≡ (key ++ t) ++ r →
      cond (starts_with key (drop at s)) x none ≡ z
  field_complete r reads p =
      let p' : drop at s ≡ key ++ (t ++ r) = p ∙ append_assoc key t r in
      let stands : starts_with key (drop at s) ≡ true = rw p' (starts_complete key (t ++ r)) in
      rw stands (reads (spells_rest s key (t ++ r) at p'))

module _ {V : Type 0} where
  pub no_field : (v : V) (e : ℕ) → ◌≡◌ {A = Option (V × ℕ)} None (Some (v, e)) → ⊥
  no_field v e q = cc

behind : (key t : List ℕ) (at : ℕ) → at + length key + length t ≡ at + length (key ++ t)
behind key t at = omega (arith, length-append key t)

module _ (key s : List ℕ) (most at v : ℕ) (h : most < 2 ^ 64) where
  pub number_field_sound : (e : ℕ) → number_field key most s at ≡ Some (v, e) → Spells s at (key ++ digits v) e × (v ≤ most)
  unfolding number_field
  number_field_sound e q =
      let read = (picked (starts_with key (drop at s)) (number_at most s (at + length key)) None (Some (v, e)) q (no_field v e)).1 in
      let found = number_sound most s (at + length key) v e h in (
        field_sound key s (digits v) at (number_at most s (at + length key)) None (Some (v, e)) e (λ x. record { text = (found x).0; end = (found x).2 }) (no_field v e) q,
        (found read).1,
      )

  pub number_field_complete :
      {G : Type 0} (r : List ℕ) → v ≤ most → NoDigit r → drop at s ≡ (key ++ digits v) ++ r →
      ((e : ℕ) → e ≡ at + length (key ++ digits v) → number_field key most s at ≡ Some (v, e) → drop e s ≡ r → G) → G
  unfolding number_field
  number_field_complete r l n p k =
      let read =
      field_complete key s (digits v) at (number_at most s (at + length key)) None (Some (v, at + length (key ++ digits v))) r
      (λ found. number_complete most s (at + length key) v r found n l h ∙ ap (λ (e : ℕ). Some (v, e)) (behind key (digits v) at))
      p in
      k (at + length (key ++ digits v)) refl read (spells_rest s (key ++ digits v) r at p)

module _ (key s : List ℕ) (at : ℕ) (v : ℤ) where
  pub integer_field_sound : (e : ℕ) → integer_field key s at ≡ Some (v, e) → Spells s at (key ++ decimal v) e × SFits w32 v
  unfolding integer_field
  integer_field_sound e q =
      let read = (picked (starts_with key (drop at s)) (integer_at s (at + length key)) None (Some (v, e)) q (no_field v e)).1 in
      let found = integer_sound s (at + length key) v e in (
        field_sound key s (decimal v) at (integer_at s (at + length key)) None (Some (v, e)) e (λ x. record { text = (found x).0; end = (found x).2 }) (no_field v e) q,
        (found read).1,
      )

  pub integer_field_complete :
      {G : Type 0} (r : List ℕ) → SFits w32 v → NoDigit r → drop at s ≡ (key ++ decimal v) ++ r →
      ((e : ℕ) → e ≡ at + length (key ++ decimal v) → integer_field key s at ≡ Some (v, e) → drop e s ≡ r → G) → G
  unfolding integer_field
  integer_field_complete r f n p k =
      let read =
      field_complete key s (decimal v) at (integer_at s (at + length key)) None (Some (v, at + length (key ++ decimal v))) r
      (λ found. integer_complete s (at + length key) v r found n f ∙ ap (λ (e : ℕ). Some (v, e)) (behind key (decimal v) at))
      p in
      k (at + length (key ++ decimal v)) refl read (spells_rest s (key ++ decimal v) r at p)

-- the place behind a field lies within the text
pub number_field_within :
    (key : List ℕ) (most : ℕ) (s : List ℕ) (at v e : ℕ) → number_field key most s at ≡ Some (v, e) → e ≤ length s
unfolding number_field
number_field_within key most s at v e q =
    number_end most s (at + length key) v e
    (picked (starts_with key (drop at s)) (number_at most s (at + length key)) None (Some (v, e)) q (no_field v e)).1

pub integer_field_within :
    (key s : List ℕ) (at : ℕ) (v : ℤ) (e : ℕ) → integer_field key s at ≡ Some (v, e) → e ≤ length s
unfolding integer_field
integer_field_within key s at v e q =
    integer_end s (at + length key) v e
    (picked (starts_with key (drop at s)) (integer_at s (at + length key)) None (Some (v, e)) q (no_field v e)).1

-- what a chain of fields answers, if it is not `none`, it answers behind a field that was read
module _ {V A G : Type 0} (none x : A) (differs : none ≡ x → ⊥) where
  pub with_field_lem :
      (f : Option (V × ℕ)) (go : V → ℕ → A) → with_field f none go ≡ x → ((v : V) (e : ℕ) → f ≡ Some (v, e) → go v e ≡ x → G) → G
  unfolding with_field
  with_field_lem (Some (v, e)) go q k = k v e refl q
  with_field_lem None go q k = absurd (differs q)

-- the end of a line
pub end_inside : (s : List ℕ) (at : ℕ) → ends_line s at ≡ true → at < length s
unfolding ends_line
end_inside s at q = get_d_inside s at (omega (arith, eqb-true (get_or s at 0) 10 q))

pub end_sound : (s : List ℕ) (at : ℕ) → ends_line s at ≡ true → Spells s at (10 ∷ []) (at + 1)
unfolding ends_line
end_sound s at q =
    let byte : get_or s at 0 ≡ 10 = eqb-true (get_or s at 0) 10 q in
    let inside : at < length s = get_d_inside s at (omega arith) in
    record { text = rw (drop-cons s at 0 inside, byte, add-one); end = omega arith }

pub end_complete : (s r : List ℕ) (at : ℕ) → drop at s ≡ (10 ∷ []) ++ r → ends_line s at ≡ true
unfolding ends_line
end_complete s r at p =
    eq-eqb (get_or s at 0) 10 (ap (λ (n : ℕ). get_or s n 0) (sym (add-zero at)) ∙ sym (get_or-drop at s 0 0) ∙ ap (λ (l : List ℕ). get_or l 0 0) p)

pub no_end_past : (s : List ℕ) (at : ℕ) → length s ≤ at → ends_line s at ≡ false
unfolding ends_line
no_end_past s at h = rw (get_or-eq_default s 0 h)

-- a text that ends with 0A ends with no digit
pub line_ended : (s : List ℕ) → ends_line s (length s - 1) ≡ true → Ended s
unfolding ends_line is_digit
line_ended s q = rw (eqb-true (get_or s (length s - 1) 0) 10 q)

-- a line as it is written ends with 0A
ends_behind : (a t : List ℕ) → ends_line t (length t - 1) ≡ true → ends_line (a ++ t) (length (a ++ t) - 1) ≡ true
unfolding ends_line
ends_behind a t q =
    let place : length (a ++ t) - 1 ≡ length a + (length t - 1) = omega (arith, length-append a t, end_inside t (length t - 1) q) in
    rw (place, ← get_or-drop (length a) (a ++ t) (length t - 1) 0, drop-append_seam a t) q

pub line_ends : (fs : List (List ℕ)) → ends_line (line_of fs) (length (line_of fs) - 1) ≡ true
unfolding ends_line line_of
line_ends [] = refl
line_ends (f ∷ []) = ends_behind f (10 ∷ []) refl
line_ends (f ∷ g ∷ fs) = ends_behind f (32 ∷ line_of (g ∷ fs)) (ends_behind (32 ∷ []) (line_of (g ∷ fs)) (line_ends (g ∷ fs)))
