-- A key's first four bytes compared as one word: two words are equal exactly if their bytes are, and then the bytes behind them decide.
use mathlib.Core.Path.{◌≡◌, refl, sym, ap, ap₂, ◌∙◌}
use mathlib.Core.Bool.{Bool, true, false}
use mathlib.Core.List.{List, ◌++◌}
use Prim.Native.Nat.{ℕ, ◌+◌, ◌≤◌}
use native.Mathlib.Omega.{arith}
use lib.ListN.{length, take, drop, length-drop, take-append-drop}
use lib.Seq.{take-append-le, drop-drop, length-take-le}
use Rattle.endian.specs.LittleEndian.{little_endian, number_of}
use Rattle.endian.proofs.LittleEndian.{AreBytes, little_endian_number_of, are_bytes_take, are_bytes_drop}
use Rattle.fields.specs.Field.{starts_with}
use Rattle.fields.proofs.Keys.{starts_sound, starts_behind}

-- bytes of the same number and count are the same
same_bytes : (a b : List ℕ) → AreBytes a → AreBytes b → length a ≡ length b → number_of a ≡ number_of b → a ≡ b
same_bytes a b p q n e = sym (little_endian_number_of a p) ∙ ap₂ little_endian n e ∙ little_endian_number_of b q

module _ (key s : List ℕ) (at : ℕ) (four : 4 ≤ length key) where
  -- where the first word is another, the key is not there
  pub word_differs : (number_of (take 4 (drop at s)) ≡ number_of (take 4 key) → ⊥) → starts_with key (drop at s) ≡ false
  word_differs n = by (starts_with key (drop at s)) refl
    where
      by : (x : Bool) → starts_with key (drop at s) ≡ x → x ≡ false
      by true e =
          let rest = drop (length key) (drop at s) in
          absurd (n (ap number_of (ap (take 4) (starts_sound key (drop at s) e) ∙ take-append-le 4 key rest four)))
      by false e = refl

  -- the words are equal: the bytes behind them are left to compare
  pub word_agrees :
      AreBytes key → AreBytes s → at + length key ≤ length s → number_of (take 4 (drop at s)) ≡ number_of (take 4 key) →
      starts_with (drop 4 key) (drop (at + 4) s) ≡ starts_with key (drop at s)
  word_agrees p q room e =
      let t = drop at s in
      let count = length-take-le 4 t (omega (arith, length-drop at s)) ∙ sym (length-take-le 4 key four) in
      let same : take 4 t ≡ take 4 key =
      same_bytes (take 4 t) (take 4 key) (are_bytes_take 4 t (are_bytes_drop at s q)) (are_bytes_take 4 key p) count e in
      let text : t ≡ take 4 key ++ drop (at + 4) s =
      sym (take-append-drop 4 t) ∙ ap₂ (λ (a b : List ℕ). a ++ b) same (drop-drop 4 at s) in
      sym (starts_behind (take 4 key) (drop 4 key) (drop (at + 4) s)) ∙ ap₂ starts_with (take-append-drop 4 key) (sym text)
