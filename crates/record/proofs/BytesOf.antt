-- A record's bytes give its fields back, and 32 bytes with two zeros in place are the bytes of the fields read from them.
-- Each word goes there and back by the laws of its encoding; the places add up by computing.
use mathlib.Core.Path.{◌≡◌, refl, sym, ap, ◌∙◌}
use mathlib.Core.List.{List, [], ◌∷◌, ◌++◌}
use Prim.Native.Nat.{ℕ, zero, suc, ◌+◌, ◌-◌, ◌^◌, ◌<◌, ◌≤◌}
use native.Mathlib.Omega.{arith}
use lib.IntN.{ℤ}
use lib.Signed.{mag}
use lib.ListN.{length, get_or, take, drop, length-drop}
use lib.Seq.{take_all, take-add, length-take-le}
use Rattle.signed.specs.Twos.{twos, signed_of}
use Rattle.signed.proofs.Twos.{twos_fits, signed_of_twos, signed_of_fits, twos_signed_of}
use Rattle.endian.specs.LittleEndian.{little_endian, number_of}
use Rattle.endian.proofs.LittleEndian.{number_of_little_endian, little_endian_number_of, number_of_bound, are_bytes_little_endian, are_bytes_append, are_bytes_take, are_bytes_drop, AreBytes}
use Rattle.record.specs.declared.Record.{Record}
use Rattle.record.specs.Layout.{bytes_of}
use Rattle.record.specs.Fields.{word_at, fields_of}
use Rattle.record.specs.Within.{Within}

pub length_bytes_of : (r : Record) → length (bytes_of r) ≡ 32
unfolding bytes_of little_endian
length_bytes_of r = refl

-- ---- from a record to its bytes and back

-- a signed number, as the word of its width
signed_back :
    (width bits : ℕ) (z : ℤ) → 256 ^ width ≡ 2 ^ bits → 1 ≤ bits → mag z < 2 ^ (bits - 1) →
    signed_of bits (number_of (little_endian width (twos bits z))) ≡ z
signed_back width bits z e some fits = rw (number_of_little_endian width (twos bits z) (rw e (twos_fits bits z fits))) (signed_of_twos bits z some fits)

pub fields_of_bytes_of : (r : Record) → Within r → fields_of (bytes_of r) ≡ r
unfolding fields_of bytes_of word_at little_endian
fields_of_bytes_of r w =
    let id = number_of_little_endian 4 r.id w.id in
    let time = number_of_little_endian 4 r.time.0 w.time in
    let count = number_of_little_endian 4 r.count w.count in
    let sum = signed_back 8 64 r.sum refl (omega arith) w.sum in
    let mean = signed_back 4 32 r.mean refl (omega arith) w.mean in
    let last = signed_back 4 32 r.last refl (omega arith) w.last in
    λ i. record { sum = sum i; id = id i; time = record { 0 = time i }; count = count i; mean = mean i; last = last i; kind = r.kind; meter = r.meter }

-- a word behind bytes
are_bytes_word : (a : List ℕ) (width x : ℕ) → AreBytes a → AreBytes (a ++ little_endian width x)
are_bytes_word a width x h = are_bytes_append a (little_endian width x) h (are_bytes_little_endian width x)

-- the words are bytes whatever they are made of
pub are_bytes_bytes_of : (r : Record) → r.kind < 2 ^ 8 → r.meter < 2 ^ 8 → AreBytes (bytes_of r)
unfolding bytes_of
are_bytes_bytes_of r kind meter =
    let tag = r.kind ∷ r.meter ∷ 0 ∷ 0 ∷ [] in
    let id = tag ++ little_endian 4 r.id in
    let time = id ++ little_endian 4 r.time.0 in
    let count = time ++ little_endian 4 r.count in
    let sum = count ++ little_endian 8 (twos 64 r.sum) in
    let mean = sum ++ little_endian 4 (twos 32 r.mean) in
    are_bytes_word mean 4 (twos 32 r.last)
    (are_bytes_word sum 4 (twos 32 r.mean)
    (are_bytes_word count 8 (twos 64 r.sum)
    (are_bytes_word time 4 r.count (are_bytes_word id 4 r.time.0 (are_bytes_word tag 4 r.id bytes)))))
  where
    bytes : AreBytes (r.kind ∷ r.meter ∷ 0 ∷ 0 ∷ [])
    bytes zero = kind
    bytes (suc zero) = meter
    bytes (suc (suc zero)) = omega arith
    bytes (suc (suc (suc zero))) = omega arith
    bytes (suc (suc (suc (suc i)))) = omega arith

-- a claim of its own: no two records have the same bytes
pub bytes_of_injective : (r s : Record) → Within r → Within s → bytes_of r ≡ bytes_of s → r ≡ s
bytes_of_injective r s v w e = sym (fields_of_bytes_of r v) ∙ ap fields_of e ∙ fields_of_bytes_of s w

-- ---- from bytes to a record and back

-- the bytes of the word that stands at a place are what stands there
module _ (b : List ℕ) (h : AreBytes b) (at width : ℕ) (fits : at + width ≤ length b) where
  length_part : length (take width (drop at b)) ≡ width
  length_part = length-take-le width (drop at b) (omega (arith, length-drop at b))

  little_endian_word_at : little_endian width (word_at at width b) ≡ take width (drop at b)
  unfolding word_at
  little_endian_word_at = rw length_part at (little_endian_number_of (take width (drop at b)) (are_bytes_take width (drop at b) (are_bytes_drop at b h)))

  word_at_bound : word_at at width b < 256 ^ width
  unfolding word_at
  word_at_bound = rw length_part at (number_of_bound (take width (drop at b)) (are_bytes_take width (drop at b) (are_bytes_drop at b h)))

  -- also where the word is read as a signed number of so many bits, and written as a word again
  little_endian_signed_at :
      (bits : ℕ) → 256 ^ width ≡ 2 ^ bits → little_endian width (twos bits (signed_of bits (word_at at width b))) ≡ take width (drop at b)
  little_endian_signed_at bits e = rw (twos_signed_of bits (word_at at width b) (rw e at word_at_bound)) little_endian_word_at

first_four : (b : List ℕ) → 4 ≤ length b → take 4 b ≡ get_or b 0 0 ∷ get_or b 1 0 ∷ get_or b 2 0 ∷ get_or b 3 0 ∷ []
first_four [] h = absurd (omega arith)
first_four (_ ∷ []) h = absurd (omega arith)
first_four (_ ∷ _ ∷ []) h = absurd (omega arith)
first_four (_ ∷ _ ∷ _ ∷ []) h = absurd (omega arith)
first_four (_ ∷ _ ∷ _ ∷ _ ∷ b) h = refl

-- 32 bytes cut at the fields
cut : (b : List ℕ) → length b ≡ 32
    → take 4 b ++ take 4 (drop 4 b) ++ take 4 (drop 8 b) ++ take 4 (drop 12 b) ++ take 8 (drop 16 b) ++ take 4 (drop 24 b) ++ take 4 (drop 28 b) ≡ b
cut b h = cc (take-add 4 4 b, take-add 8 4 b, take-add 12 4 b, take-add 16 8 b, take-add 24 4 b, take-add 28 4 b, take_all 32 b (omega arith))

module _ (b : List ℕ) (h : AreBytes b) (whole : length b ≡ 32) where
  pub within_fields_of : Within (fields_of b)
  unfolding fields_of
  within_fields_of =
      record {
        kind = h 0;
        meter = h 1;
        id = word_at_bound b h 4 4 (omega arith);
        time = word_at_bound b h 8 4 (omega arith);
        count = word_at_bound b h 12 4 (omega arith);
        sum = signed_of_fits 64 (word_at 16 8 b) (word_at_bound b h 16 8 (omega arith));
        mean = signed_of_fits 32 (word_at 24 4 b) (word_at_bound b h 24 4 (omega arith));
        last = signed_of_fits 32 (word_at 28 4 b) (word_at_bound b h 28 4 (omega arith));
      }

  pub bytes_of_fields_of : get_or b 2 0 ≡ 0 → get_or b 3 0 ≡ 0 → bytes_of (fields_of b) ≡ b
  unfolding bytes_of fields_of
  bytes_of_fields_of third fourth =
      let tag : get_or b 0 0 ∷ get_or b 1 0 ∷ 0 ∷ 0 ∷ [] ≡ take 4 b = cc (first_four b (omega arith)) in
      rw (
        little_endian_word_at b h 4 4 (omega arith),
        little_endian_word_at b h 8 4 (omega arith),
        little_endian_word_at b h 12 4 (omega arith),
        little_endian_signed_at b h 16 8 (omega arith) 64 refl,
        little_endian_signed_at b h 24 4 (omega arith) 32 refl,
        little_endian_signed_at b h 28 4 (omega arith) 32 refl,
      )
      (ap (λ (l : List ℕ). l ++ take 4 (drop 4 b) ++ take 4 (drop 8 b) ++ take 4 (drop 12 b) ++ take 8 (drop 16 b) ++ take 4 (drop 24 b) ++ take 4 (drop 28 b)) tag ∙ cut b whole)
