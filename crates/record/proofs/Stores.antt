-- What the writer's runs of stores come to: each laid behind the one before, they are a record's bytes.
use mathlib.Core.Path.{◌≡◌, refl, ap, ◌∙◌}
use mathlib.Core.List.{List, [], ◌∷◌, ◌++◌}
use Prim.Native.Nat.{ℕ, ◌+◌, ◌-◌, ◌≤◌}
use native.Mathlib.Omega.{arith}
use lib.ListN.{length, take, drop, take-append-drop}
use lib.Seq.{length-take-le}
use borrow.Rule.Slice.PartMut.{put_mid}
use Rattle.area.specs.Laid.{laid, in_front}
use Rattle.area.proofs.Laid.{laid_laid, laid_front}
use Rattle.area.proofs.Lent.{lent_in_front}
use Rattle.std.proofs.lemmas.Int.{to_z-of_z}
use Rattle.signed.specs.Twos.{twos}
use Rattle.endian.specs.LittleEndian.{little_endian}
use Rattle.record.specs.declared.Record.{Record}
use Rattle.record.specs.Sizes.{record_bytes}
use Rattle.record.specs.Layout.{bytes_of}
use Rattle.record.proofs.BytesOf.{length_bytes_of}

-- bytes laid down in two runs from the first place on are a new front
pub halves_laid : (l b : List ℕ) (n : ℕ) → n ≤ length b → length b ≤ length l → laid (laid l 0 (take n b)) n (drop n b) ≡ in_front b l
halves_laid l b n h fits =
    laid_laid l 0 n (take n b) (drop n b) (omega (arith, length-take-le n b h))
    ∙ ap (laid l 0) (take-append-drop n b)
    ∙ laid_front l b fits

module _ (l : List ℕ) (r : Record) where
  -- tag, id and time
  pub head_laid_lem :
      laid (laid (laid l 0 (r.kind ∷ r.meter ∷ 0 ∷ 0 ∷ [])) 4 (little_endian 4 r.id)) 8 (little_endian 4 r.time.0) ≡
      laid l 0 (take 12 (bytes_of r))
  unfolding bytes_of little_endian
  head_laid_lem =
      let tag = r.kind ∷ r.meter ∷ 0 ∷ 0 ∷ [] in
      let id = little_endian 4 r.id in
      let time = little_endian 4 r.time.0 in
      ap (λ (x : List ℕ). laid x 8 time) (laid_laid l 0 4 tag id refl) ∙ laid_laid l 0 8 (tag ++ id) time refl

  -- count, sum, mean and last, the signed ones by their words
  pub values_laid :
      laid (laid (laid (laid l 12 (little_endian 4 r.count)) 16 (little_endian 8 (twos 64 r.sum))) 24 (little_endian 4 (twos 32 r.mean)))
      28 (little_endian 4 (twos 32 r.last)) ≡
      laid l 12 (drop 12 (bytes_of r))
  unfolding bytes_of little_endian
  values_laid =
      let count = little_endian 4 r.count in
      let sum = little_endian 8 (twos 64 r.sum) in
      let mean = little_endian 4 (twos 32 r.mean) in
      let last = little_endian 4 (twos 32 r.last) in
      ap (λ (x : List ℕ). laid (laid x 24 mean) 28 last) (laid_laid l 12 16 count sum refl) ∙
      ap (λ (x : List ℕ). laid x 28 last) (laid_laid l 12 24 (count ++ sum) mean refl) ∙
      laid_laid l 12 28 (count ++ sum ++ mean) last refl

  -- the first twelve bytes and the other twenty
  pub record_laid :
      record_bytes ≤ length l → laid (laid l 0 (take 12 (bytes_of r))) 12 (drop 12 (bytes_of r)) ≡ in_front (bytes_of r) l
  record_laid fits =
      let size = length_bytes_of r in halves_laid l (bytes_of r) 12 (omega arith) (omega arith)

-- for a caller that lends the writer the part of its area from a place on: what the whole area holds once the part is back
pub record_lent : (area part : List ℕ) (r : Record) (at : ℕ) → part ≡ in_front (bytes_of r) (take (length area - at) (drop at area))
    → put_mid at (length area - at) area part ≡ take at area ++ bytes_of r ++ drop (at + 32) area
record_lent area part r at e = rw (e, ← length_bytes_of r) (lent_in_front area (bytes_of r) at)

-- for the writer of the signed numbers, which are within their widths
pub ruleset values = (values_laid, to_z-of_z)
