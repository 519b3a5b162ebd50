-- Every reading that the lines keep is of one of the operator's meters, read at a place of a line's share. By the list of lines.
use Prim.Native.Nat.{ℕ, zero, suc, ◌+◌, ◌-◌, ◌*◌, ◌≤◌, ◌<◌}
use mathlib.Core.Path.{◌≡◌, ◌∙◌}
use mathlib.Core.List.{List, [], ◌∷◌}
use native.Mathlib.Omega.{arith}
use lib.ListN.{length, get_or, take, drop, length-take}
use lib.Seq.{get_or-take, get_or-drop}
use Rattle.settings.specs.declared.Settings.{Settings}
use Rattle.settings.specs.Limits.{max_lines}
use Rattle.store.specs.Sizes.{readings_per_line}
use Rattle.store.specs.Columns.{Columns}
use Rattle.store.specs.Parts.{share}
use Rattle.store.proofs.Pairs.{every_index}
use Rattle.store.proofs.Shares.{length_share}
use Rattle.operator.specs.Meters.{Operator, meter_count}
use Rattle.operator.specs.Bucket.{MetersKnown, Addable}

get_d_share : (base n k : ℕ) (xs : List ℕ) → k < n → get_or (share base n xs) k 0 ≡ get_or xs (base + k) 0
unfolding share
get_d_share base n k xs h = get_or-take n (drop base xs) k 0 h ∙ get_or-drop base xs k 0

-- the share of line i + 1
pub meter_known :
    (meters : List ℕ) (base : ℕ) (ns : List ℕ) (i k : ℕ) → MetersKnown meters base ns → i < length ns → k < get_or ns i 0 →
    base + i * readings_per_line + get_or ns i 0 ≤ length meters → get_or meters (base + i * readings_per_line + k) 0 < meter_count
meter_known meters base [] i k h l g room = absurd (omega arith)
meter_known meters base (n ∷ ns) zero k h l g room =
    let e : base + 0 * readings_per_line + k ≡ base + k = omega arith in
    let own : get_or (share base n meters) k 0 < meter_count =
    every_index (λ m. m < meter_count) (share base n meters) k 0 (omega (arith, length_share base n meters (omega arith))) h.0 in
    rw e (rw (get_d_share base n k meters g) at own)
meter_known meters base (n ∷ ns) (suc i) k h l g room =
    let e : base + suc i * readings_per_line + k ≡ base + readings_per_line + i * readings_per_line + k = omega arith in
    rw e (meter_known meters (base + readings_per_line) ns i k h.1 (omega arith) g (omega arith))

-- ---- a place in the share of line i + 1, in columns that have the shares

module _ {s : Settings} {x : Columns} {o : Operator} (kept : List ℕ) (lines : s.lines ≤ max_lines)
    (room : Addable s (take s.lines kept) x o) (all : length kept ≡ max_lines) {i : ℕ} (h : i < s.lines) where
  pub all_lines : length (take s.lines kept) ≡ s.lines
  all_lines = omega (arith, length-take s.lines kept)

  pub kept_told : get_or (take s.lines kept) i 0 ≡ get_or kept i 0
  kept_told = get_or-take s.lines kept i 0 h

  pub line_few : get_or kept i 0 ≤ readings_per_line
  line_few = rw kept_told at (every_index (λ n. n ≤ readings_per_line) (take s.lines kept) i 0 (omega (arith, all_lines)) room.small)

  pub share_in : i * readings_per_line + get_or kept i 0 ≤ length x.times
  share_in = omega (arith, all_lines, line_few, room.of_times)

  module _ {at : ℕ} (before : at < i * readings_per_line + get_or kept i 0) where
    pub place_below : at < max_lines * readings_per_line
    place_below = omega (arith, line_few)

    pub in_times : at < length x.times
    in_times = omega (arith, all_lines, line_few, room.of_times)

    pub in_values : at < length x.values
    in_values = omega (arith, all_lines, line_few, room.of_values)

    pub in_meters : at < length x.meters
    in_meters = omega (arith, all_lines, line_few, room.of_meters)

    pub place_known : i * readings_per_line ≤ at → get_or x.meters at 0 < meter_count
    place_known behind =
        let base = i * readings_per_line in
        let e : 0 + base + (at - base) ≡ at = omega (arith, behind) in
        rw e at
        (meter_known x.meters 0 (take s.lines kept) i (at - base) room.known (omega (arith, all_lines)) (omega (arith, behind, kept_told))
        (omega (arith, all_lines, line_few, kept_told, room.of_meters)))
