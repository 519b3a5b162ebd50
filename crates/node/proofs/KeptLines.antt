-- The readings that state and store keep, line by line: each line's are the rows from the start of its share on, and where they are in
-- shape, every two of a line have rising ids. A share at each line, by induction on the lines; ids by induction on the readings.
use Prim.Native.Nat.{ℕ, zero, suc, ◌+◌, ◌-◌, ◌*◌, ◌≤◌, ◌<◌}
use mathlib.Core.Path.{◌≡◌, refl}
use mathlib.Core.List.{List, [], ◌∷◌, map}
use native.Mathlib.Omega.{arith}
use lib.ListN.{take}
use Rattle.store.specs.declared.Reading.{Reading}
use Rattle.store.specs.Sizes.{readings_per_line}
use Rattle.store.specs.Lists.{Every}
use Rattle.store.specs.Sorted as sorted
use Rattle.store.specs.Columns.{Columns, rows, rows_from}
use Rattle.store.proofs.Pairs.{every_to, every_map}
use Rattle.store.proofs.Columns.{take_rows, drop_rows}
use Rattle.store.specs.Parts.{kept_from}
use Rattle.protocol.specs.Node.{Line, kept_of}
use Rattle.node.specs.View.{view_line, view_lines, places, view}
use Rattle.node.specs.declared.LineHead.{LineHead}
use Rattle.node.specs.Held.{Held}
use Rattle.node.proofs.Shape.{Rising, KeptShape}
use Rattle.node.proofs.Shares.{SmallHead}

-- ---- what the lines keep

-- the lines from a place on: each keeps the rows from the start of its share on
lines_kept :
    (x : Columns) (base n : ℕ) (hs : List LineHead) → Every SmallHead (take n hs) →
    kept_of (view_lines n hs (rows_from x base (n * readings_per_line))) ≡ kept_from x base (map (λ (h : LineHead). h.kept) (take n hs))
unfolding kept_of view_lines view_line kept_from
lines_kept x base zero hs small = refl
lines_kept x base (suc n) [] small = refl
lines_kept x base (suc n) (h ∷ hs) small =
    let wide : readings_per_line ≤ suc n * readings_per_line = omega arith in
    let rest : suc n * readings_per_line - readings_per_line ≡ n * readings_per_line = omega arith in
    rw (
      take_rows x base (suc n * readings_per_line) readings_per_line wide,
      take_rows x base readings_per_line h.kept small.0,
      drop_rows x base (suc n * readings_per_line) readings_per_line wide,
      rest,
      lines_kept x (base + readings_per_line) n hs small.1,
    )

-- what state and store keep
pub view_kept :
    (st : Held) (x : Columns) → Every SmallHead (take st.settings.lines st.heads) →
    kept_of (view st x).lines ≡ kept_from x 0 (map (λ (h : LineHead). h.kept) (take st.settings.lines st.heads))
unfolding view places rows
view_kept st x small = lines_kept x 0 st.settings.lines st.heads small

-- ---- rising ids

-- what lies above the second id lies above the first
above_first :
    (r q : Reading) (rs : List Reading) → r.id < q.id → Every (λ (s : Reading). q.id < s.id) rs →
    Every (λ (s : Reading). r.id < s.id) rs
above_first r q rs h above = every_to rs (λ (s : Reading) g. omega arith) above

-- each id above the one before it: then above all before it
pub rising_pairs : (rs : List Reading) → Rising rs → sorted.Rising rs
rising_pairs [] rise = tt
rising_pairs (r ∷ []) rise = (tt, tt)
rising_pairs (r ∷ q ∷ rs) rise =
    let behind : sorted.Rising (q ∷ rs) = rising_pairs (q ∷ rs) rise.1 in
    ((rise.0, above_first r q rs rise.0 behind.0), behind)

-- the lines of a state and a store in shape
pub kept_rising : (ls : List Line) → Every KeptShape ls → Every sorted.Rising (kept_of ls)
unfolding kept_of
kept_rising ls shape =
    every_map (λ (l : Line). l.kept) sorted.Rising ls (every_to ls (λ (l : Line) (s : KeptShape l). rising_pairs l.kept s.rising) shape)
