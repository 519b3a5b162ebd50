-- The records read from an area that they were laid into are their bytes, one record's after the other's.
use Prim.Native.Nat.{ℕ}
use mathlib.Core.Path.{◌≡◌, refl, ◌∙◌, ap, ap₂}
use mathlib.Core.List.{List, [], ◌∷◌, ◌++◌, map, append_assoc}
use lib.ListN.{length, take, drop}
use lib.Seq.{take_at, drop_at}
use Rattle.area.specs.Laid.{in_front}
use Rattle.record.specs.declared.Record.{Record}
use Rattle.record.specs.Sizes.{record_bytes}
use Rattle.record.specs.Layout.{bytes_of, all_bytes}
use Rattle.record.proofs.BytesOf.{length_bytes_of}
use Rattle.retransmission.specs.Places.{pieces}

-- whatever stands behind them
pub pieces_all_bytes : (rs : List Record) (rest : List ℕ) → pieces (length rs) (all_bytes rs ++ rest) ≡ map bytes_of rs
unfolding pieces all_bytes
pieces_all_bytes [] rest = refl
pieces_all_bytes (r ∷ rs) rest =
    let split = append_assoc (bytes_of r) (all_bytes rs) rest in
    let front = take_at (bytes_of r) (all_bytes rs ++ rest) record_bytes (length_bytes_of r) in
    let behind = drop_at (bytes_of r) (all_bytes rs ++ rest) record_bytes (length_bytes_of r) in
    ap₂ ◌∷◌ (ap (take record_bytes) split ∙ front)
    (ap (λ (l : List ℕ). pieces (length rs) (drop record_bytes l)) split ∙ ap (pieces (length rs)) behind ∙ pieces_all_bytes rs rest)

pub pieces_in_front : (rs : List Record) (area : List ℕ) → pieces (length rs) (in_front (all_bytes rs) area) ≡ map bytes_of rs
unfolding in_front
pieces_in_front rs area = pieces_all_bytes rs (drop (length (all_bytes rs)) area)
