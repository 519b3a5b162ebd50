-- A call that is written is read back as written.
use mathlib.Core.Path.{◌≡◌, refl}
use mathlib.Core.List.{List, ◌++◌}
use Prim.Native.Nat.{ℕ}
use lib.ListN.{length, take, drop}
use lib.Seq.{take_at}
use Rattle.area.specs.Laid.{in_front}
use Rattle.journal.specs.JournalLine.{line_text, CallFits}
use Rattle.journal.specs.ReadLine.{call_of}
use Rattle.journal.specs.declared.Call.{Call}
use Rattle.std.specs.Prelude.{Some}
use Rattle.journal.proofs.Exact.{exact_call}

-- a claim of its own: the line in front of the area
pub reads_back :
    (c : Call) (area : List ℕ) → CallFits c → call_of (take (length (line_text c)) (in_front (line_text c) area)) ≡ Some c
unfolding in_front
reads_back c area fit =
    let text = take (length (line_text c)) (line_text c ++ drop (length (line_text c)) area) in
    (exact_call text).line c fit (take_at (line_text c) (drop (length (line_text c)) area) (length (line_text c)) refl)
