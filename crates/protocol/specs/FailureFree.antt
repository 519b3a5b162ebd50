-- The failure-free run of document 01 (sections 'Buckets and the operator' and 'From the opening on'): the accepted stable readings of each
-- line, in the order accepted, and the buckets worked one after the other, each once. Which calls count is decided by letter and answer
-- alone.
use Rattle.std.specs.Prelude.{ℕ, zero, suc, ◌-◌, Bool, cond, ◌&&◌, List, [], ◌∷◌, ◌++◌, eqb}
use Rattle.settings.specs.declared.Settings.{Settings}
use Rattle.journal.specs.declared.Call.{Call}
use Rattle.journal.specs.Kinds.{letter_s}
use Rattle.store.specs.declared.Reading.{Reading}
use Rattle.store.specs.Lists.{modify}
use Rattle.store.specs.Order.{in_bucket}
use Rattle.operator.specs.Meters.{fresh}
use Rattle.operator.specs.Work.{Worked, work}

-- a stable reading, from the call's fields
unfoldable pub stable_reading : Call → Reading
stable_reading k =
    record { id = k.id; time = k.time; value = k.value; arrival = k.now; kind = letter_s; meter = k.meter }

-- the accepted stable readings of each line, after one more call
unfoldable pub stable_after : List (List Reading) → Call → Bool → List (List Reading)
stable_after lines k is_accepted =
    cond (is_accepted && eqb k.kind letter_s)
    (modify (λ (rs : List Reading). rs ++ stable_reading k ∷ []) (k.line - 1) lines)
    lines

-- a reading in every field but its arrival, by which the readings of two boxes are compared
unfoldable pub without_arrival : Reading → Reading
without_arrival r =
    record { id = r.id; time = r.time; value = r.value; arrival = record { 0 = 0 }; kind = r.kind; meter = r.meter }

-- buckets 0 to n - 1 worked over these readings, results S
unfoldable pub failure_free : Settings → List (List Reading) → ℕ → Worked
failure_free s lines zero = record { operator = fresh; records = [] }
failure_free s lines (suc n) =
    let past : Worked = failure_free s lines n in
    let last : Worked = work s letter_s n (in_bucket s.bucket n lines) past.operator in
    record { operator = last.operator; records = past.records ++ last.records }
