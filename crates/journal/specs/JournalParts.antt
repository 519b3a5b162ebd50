-- The two parts of a journal line.
use Rattle.std.specs.Prelude.{ℕ, List, [], ◌∷◌, ◌++◌, pos}
use Rattle.decimal.specs.Decimal.{decimal}
use Rattle.fields.specs.Keys.{now_key, line_key, kind_key, id_key, time_key, meter_key, value_key}
use Rattle.fields.specs.Field.{first, later}
use Rattle.journal.specs.declared.Call.{Call}

-- up to the kind
unfoldable pub call_head : Call → List ℕ
call_head c =
    (first now_key ++ decimal (pos c.now.0)) ++
    ((later line_key ++ decimal (pos c.line)) ++ (later kind_key ++ (c.kind ∷ [])))

-- from the id on, with the 0A
unfoldable pub call_tail : Call → List ℕ
call_tail c =
    (later id_key ++ decimal (pos c.id)) ++
    ((later time_key ++ decimal (pos c.time.0)) ++
    ((later meter_key ++ decimal (pos c.meter)) ++ (later value_key ++ (decimal c.value ++ 10 ∷ []))))
