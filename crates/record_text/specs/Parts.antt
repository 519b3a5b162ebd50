-- The two parts that a record's text is written in.
use Rattle.std.specs.Prelude.{ℕ, List, [], ◌∷◌, ◌++◌, pos}
use Rattle.decimal.specs.Decimal.{decimal}
use Rattle.fields.specs.Keys.{kind_key, id_key, time_key, meter_key, count_key, sum_key, mean_key, last_key}
use Rattle.fields.specs.Field.{first, later}
use Rattle.record.specs.declared.Record.{Record}

-- up to the meter
unfoldable pub text_head : Record → List ℕ
text_head r =
    (first kind_key ++ r.kind ∷ []) ++
    ((later id_key ++ decimal (pos r.id)) ++
    ((later time_key ++ decimal (pos r.time.0)) ++ (later meter_key ++ decimal (pos r.meter))))

-- from the count on, with the 0A
unfoldable pub text_tail : Record → List ℕ
text_tail r =
    (later count_key ++ decimal (pos r.count)) ++
    ((later sum_key ++ decimal r.sum) ++
    ((later mean_key ++ decimal r.mean) ++ (later last_key ++ (decimal r.last ++ 10 ∷ []))))
