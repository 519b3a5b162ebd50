-- What single functions of the operator give. The contracts above them pin them down.
use Rattle.std.specs.Prelude.{ℕ, List, map}
use Rattle.marks.specs.Words.{word_count, words_of}
use Rattle.operator_meter.specs.declared.Meter.{Meter}
use Rattle.operator_meter.specs.Values.{has_result}

-- a mark for each meter with a result (document 02, W3)
unfoldable pub marks_of : List Meter → List ℕ
marks_of ms = words_of word_count (map has_result ms)
