-- The numbers that calls answer with (document 01, section 'Refusal by whom'; from 15 on document 02, W2).
use Rattle.std.specs.Prelude.{ℕ}

-- accepted
abbrev pub accepted : ℕ
accepted = 0

-- settings not of the form, or a number past its width
abbrev pub malformed_settings : ℕ
malformed_settings = 1

-- a setting outside its limits
abbrev pub outside_limits : ℕ
outside_limits = 2

-- a store is short
abbrev pub short_store : ℕ
short_store = 3

-- state or store out of shape
abbrev pub out_of_shape : ℕ
out_of_shape = 4

-- the area is short
abbrev pub short_area : ℕ
short_area = 5

-- a text, or bytes, not of the form
abbrev pub malformed : ℕ
malformed = 6

-- `now` goes back
abbrev pub earlier_call : ℕ
earlier_call = 7

-- no such line, or a step that names one
abbrev pub wrong_line : ℕ
wrong_line = 8

-- a field that the kind does not use is not 0
abbrev pub unused_field : ℕ
unused_field = 9

-- no such meter
abbrev pub wrong_meter : ℕ
wrong_meter = 10

-- not the next id, or one that cannot be undone to
abbrev pub wrong_id : ℕ
wrong_id = 11

-- earlier than the line's boundary
abbrev pub too_early : ℕ
too_early = 12

-- tentative readings are kept
abbrev pub held_back : ℕ
held_back = 13

-- the line's places are taken
abbrev pub full_line : ℕ
full_line = 14

-- more results than the send-back store has free places
abbrev pub lacks_places : ℕ
lacks_places = 15

-- no such display
abbrev pub wrong_display : ℕ
wrong_display = 16

-- not an id that can be acknowledged or fetched from
abbrev pub wrong_result_id : ℕ
wrong_result_id = 17
