-- Why a call is refused, and the number that its answer has.
use Rattle.std.specs.Prelude.{ℕ, Result, Ok, Err}
use Rattle.answer.specs.declared.Refusal.{Refusal}
use Rattle.answer.specs.Numbers.{accepted, malformed_settings, outside_limits, short_store, out_of_shape, short_area}
use Rattle.answer.specs.Numbers.{malformed, earlier_call, wrong_line, unused_field, wrong_meter, wrong_id, too_early, held_back}
use Rattle.answer.specs.Numbers.{full_line, lacks_places, wrong_display, wrong_result_id}

-- the number that a refused call answers with
abbrev pub number : Refusal → ℕ
number Refusal.MalformedSettings = malformed_settings
number Refusal.OutsideLimits = outside_limits
number Refusal.ShortStore = short_store
number Refusal.OutOfShape = out_of_shape
number Refusal.ShortArea = short_area
number Refusal.Malformed = malformed
number Refusal.EarlierCall = earlier_call
number Refusal.WrongLine = wrong_line
number Refusal.UnusedField = unused_field
number Refusal.WrongMeter = wrong_meter
number Refusal.WrongId = wrong_id
number Refusal.TooEarly = too_early
number Refusal.HeldBack = held_back
number Refusal.FullLine = full_line
number Refusal.LacksPlaces = lacks_places
number Refusal.WrongDisplay = wrong_display
number Refusal.WrongResultId = wrong_result_id

-- what a call answers, as a number: 0 where it is accepted
abbrev pub answer_of : {A : Type 0} → Result A Refusal → ℕ
answer_of (Ok _) = accepted
answer_of (Err refusal) = number refusal
