-- What computes on the listing: each definition here names all those that its part of a call goes through, so that to unfold it is to
-- unfold them. A definition that a change of specs/ adds on the way is added to its line.
use Prim.Native.Nat.{ℕ}
use mathlib.Core.List.{List, flatten}
use Rattle.std.specs.Prelude.{Option, Result}
use Rattle.answer.specs.declared.Refusal.{Refusal}
use Rattle.area.specs.Laid.{in_front}
use Rattle.clock.specs.Buckets.{bucket_of, bucket_end, finishes}
use Rattle.clock.specs.Windows.{closes_window, window_start}
use Rattle.clock.specs.Hold.{is_due}
use Rattle.signed.specs.Mean.{mean}
use Rattle.signed.specs.Nearest.{nearest}
use Rattle.signed.specs.Twos.{twos, signed_of}
use Rattle.endian.specs.LittleEndian.{little_endian, number_of}
use Rattle.decimal.specs.Spelled.{is_digit, run_length, run_value, misspelled, number_at, negated, as_integer, integer_at}
use Rattle.fields.specs.Field.{starts_with, ends_line, number_field, integer_field, with_field}
use Rattle.settings.specs.declared.Settings.{Settings}
use Rattle.settings.specs.Limits.{within_limits}
use Rattle.settings.specs.SettingsLine.{limited}
use Rattle.settings.specs.ReadLine.{settings_at, judged, settings_of}
use Rattle.journal.specs.declared.Call.{Call}
use Rattle.journal.specs.Kinds.{is_letter}
use Rattle.journal.specs.ReadLine.{letter_at, letter_field, call_at, whole, call_of}
use Rattle.record.specs.declared.Record.{Record}
use Rattle.record.specs.Kinds.{is_result, is_stable, is_tentative, is_record}
use Rattle.record.specs.Layout.{bytes_of, all_bytes}
use Rattle.record.specs.Fields.{word_at, fields_of}
use Rattle.record.specs.Decoded.{is_well_formed, decoded}
use Rattle.store.specs.Lists.{keep, some_of, all_of, modify}
use Rattle.store.specs.Order.{before, insert, sort, is_in, gather, in_bucket}
use Rattle.store.specs.Columns.{store_length, row_at, rows_from, rows, with_rows, zeroed}
use Rattle.store_columns.specs.Shape.{rises, is_reading_kind}
use Rattle.retransmission.specs.Places.{pieces, joined, places_of, with_places, place_of, empty_place}
use Rattle.retransmission.specs.Places.{holding, given_up, held_behind, place_ok, places_ok}
use Rattle.operator_meter.specs.Values.{no_meter, with_value, is_counted, has_result}
use Rattle.operator.specs.Meters.{clear, fresh, add, add_all}
use Rattle.operator_meter.specs.Bounds.{sum_ok, meter_ok}
use Rattle.record.specs.Markers.{marker}
use Rattle.operator.specs.Results.{result_of, results}
use Rattle.operator.specs.Work.{window_results, close, work}
use Rattle.protocol.specs.Kinds.{kind_of, uses, is_step}
use Rattle.protocol.specs.Node.{Node, no_line, opened, is_stable_bucket, keeps_tentative, kept_of, reading_of, on_line}
use Rattle.protocol.specs.Displays.{least_of, given_up_to, free_places, lacks_places, wrong_display, last_of, wrong_acknowledgement, wrong_fetch}
use Rattle.protocol.specs.Displays.{answer_to_acknowledgement, answer_to_fetch, acknowledging, fetch_count}
use Rattle.protocol.specs.Refusals.{first_failed, named_line, wrong_line, is_zero, unused_field, wrong_meter, wrong_id, too_early, is_held_back, is_full}
use Rattle.protocol.specs.Refusals.{call_tests, line_tests, step_tests, tests_of, answer_to}
use Rattle.protocol.specs.Rules.{Outcome, first_rule, is_correcting, is_overdue, some_overdue, rule_of, without, boundary_at, worked, act}
use Rattle.protocol.specs.Calls.{input, done, accepted, outcome_of, acknowledged_after, acknowledged_by}
use Rattle.protocol.specs.Monitor.{fresh_monitor, least_boundary, stable_buckets, left_to_work, entry_due, any_due}
use Rattle.protocol.specs.Monitor.{observe_step, entry_of, observe_line, observe_input, observe_kind, observe}
use Rattle.protocol.specs.StepCount.{steps_needed, least_boundary_of, buckets_left}
use Rattle.protocol.specs.FailureFree.{stable_reading, stable_after}
use Rattle.protocol.specs.Undos.{apply_one, applied, struck_by_one, struck, stable_records, done_due}
use Rattle.node.specs.Held.{Held}
use Rattle.node.specs.View.{Lent, view_line, view_lines, places, view, head_of, heads_with, share_with, shares_with, put_state, put_columns}
use Rattle.node.specs.Shape.{reading_ok, ids_rise, head_ok, kept_ok, phase_ok, buckets_ok, numbers_ok, display_ok, displays_ok, sent_ok, state_in_shape, in_shape}
use Rattle.node.specs.Opening.{Opened, shares_short, is_short, fresh_state, closed_state, opened_with, opened_on}
use Rattle.node.specs.Calls.{Called, host_tests, put_lent, refused_with, called_with, called_on}
use Rattle.node.specs.Displays.{freed, acknowledged_with, acknowledged_on, fetched_with, fetched_on}
use Rattle.consistency.specs.Runs.{Box, Input, called, area_of, read_as, record_in}
use Rattle.consistency.specs.Accounts.{empty_account, account_with}
use Rattle.consistency.specs.Demand.{Handed, opening, box_of, settings_in}
use Rattle.consistency.specs.Exactly.{left_in, steps_from}
use Rattle.consistency.specs.Balance.{Heat, no_heat, plus, heat_of, of_reading, of_meter, of_result, counts_for, pays_for}
use Rattle.consistency.specs.Balance.{open_heat, kept_stables, kept_heat}
use Rattle.consistency_examples.proofs.Surely.{itself, surely, noted, gives, Done, doing, ran}

-- texts
unfoldable pub settings_read : List ℕ → Result Settings Refusal
unfolding settings_of judged limited settings_at within_limits starts_with ends_line number_field integer_field with_field is_digit run_length run_value misspelled number_at negated integer_at as_integer
settings_read text = settings_of text

unfoldable pub call_read : List ℕ → Option Call
unfolding call_of whole call_at letter_at letter_field is_letter starts_with ends_line number_field integer_field with_field is_digit run_length run_value misspelled number_at negated integer_at as_integer
call_read text = call_of text

-- a call on the node
unfoldable pub outcome_on : Settings → Node → Call → Outcome
unfolding outcome_of answer_to first_failed named_line wrong_line is_zero unused_field wrong_meter wrong_id too_early is_held_back is_full call_tests line_tests step_tests least_of given_up_to free_places lacks_places tests_of no_line opened is_stable_bucket keeps_tentative kept_of reading_of on_line kind_of uses is_step input done accepted first_rule is_correcting is_overdue some_overdue rule_of without boundary_at worked act no_meter with_value clear fresh is_counted add add_all has_result result_of results marker window_results close work keep some_of all_of modify before insert sort is_in gather in_bucket bucket_of bucket_end finishes closes_window window_start is_due nearest mean
outcome_on s n k = outcome_of s n k

-- an opening and the three calls on state, stores and area
unfoldable pub opened_from : Held → Lent → List ℕ → Opened
unfolding settings_read outcome_on opened_on opened_with shares_short is_short store_length joined with_places empty_place in_front fresh_state closed_state with_rows zeroed head_of
opened_from st x text = opened_on st x text

unfoldable pub called_from : Held → Lent → List ℕ → List ℕ → Called
unfolding call_read outcome_on opened_from pieces places_of place_of holding place_ok places_ok display_ok displays_ok sent_ok state_in_shape put_lent called_on called_with refused_with host_tests row_at rows_from rows view_line view_lines places view heads_with share_with shares_with put_state put_columns reading_ok ids_rise head_ok kept_ok phase_ok buckets_ok numbers_ok in_shape rises is_reading_kind sum_ok meter_ok all_bytes bytes_of little_endian twos fields_of word_at number_of signed_of is_stable
called_from st x text area = called_on st x text area

unfoldable pub acknowledged_from : Held → Lent → ℕ → ℕ → List ℕ → Called
unfolding called_from acknowledged_on acknowledged_with answer_to_acknowledgement wrong_display wrong_acknowledgement last_of acknowledging acknowledged_after acknowledged_by freed given_up
acknowledged_from st x display id area = acknowledged_on st x display id area

unfoldable pub fetched_from : Held → Lent → ℕ → ℕ → List ℕ → Called
unfolding called_from fetched_on fetched_with answer_to_fetch wrong_display wrong_fetch fetch_count held_behind
fetched_from st x display from area = fetched_on st x display from area

-- all that a list of calls leaves
unfoldable pub ran_from : Handed → List Input → Done
unfolding called_from acknowledged_from fetched_from opening box_of settings_in called area_of itself surely noted gives doing ran empty_account account_with fresh_monitor least_boundary stable_buckets left_to_work entry_due any_due observe_step entry_of observe_line observe_input observe_kind observe stable_reading stable_after
ran_from h is = ran h is

-- the records of an output, and undos applied to them
unfoldable pub read_from : List ℕ → Record
unfolding read_as record_in decoded is_well_formed fields_of word_at number_of signed_of is_record is_result is_stable is_tentative keep apply_one applied struck_by_one struck stable_records done_due
read_from piece = record_in piece

-- the steps that a box needs
unfoldable pub left_from : Box → ℕ
unfolding ran_from left_in steps_from steps_needed least_boundary_of buckets_left
left_from b = left_in b

-- the parts of the balance
unfoldable pub heat_from : Settings → Box → ℕ → Heat
unfolding ran_from read_from heat_of no_heat plus of_reading of_meter of_result counts_for pays_for open_heat kept_stables kept_heat flatten
heat_from s b i = kept_heat s b i
