-- The examples of the send-back store's rules, by computing.
use mathlib.Core.Path.{refl}
use Rattle.clock.specs.Buckets.{bucket_end, finishes}
use Rattle.clock.specs.Windows.{closes_window, window_start}
use Rattle.retransmission.specs.Places.{place_of}
use Rattle.store.specs.Lists.{keep, all_of}
use Rattle.store.specs.Order.{sort, gather, in_bucket}
use Rattle.operator.specs.Meters.{add_all}
use Rattle.operator_meter.specs.Values.{has_result}
use Rattle.operator.specs.Results.{result_of, results}
use Rattle.operator.specs.Work.{window_results, close, work}
use Rattle.protocol.specs.Kinds.{kind_of, uses, is_step}
use Rattle.protocol.specs.Node.{is_stable_bucket, kept_of}
use Rattle.protocol.specs.Tests.{first_failed}
use Rattle.protocol.specs.Rules.{first_rule, rule_of, worked}
use Rattle.protocol.specs.Refusals.{named_line, wrong_line, is_zero, unused_field, wrong_meter, wrong_id, too_early, is_held_back, is_full}
use Rattle.protocol.specs.Refusals.{call_tests, line_tests, step_tests, tests_of, answer_to}
use Rattle.protocol.specs.Displays.{least_of, given_up_to, free_places, lacks_places, wrong_display, last_of, wrong_acknowledgement, wrong_fetch}
use Rattle.protocol.specs.Displays.{answer_to_acknowledgement, answer_to_fetch, acknowledging, fetch_count}
use Rattle.protocol.specs.Calls.{acknowledged_after, acknowledged_by}
use Rattle.protocol_examples.specs.SendBack.{two, quiet, node_holding, node, meter, step, SendBack}

pub send_back : SendBack
unfolding two quiet node_holding node meter step first_failed least_of given_up_to free_places lacks_places wrong_display last_of wrong_acknowledgement wrong_fetch answer_to_acknowledgement answer_to_fetch acknowledging fetch_count acknowledged_after acknowledged_by place_of answer_to tests_of call_tests line_tests step_tests kind_of uses is_step named_line wrong_line is_zero unused_field wrong_meter wrong_id too_early is_held_back is_full rule_of first_rule is_stable_bucket all_of finishes bucket_end worked work kept_of in_bucket gather keep sort add_all closes_window close window_results window_start results has_result result_of
send_back =
    record {
      held = refl;
      given_up = refl;
      zero = refl;
      next = refl;
      past = refl;
      display0 = refl;
      display3 = refl;
      all = refl;
      none = refl;
      most = refl;
      below = refl;
      same = refl;
      newest = refl;
      above = refl;
      display2 = refl;
      no_display = refl;
      behind = refl;
      some = refl;
      other = refl;
      free = refl;
      full = refl;
      enough = refl;
      short = refl;
      nothing = refl;
      first = refl;
      last = refl;
      again = refl;
    }
