-- `call_displays::fetch_answer` meets its contract: its two tests in their order.
use Rattle.std.proofs.Common.{rules}
use Rattle.protocol.specs.Tests.{first_failed}
use Rattle.protocol.specs.Displays.{answer_to_fetch, wrong_display, wrong_fetch}
use Rattle.call_displays.proofs.fetch_answer.Goals as goal

pub returns-then-wrong_display : goal.returns-then-wrong_display
unfolding answer_to_fetch wrong_display wrong_fetch first_failed
returns-then-wrong_display c = search rules

pub returns-then-wrong_id : goal.returns-then-wrong_id
unfolding answer_to_fetch wrong_display wrong_fetch first_failed
returns-then-wrong_id c = search rules

pub returns-else-wrong_id : goal.returns-else-wrong_id
unfolding answer_to_fetch wrong_display wrong_fetch first_failed
returns-else-wrong_id c = search rules
