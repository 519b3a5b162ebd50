-- `call_displays::acknowledgement_answer` meets its contract: its two tests in their order.
use Rattle.std.proofs.Common.{rules}
use Rattle.protocol.specs.Tests.{first_failed}
use Rattle.protocol.specs.Displays.{answer_to_acknowledgement, wrong_display, wrong_acknowledgement, last_of}
use Rattle.call_displays.proofs.Answers.{last_known}
use Rattle.call_displays.proofs.acknowledgement_answer.Goals as goal

pub returns-then-display-state : goal.returns-then-display-state
unfolding answer_to_acknowledgement wrong_display wrong_acknowledgement last_of first_failed
returns-then-display-state c = search (rules, last_known)

pub returns-then-id-last : goal.returns-then-id-last
unfolding answer_to_acknowledgement wrong_display wrong_acknowledgement last_of first_failed
returns-then-id-last c = search (rules, last_known)

pub returns : goal.returns
unfolding answer_to_acknowledgement wrong_display wrong_acknowledgement last_of first_failed
returns c = search (rules, last_known)
