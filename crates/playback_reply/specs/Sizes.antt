-- The longest reply.
use Rattle.std.specs.Prelude.{ℕ, ◌+◌, ◌*◌}
use Rattle.record_text.specs.Sizes.{longest_record_text}
use Rattle.node.specs.Sizes.{records_per_call}

-- bytes of the longest answer line of 32-bit numbers, and of the longest reply
abbrev pub longest_answer : ℕ
longest_answer = 54

abbrev pub longest_reply : ℕ
longest_reply = longest_answer + records_per_call * longest_record_text
