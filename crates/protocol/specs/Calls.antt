-- What a call does to the node (document 01, sections 'Clocks, lines and readings' and 'One step').
use Rattle.std.specs.Prelude.{ℕ, ◌-◌, Bool, cond, List, [], eqb}
use Rattle.clock.specs.declared.ArrivalTick.{ArrivalTick}
use Rattle.settings.specs.declared.Settings.{Settings}
use Rattle.journal.specs.declared.Call.{Call}
use Rattle.store.specs.Lists.{modify}
use Rattle.protocol.specs.Kinds.{Kind, kind_of, is_step}
use Rattle.protocol.specs.Node.{Node, with_clock, with_lines, with_acknowledged, on_line}
use Rattle.protocol.specs.Rules.{Outcome, rule_of, act}
use Rattle.protocol.specs.Refusals.{answer_to}
use Rattle.protocol.specs.Displays.{acknowledging, answer_to_acknowledgement}

-- an input: only its line changes
unfoldable pub input : Node → Call → Kind → Outcome
input n k kind = record { node = with_lines (modify (on_line k kind) (k.line - 1) n.lines) n; records = [] }

-- what a call of this kind does
unfoldable pub done : Settings → Node → Call → Kind → Outcome
done s n k kind = cond (is_step kind) (act s n (rule_of s n k.now)) (input n k kind)

-- accepting a call sets the clock
unfoldable pub accepted : ArrivalTick → Outcome → Outcome
accepted now o = record { node = with_clock now o.node; records = o.records }

-- a refused call changes nothing and gives no record
unfoldable pub outcome_of : Settings → Node → Call → Outcome
outcome_of s n k =
    cond (eqb (answer_to s n k) 0) (accepted k.now (done s n k (kind_of k.kind))) (record { node = n; records = [] })

-- the displays' last ids after one more acknowledgement
unfoldable pub acknowledged_after : List ℕ → ℕ → ℕ → Bool → List ℕ
acknowledged_after ids display id is_accepted = cond is_accepted (acknowledging ids display id) ids

-- an acknowledgement changes nothing but that display's last id, and leaves the clock
unfoldable pub acknowledged_by : Settings → Node → ℕ → ℕ → Node
acknowledged_by s n display id =
    with_acknowledged (acknowledged_after n.acknowledged display id (eqb (answer_to_acknowledgement s n display id) 0)) n
