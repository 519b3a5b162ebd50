-- Lists of calls on the node's meaning, each on what the one before left (document 01, section 'From the opening on'; document 02, W2).
use Rattle.std.specs.Prelude.{ℕ, Bool, List, [], ◌∷◌, ◌++◌, eqb, replicate}
use Rattle.settings.specs.declared.Settings.{Settings}
use Rattle.journal.specs.declared.Call.{Call}
use Rattle.record.specs.declared.Record.{Record}
use Rattle.store.specs.declared.Reading.{Reading}
use Rattle.protocol.specs.Node.{Node, opened}
use Rattle.protocol.specs.Refusals.{answer_to}
use Rattle.protocol.specs.Displays.{answer_to_acknowledgement}
use Rattle.protocol.specs.Calls.{outcome_of, acknowledged_after, acknowledged_by}
use Rattle.protocol.specs.Monitor.{Monitor, fresh_monitor, observe}
use Rattle.protocol.specs.FailureFree.{stable_after}

-- an input of a list: a journal call or an acknowledgement that reaches the node, or what changes nothing: a call that was refused before
-- (3 to 6), and a fetch
pub data Event : Type 0 where
  turned_away : Event
  journal : Call → Event
  acknowledge : ℕ → ℕ → Event

-- the node, what it is measured against, and the output so far
pub record Trace : Type 0 where
  pub node : Node
  pub monitor : Monitor
  pub stables : List (List Reading)
  pub acknowledged : List ℕ
  pub output : List Record

unfoldable pub start : Settings → Trace
start s =
    record {
      node = opened s;
      monitor = fresh_monitor s;
      stables = replicate s.lines [];
      acknowledged = replicate s.displays 0;
      output = [];
    }

unfoldable pub is_accepted : Settings → Node → Call → Bool
is_accepted s n k = eqb (answer_to s n k) 0

unfoldable pub next : Settings → Trace → Event → Trace
next s t Event.turned_away = t
next s t (Event.journal k) =
    record {
      node = (outcome_of s t.node k).node;
      monitor = observe s t.monitor k (is_accepted s t.node k);
      stables = stable_after t.stables k (is_accepted s t.node k);
      acknowledged = t.acknowledged;
      output = t.output ++ (outcome_of s t.node k).records;
    }
next s t (Event.acknowledge display id) =
    record {
      node = acknowledged_by s t.node display id;
      monitor = t.monitor;
      stables = t.stables;
      acknowledged = acknowledged_after t.acknowledged display id (eqb (answer_to_acknowledgement s t.node display id) 0);
      output = t.output;
    }

unfoldable pub after : Settings → Trace → List Event → Trace
after s t [] = t
after s t (e ∷ es) = after s (next s t e) es
