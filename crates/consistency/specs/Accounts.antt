-- What a list of calls is measured against, from the texts' fields and whether each call was accepted, and from nothing else: the monitor,
-- which is document 01's day book, the accepted stable readings (section 'From the opening on'), and what each display has acknowledged
-- (document 02, W2).
use Rattle.std.specs.Prelude.{ℕ, Bool, List, [], ◌∷◌, map, eqb, replicate, Option, Some, None}
use Rattle.journal.specs.declared.Call.{Call}
use Rattle.clock.specs.declared.ReadingTime.{ReadingTime}
use Rattle.settings.specs.declared.Settings.{Settings}
use Rattle.journal.specs.ReadLine.{call_of}
use Rattle.store.specs.declared.Reading.{Reading}
use Rattle.protocol.specs.Monitor.{LineMonitor, Monitor, fresh_monitor, observe}
use Rattle.protocol.specs.FailureFree.{stable_after, without_arrival}
use Rattle.protocol.specs.Calls.{acknowledged_after}
use Rattle.consistency.specs.Runs.{Box, Input, called, left}

pub record Account : Type 0 where
  pub monitor : Monitor
  pub stables : List (List Reading)
  pub acknowledged : List ℕ

unfoldable pub empty_account : Settings → Account
empty_account s = record { monitor = fresh_monitor s; stables = replicate s.lines []; acknowledged = replicate s.displays 0 }

-- a text that is no journal line was refused, and changes nothing
unfoldable pub account_with : Settings → Account → Option Call → Bool → Account
account_with s a (Some k) is_accepted =
    record {
      monitor = observe s a.monitor k is_accepted;
      stables = stable_after a.stables k is_accepted;
      acknowledged = a.acknowledged;
    }
account_with s a None is_accepted = a

-- accepted: the returned answer is 0; the monitor passes a display's calls over
unfoldable pub account_next : Settings → Account → Box → Input → Account
account_next s a b (Input.journal text area) =
    account_with s a (call_of text) (eqb (called b (Input.journal text area)).answer 0)
account_next s a b (Input.acknowledge display id area) =
    record {
      monitor = a.monitor;
      stables = a.stables;
      acknowledged = acknowledged_after a.acknowledged display id (eqb (called b (Input.acknowledge display id area)).answer 0);
    }
account_next s a b (Input.fetch display from area) = a

unfoldable pub account_after : Settings → Account → Box → List Input → Account
account_after s a b [] = a
account_after s a b (i ∷ is) = account_after s (account_next s a b i) (left b i) is

-- the accepted stable readings of each line, in the order accepted, in every field but `now`
unfoldable pub sent_in : Account → List (List Reading)
sent_in a = map (map without_arrival) a.stables

-- each line's greatest boundary
unfoldable pub boundaries_in : Account → List ReadingTime
boundaries_in a = map (λ (g : LineMonitor). g.boundary) a.monitor.lines
