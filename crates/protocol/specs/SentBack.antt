-- The send-back store on the node's meaning: what is held for the displays (document 02, W2).
use Rattle.std.specs.Prelude.{ℕ, suc, ◌+◌, ◌≤◌, ◌<◌, ◌≡◌, List, [], ◌∷◌, length}
use Rattle.settings.specs.declared.Settings.{Settings}
use Rattle.journal.specs.declared.Call.{Call}
use Rattle.record.specs.declared.Record.{Record}
use Rattle.retransmission.specs.Sizes.{held_results}
use Rattle.protocol.specs.Kinds.{Kind, kind_of}
use Rattle.protocol.specs.Refusals.{answer_to}
use Rattle.protocol.specs.Displays.{least_of}
use Rattle.protocol.specs.Monitor.{stable_buckets}
use Rattle.protocol.specs.FailureFree.{failure_free}
use Rattle.protocol.specs.Runs.{Event, Trace, start, after}
use Rattle.protocol.specs.Demand.{stable_results}

-- numbered n + 1, n + 2, and so on
abbrev pub Consecutive : ℕ → List Record → Type 0
Consecutive n [] = Unit {0}
Consecutive n (r ∷ rs) = (r.id ≡ suc n) × Consecutive (suc n) rs

-- what is held after a list: by what was acknowledged, and the failure-free results
pub record HeldTrace (s : Settings) (t : Trace) : Type 0 where
  -- the node has for acknowledged what was acknowledged
  pub acknowledged : t.node.acknowledged ≡ t.acknowledged
  -- the results are numbered from 1 on, and the newest stable id is the last one's
  pub numbered : Consecutive 0 (stable_results s t)
  pub newest : t.node.checkpoint.number ≡ length (stable_results s t)
  -- no more are given up than there are, and no more are held than there are places
  pub some : least_of t.acknowledged ≤ length (stable_results s t)
  pub few : length (stable_results s t) ≤ least_of t.acknowledged + held_results
  -- 15 comes only to a step, and only where a stable bucket is next to be worked and its results would not all find places
  pub full :
      (k : Call) → answer_to s t.node k ≡ 15 →
      (kind_of k.kind ≡ Kind.P) × (t.monitor.d < stable_buckets s t.monitor) × (t.monitor.t ≡ t.monitor.d) ×
      (least_of t.acknowledged + held_results < length (failure_free s t.stables (suc t.monitor.d)).records)

pub record TraceSentBack : Type 0 where
  pub held : (s : Settings) → 0 < s.bucket → 0 < s.lines → (es : List Event) → HeldTrace s (after s (start s) es)
