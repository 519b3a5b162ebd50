-- The invariant holds at the opening, and so after every list of calls.
use Prim.Native.Nat.{ℕ, zero, suc, ◌<◌}
use mathlib.Core.Path.{refl}
use mathlib.Core.List.{List, []}
use native.Mathlib.Omega.{arith}
use native.Mathlib.Nat.{le_refl}
use lib.ListN.{replicate, length-replicate}
use Rattle.settings.specs.declared.Settings.{Settings}
use Rattle.store.specs.Lists.{keep}
use Rattle.protocol.specs.Node.{no_line, opened}
use Rattle.protocol.specs.Rules.{is_correcting}
use Rattle.protocol.specs.Monitor.{fresh_monitor}
use Rattle.protocol.specs.FailureFree.{failure_free}
use Rattle.protocol.specs.Undos.{applied, struck, stable_records, done_due}
use Rattle.protocol.specs.Runs.{Event, start, after}
use Rattle.protocol.proofs.Places.{Each, done, more}
use Rattle.protocol.proofs.Lines.{Agrees}
use Rattle.protocol.proofs.Invariant.{Invariant, after_kept}

line_opened : (s : Settings) → Agrees s 0 no_line (record { boundary = record { 0 = 0 }; entries = [] }) []
unfolding no_line keep
line_opened s =
    record {
      all = [];
      boundary = refl;
      entries = refl;
      kept = refl;
      stable = refl;
      late = tt;
      low = tt;
      ids = le_refl _;
      past = omega arith;
    }

each_opened :
    (s : Settings) (n : ℕ) →
    Each (Agrees s 0) (replicate n no_line) (replicate n (record { boundary = record { 0 = 0 }; entries = [] })) (replicate n [])
each_opened s zero = done
each_opened s (suc n) = more (line_opened s) (each_opened s n)

pub at_opening : (s : Settings) → 0 < s.lines → Invariant s (start s)
unfolding start opened fresh_monitor failure_free is_correcting applied struck done_due stable_records keep
at_opening s h =
    record {
      some = rw (length-replicate s.lines no_line) h;
      same_c = refl;
      same_p = refl;
      same_mark = refl;
      order = le_refl _;
      level = λ _. refl;
      lines = each_opened s s.lines;
      output =
          record {
            at_checkpoint = refl;
            number = le_refl _;
            tentative = [];
            level = λ _. (refl, refl);
            undone = refl;
            numbers = tt;
            strikes = tt;
            due = refl;
            as_they_came = refl;
          };
    }

pub invariant : (s : Settings) → 0 < s.bucket → 0 < s.lines → (es : List Event) → Invariant s (after s (start s) es)
invariant s room h es = after_kept s room es (start s) (at_opening s h)
