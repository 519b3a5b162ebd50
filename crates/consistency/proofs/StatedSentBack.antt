-- The plain table of specs/PlainSentBack.antt gives the statement on the send-back store. Uses the two texts and no proof of either.
use Prim.Native.Nat.{ℕ}
use mathlib.Core.Path.{◌≡◌}
use mathlib.Core.List.{List}
use Rattle.node.specs.Held.{Held}
use Rattle.node.specs.View.{Lent, with_acknowledged}
use Rattle.node.specs.Calls.{Called}
use Rattle.node.specs.Displays.{acknowledged_on}
use Rattle.consistency.specs.Runs.{called, left}
use Rattle.consistency.specs.Demand.{opening, is_opened, settings_in}
use Rattle.consistency.specs.Plain.{settings_on}
use Rattle.consistency.specs.PlainSentBack.{QuietOn, PlainSentBack}
use Rattle.consistency.specs.SentBack.{SentBack}
use Rattle.consistency.proofs.PlainSentBack.{stated_near, stated_acknowledges, stated_fetches, stated_fetched, stated_full, stated_stored, table}

-- a state is what its fields are
whole_state :
    (st : Held) (x : Lent) (area : List ℕ) (r : Called) → QuietOn st x area r → r.state ≡ with_acknowledged r.state.acknowledged st
whole_state st x area r q = λ i.
    record {
      operator = q.operator i;
      checkpoint = q.checkpoint i;
      heads = q.heads i;
      settings = q.settings i;
      clock = q.clock i;
      c = q.c i;
      p = q.p i;
      phase = q.phase i;
      acknowledged = r.state.acknowledged;
    }

pub stated_sent_back : PlainSentBack → SentBack
unfolding is_opened opening called left settings_in settings_on
stated_sent_back t =
    record {
      store = λ h e is. stated_stored h e is (table h e is t);
      near = λ h e is. stated_near h e is (table h e is t);
      acknowledges = λ h e is. stated_acknowledges h e is (table h e is t);
      fetches = λ h e is. stated_fetches h e is (table h e is t);
      fetched = λ h e is. stated_fetched h e is (table h e is t);
      quiet = λ b display id area.
          let q = t.quiet b.state b.lent display id area in
          record {
            records = q.records;
            bytes = q.bytes;
            readings = q.readings;
            state = whole_state b.state b.lent area (acknowledged_on b.state b.lent display id area) q;
          };
      still = λ b display from area.
          let q = t.still b.state b.lent display from area in
          λ i. record { state = q.0 i; lent = q.1 i };
      full = λ h e is. stated_full h e is (table h e is t);
    }
