-- The call that a text makes: a journal call, after which the displays may acknowledge what is new, or, in a mixed input, the call of a
-- display whose line it is.
use Rattle.std.specs.Prelude.{ℕ, zero, suc, Bool, cond, ◌&&◌, List, ltb, get_or, Option, Some, None}
use Rattle.commands.specs.declared.Command.{Command}
use Rattle.commands.specs.ReadLine.{command_of}
use Rattle.settings.specs.Limits.{max_displays}
use Rattle.node.specs.Held.{Held}
use Rattle.node.specs.View.{Lent}
use Rattle.node.specs.Calls.{Called, called_on}
use Rattle.node.specs.Displays.{acknowledged_on, fetched_on}

-- ---- displays that acknowledge what is new

-- display i + 1 has not acknowledged the newest stable result
unfoldable pub is_behind : Held → ℕ → Bool
is_behind st i = ltb i st.settings.displays && ltb (get_or st.acknowledged i 0) st.checkpoint.number

-- after a call, it does so: of the acknowledgement, only what it leaves is seen
unfoldable pub caught_up : ℕ → Called → Called
caught_up i q =
    let a : Called = acknowledged_on q.state q.lent (suc i) q.state.checkpoint.number q.area in
    cond (is_behind q.state i)
    (record { answer = q.answer; records = q.records; state = a.state; lent = a.lent; area = q.area })
    q

-- the first n displays, one after the other
unfoldable pub all_caught_up : ℕ → Called → Called
all_caught_up zero q = q
all_caught_up (suc n) q = caught_up n (all_caught_up n q)

-- a journal call, after which the displays acknowledge or not
unfoldable pub followed : Bool → Held → Lent → List ℕ → List ℕ → Called
followed acknowledging st x text area =
    let q : Called = called_on st x text area in
    cond acknowledging (all_caught_up max_displays q) q

-- ---- a mixed input

unfoldable pub commanded : Option Command → Bool → Held → Lent → List ℕ → List ℕ → Called
commanded (Some (Command.Acknowledge display id)) acknowledging st x text area = acknowledged_on st x display id area
commanded (Some (Command.Fetch display id)) acknowledging st x text area = fetched_on st x display id area
commanded None acknowledging st x text area = followed acknowledging st x text area

-- the call that a text makes
unfoldable pub dispatched : Bool → Bool → Held → Lent → List ℕ → List ℕ → Called
dispatched mixed acknowledging st x text area =
    cond mixed (commanded (command_of text) acknowledging st x text area) (followed acknowledging st x text area)
