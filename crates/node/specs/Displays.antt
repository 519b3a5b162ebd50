-- A display's two calls on what is held, stores and area: refusals 3, 4, 5, 16 and 17 in order, and what they leave (document 02, W2).
use Rattle.std.specs.Prelude.{ℕ, ◌-◌, cond, List, eqb}
use Rattle.area.specs.Laid.{in_front}
use Rattle.record.specs.Layout.{all_bytes}
use Rattle.retransmission.specs.Places.{places_of, with_places, given_up, held_behind}
use Rattle.protocol.specs.Node.{Node}
use Rattle.protocol.specs.Tests.{first_failed}
use Rattle.protocol.specs.Displays.{given_up_to, answer_to_acknowledgement, answer_to_fetch, acknowledging, fetch_count}
use Rattle.protocol.specs.Calls.{acknowledged_by}
use Rattle.node.specs.View.{Lent, view, with_acknowledged}
use Rattle.node.specs.Calls.{Called, host_tests, refused_with}
use Rattle.node.specs.Held.{Held}

-- the send-back store where the results above `from` and up to `to` are given up
unfoldable pub freed : List ℕ → ℕ → ℕ → List ℕ
freed sent from to = with_places sent (given_up (places_of sent) from (to - from))

-- an acknowledgement that the host's tests let through: the display's last id, and the places of what all have acknowledged now
unfoldable pub acknowledged_with : Held → Lent → ℕ → ℕ → List ℕ → Called
acknowledged_with st x display id area =
    let n : Node = view st x.readings in
    let answer : ℕ = answer_to_acknowledgement st.settings n display id in
    cond (eqb answer 0)
    (record {
      answer = 0;
      records = 0;
      state = with_acknowledged (acknowledging st.acknowledged display id) st;
      lent =
          record {
            readings = x.readings;
            sent = freed x.sent (given_up_to n) (given_up_to (acknowledged_by st.settings n display id));
          };
      area = area;
    })
    (refused_with answer st x area)

unfoldable pub acknowledged_on : Held → Lent → ℕ → ℕ → List ℕ → Called
acknowledged_on st x display id area =
    cond (eqb (first_failed (host_tests st x area)) 0)
    (acknowledged_with st x display id area)
    (refused_with (first_failed (host_tests st x area)) st x area)

-- a fetch that the host's tests let through: the records that stand at the places, from the area's first byte on; nothing else changes
unfoldable pub fetched_with : Held → Lent → ℕ → ℕ → List ℕ → Called
fetched_with st x display from area =
    let n : Node = view st x.readings in
    let answer : ℕ = answer_to_fetch st.settings n display from in
    cond (eqb answer 0)
    (record {
      answer = 0;
      records = fetch_count n from;
      state = st;
      lent = x;
      area = in_front (all_bytes (held_behind (places_of x.sent) (from - 1) (fetch_count n from))) area;
    })
    (refused_with answer st x area)

unfoldable pub fetched_on : Held → Lent → ℕ → ℕ → List ℕ → Called
fetched_on st x display from area =
    cond (eqb (first_failed (host_tests st x area)) 0)
    (fetched_with st x display from area)
    (refused_with (first_failed (host_tests st x area)) st x area)
