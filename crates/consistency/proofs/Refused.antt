-- A call that is refused leaves box and area as they were and gives no record: by the node's laws on refused calls.
use mathlib.Core.Path.{◌≡◌}
use Rattle.node.proofs.Calls.{Untouched, refused_call}
use Rattle.node.proofs.Displays.{refused_acknowledgement, refused_fetch}
use Rattle.consistency.specs.Runs.{Box, Input, called, area_of, left}
use Rattle.consistency.specs.Demand.{Unchanged}

pub untouched : (b : Box) (i : Input) → ((called b i).answer ≡ 0 → ⊥) → Untouched b.state b.lent (area_of i) (called b i)
unfolding called area_of
untouched b (Input.journal text area) e = refused_call b.state b.lent text area e
untouched b (Input.acknowledge display id area) e = refused_acknowledgement b.state b.lent display id area e
untouched b (Input.fetch display from area) e = refused_fetch b.state b.lent display from area e

pub refused : (b : Box) (i : Input) → ((called b i).answer ≡ 0 → ⊥) → Unchanged b i
unfolding Unchanged left
refused b i wasRefused =
    let same = untouched b i wasRefused in
    (λ j. record { state = same.state j; lent = same.lent j }, same.records, same.bytes)

-- so the box behind it is the box before
pub same_box : (b : Box) (i : Input) → ((called b i).answer ≡ 0 → ⊥) → left b i ≡ b
unfolding Unchanged
same_box b i wasRefused = (refused b i wasRefused).0
