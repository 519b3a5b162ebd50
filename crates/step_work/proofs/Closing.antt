-- A bucket's work where its readings are added: a window that it closes is closed, otherwise nothing is given. The numbering has room for a
-- window's results. By the laws on closing and on the shape.
use Prim.Native.Nat.{ℕ, ◌+◌, ◌<◌, ◌^◌}
use mathlib.Core.Path.{◌≡◌, ◌∙◌, ap}
use mathlib.Core.Bool.{true, false}
use mathlib.Core.List.{List, []}
use native.Mathlib.Omega.{arith}
use Rattle.area.specs.Laid.{in_front}
use Rattle.clock.specs.Windows.{closes_window}
use Rattle.record.specs.Layout.{all_bytes}
use Rattle.store.specs.Order.{in_bucket}
use Rattle.store.specs.Columns.{Columns}
use Rattle.operator.specs.Meters.{Operator, meter_count, add_all}
use Rattle.operator.specs.Work.{close}
use Rattle.operator.proofs.Adding.{add_all_number}
use Rattle.operator.proofs.Closing.{work_closes, work_goes_on}
use Rattle.protocol.specs.Node.{kept_of}
use Rattle.protocol.specs.Rules.{worked}
use Rattle.node.specs.Held.{Held}
use Rattle.node.specs.View.{view}
use Rattle.node.proofs.Shape.{StateShape}

-- the operator with bucket j's kept readings added
abbrev pub Adds : Held → Columns → ℕ → Operator → Type 0
Adds st x j next = next ≡ add_all st.settings st.operator (in_bucket st.settings.bucket j (kept_of (view st x).lines))

module _ (st : Held) (x : Columns) (j : ℕ) (next : Operator) (adds : Adds st x j next) where
  pub number_stays : next.number ≡ st.operator.number
  number_stays = ap (λ (o : Operator). o.number) adds ∙ add_all_number st.settings st.operator _

  pub number_room : StateShape st x → next.number + meter_count < 2 ^ 32
  number_room shape = omega (arith, number_stays, shape.numbers.newest, shape.buckets.last)

  module _ (kind : ℕ) where
    pub window_closed :
        closes_window st.settings.window j ≡ true → worked st.settings kind j (view st x) ≡ close st.settings kind j next
    unfolding worked view
    window_closed e = rw adds (work_closes st.settings kind j _ st.operator e)

    -- otherwise the readings are added
    pub window_open : closes_window st.settings.window j ≡ false → next ≡ (worked st.settings kind j (view st x)).operator
    unfolding worked view
    window_open e = rw (work_goes_on st.settings kind j _ st.operator e) adds

-- a bucket that closes no window gives nothing
pub nothing_given :
    (st : Held) (x : Columns) (kind j : ℕ) → closes_window st.settings.window j ≡ false →
    (worked st.settings kind j (view st x)).records ≡ []
unfolding worked view
nothing_given st x kind j e = rw (work_goes_on st.settings kind j _ st.operator e)

-- and leaves the area as it was
pub area_untouched :
    (st : Held) (x : Columns) (kind j : ℕ) (area : List ℕ) → closes_window st.settings.window j ≡ false →
    area ≡ in_front (all_bytes (worked st.settings kind j (view st x)).records) area
unfolding in_front all_bytes
area_untouched st x kind j area e = rw (nothing_given st x kind j e)
